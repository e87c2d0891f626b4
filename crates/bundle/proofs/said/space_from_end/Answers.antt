use Rattle.std.proofs.Common.{sym, ◌∙◌}
use Rattle.bundle.proofs.WordLaws.{first-is}
use Rattle.bundle.proofs.said.space_from_end.Goals as goal

pub returns-else-contains-clause-place : goal.returns-else-contains-clause-place
returns-else-contains-clause-place c =
    sym (first-is c.args.text.now c.in-Some.at c.in-Some.ensures.inside c.in-Some.ensures.there (sym c.contains.ensures.value ∙ c.if-contains.false))
