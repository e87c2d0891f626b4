use Rattle.std.proofs.Common.{sym, ◌∙◌}
use Rattle.bundle.specs.Keys.{known_of}
use Rattle.bundle.proofs.AllowedLaws.{no-parent, with-parent}
use Rattle.bundle.proofs.PathLaws.{short, short-front}
use Rattle.bundle.proofs.known.Known.add.Goals as goal

pub has_parent-requires : goal.has_parent-requires
has_parent-requires c = short-front c.args.path.now c.in-Some.form.last_slash (sym c.in-Some.ensures.long ∙ c.if-form.false) c.in-Some.ensures.inside

pub returns-then-not-has_parent-clause-allowed : goal.returns-then-not-has_parent-clause-allowed
returns-then-not-has_parent-clause-allowed c =
    no-parent (known_of c.args.self.now.paths) c.args.path.now _ (sym c.in-Some.ensures.path) (sym c.in-Some.ensures.long ∙ c.if-form.false) c.in-Some.ensures.parent (sym c.if-not-has_parent.ensures.value)

pub add_new-requires : goal.add_new-requires
add_new-requires c = short c.args.path.now (sym c.in-Some.ensures.long ∙ c.if-form.false)

pub returns-clause-allowed : goal.returns-clause-allowed
returns-clause-allowed c =
    with-parent (known_of c.args.self.now.paths) c.args.path.now _ c.add_new.result (sym c.in-Some.ensures.path) (sym c.in-Some.ensures.long ∙ c.if-form.false) c.in-Some.ensures.parent (sym c.if-not-has_parent.ensures.value) (rw c.has_parent.ensures.same at c.add_new.ensures.new)
