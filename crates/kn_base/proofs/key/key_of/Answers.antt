use Rattle.std.proofs.Common.{◌≡◌, sym, subst, IfSome}
use Rattle.kn_base.specs.Keys.{spelling}
use Rattle.kn_base.proofs.KeyLaws.{spelled_so, none_spelled}
use Rattle.kn_base.proofs.key.key_of.Goals as goal

-- what was read is what the bytes spell
pub returns-clause-spelled_so : goal.returns-clause-spelled_so
returns-clause-spelled_so c = subst (λ read. IfSome read (λ key. spelling key ≡ c.args.bytes)) (sym c.read_key.ensures) (spelled_so c.args.bytes)

pub returns-clause-no_spelling : goal.returns-clause-no_spelling
returns-clause-no_spelling c = none_spelled c.args.bytes c.read_key.result c.read_key.ensures
