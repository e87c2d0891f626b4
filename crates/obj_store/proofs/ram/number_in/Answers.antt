use Rattle.std.proofs.Common.{◌∙◌, ap, sym, Some}
use Rattle.kn_base.specs.declared.key.Key.TheVariants.{Number}
use Rattle.obj_store.proofs.Numbers.{number_spelled}
use Rattle.obj_store.proofs.ram.number_in.Goals as goal

pub returns-then-kind-eq1 : goal.returns-then-kind-eq1
returns-then-kind-eq1 c = λ spelled. number_spelled c.args.bytes c.if-kind-eq1.true spelled ∙ ap (λ b. Some (Number b)) (sym c.body_in.ensures)
