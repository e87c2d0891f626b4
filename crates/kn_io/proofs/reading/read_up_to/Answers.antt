use Rattle.std.proofs.Common.{◌∷◌, [], ◌++◌, arith, refl, length}
use Rattle.std.proofs.lemmas.Grind.{common_steps}
use Rattle.kn_io.proofs.reading.read_up_to.Goals as goal

pub returns-then-len-most-clause-error : goal.returns-then-len-most-clause-error
returns-then-len-most-clause-error g c = (
  c.reading.read.items ++ c.in-Ok-Some.byte ∷ [],
  grind (arith, common_steps),
  grind (arith, common_steps),
)

pub returns-in-Err-push-clause-error : goal.returns-in-Err-push-clause-error
returns-in-Err-push-clause-error g c = (
  length (c.reading.read.items ++ c.in-Ok-Some.byte ∷ []),
  grind (arith, common_steps),
  (c.reading.read.items ++ c.in-Ok-Some.byte ∷ [], refl, grind (arith, common_steps)),
)
