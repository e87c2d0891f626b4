use Rattle.std.proofs.Common.{arith}
use Rattle.bundle.proofs.WordLaws.{none-there}
use Rattle.bundle.proofs.said.last_space.Goals as goal

pub returns-clause-none : goal.returns-clause-none
returns-clause-none c = none-there c.args.text.now (λ k below. c.looking.invariant.none k (omega (arith, c.looking-test.false)) below)
