use Rattle.plan.proofs.Dividing.{turns-given, slot-inside}
use Rattle.std.proofs.Common.{arith}
use Rattle.plan.proofs.round.round_slot.Goals as goal

pub nonzero_div-result : goal.nonzero_div-result
nonzero_div-result c = turns-given c.args.position c.args.quantum c.requires.inside

pub overflow_cast-result : goal.overflow_cast-result
overflow_cast-result c = omega (arith, slot-inside c.args.position c.args.quantum c.requires.inside)
