use Rattle.kernel_machine.proofs.GoodBounds.{taken_are_promised}
use Rattle.kernel_machine.proofs.bounds.taken_are_promised.Goals as goal

pub returns : goal.returns
returns c = taken_are_promised
