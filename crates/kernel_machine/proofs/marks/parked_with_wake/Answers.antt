use Rattle.kernel_machine.proofs.MarksStand.{parked_with_wake}
use Rattle.kernel_machine.proofs.marks.parked_with_wake.Goals as goal

pub returns : goal.returns
returns c = parked_with_wake
