use Rattle.kernel_machine.proofs.MarksStand.{good_with_wake}
use Rattle.kernel_machine.proofs.marks.good_with_wake.Goals as goal

pub returns : goal.returns
returns c = good_with_wake
