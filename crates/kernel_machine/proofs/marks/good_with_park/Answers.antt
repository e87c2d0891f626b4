use Rattle.kernel_machine.proofs.MarksStand.{good_with_park}
use Rattle.kernel_machine.proofs.marks.good_with_park.Goals as goal

pub returns : goal.returns
returns c = good_with_park
