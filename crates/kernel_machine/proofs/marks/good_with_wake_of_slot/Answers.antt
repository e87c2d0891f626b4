use Rattle.kernel_machine.proofs.MarksStand.{good_with_wake_of_slot}
use Rattle.kernel_machine.proofs.marks.good_with_wake_of_slot.Goals as goal

pub returns : goal.returns
returns c = good_with_wake_of_slot
