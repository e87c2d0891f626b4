use Rattle.kernel_machine.proofs.MarksStand.{slots_are_named}
use Rattle.kernel_machine.proofs.marks.slots_are_named.Goals as goal

pub returns : goal.returns
returns c = slots_are_named
