use Rattle.kernel_machine.proofs.MarksStand.{marks_unseen}
use Rattle.kernel_machine.proofs.marks.marks_unseen.Goals as goal

pub returns : goal.returns
returns c = marks_unseen
