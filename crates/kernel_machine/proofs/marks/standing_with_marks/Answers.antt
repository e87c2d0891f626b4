use Rattle.kernel_machine.proofs.MarksStand.{standing_with_marks}
use Rattle.kernel_machine.proofs.marks.standing_with_marks.Goals as goal

pub returns : goal.returns
returns c = standing_with_marks
