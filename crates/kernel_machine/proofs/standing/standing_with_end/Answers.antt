use Rattle.kernel_machine.proofs.EndStands.{standing_with_end}
use Rattle.kernel_machine.proofs.standing.standing_with_end.Goals as goal

pub returns : goal.returns
returns c = standing_with_end
