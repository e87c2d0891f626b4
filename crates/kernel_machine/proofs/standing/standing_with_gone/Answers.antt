use Rattle.kernel_machine.proofs.EndStands.{standing_with_gone}
use Rattle.kernel_machine.proofs.standing.standing_with_gone.Goals as goal

pub returns : goal.returns
returns c = standing_with_gone
