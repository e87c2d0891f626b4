use Rattle.kernel_machine.proofs.AddStands.{standing_with_space}
use Rattle.kernel_machine.proofs.loose.standing_with_space.Goals as goal

pub returns : goal.returns
returns c = standing_with_space
