use Rattle.kernel_machine.proofs.DropStands.{standing_with_space_set}
use Rattle.kernel_machine.proofs.loose.standing_with_space_set.Goals as goal

pub returns : goal.returns
returns c = standing_with_space_set
