use Rattle.kernel_machine.proofs.DropStands.{standing_with_space_dropped}
use Rattle.kernel_machine.proofs.loose.standing_with_space_dropped.Goals as goal

pub returns : goal.returns
returns c = standing_with_space_dropped
