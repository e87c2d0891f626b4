use Rattle.kernel_machine.proofs.RootStands.{standing_with_new_inode}
use Rattle.kernel_machine.proofs.loose.standing_with_new_inode.Goals as goal

pub returns : goal.returns
returns c = standing_with_new_inode
