use Rattle.kernel_machine.proofs.StandingLaws.{standing_with_inode}
use Rattle.kernel_machine.proofs.standing.standing_with_inode.Goals as goal

pub returns : goal.returns
returns c = standing_with_inode
