use Rattle.kernel_machine.proofs.ViewLaws.{inode_freed}
use Rattle.kernel_machine.proofs.views.inode_freed.Goals as goal

pub returns : goal.returns
returns c = inode_freed
