use Rattle.kernel_machine.proofs.ViewLaws.{inode_changed}
use Rattle.kernel_machine.proofs.views.inode_changed.Goals as goal

pub returns : goal.returns
returns c = inode_changed
