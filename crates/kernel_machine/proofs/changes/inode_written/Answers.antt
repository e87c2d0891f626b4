use Rattle.kernel_machine.proofs.MachineLaws.{inode_written}
use Rattle.kernel_machine.proofs.changes.inode_written.Goals as goal

pub returns : goal.returns
returns c = inode_written
