use Rattle.kernel_machine.proofs.SetLaws.{inode_set}
use Rattle.kernel_machine.proofs.calls.inode_set.Goals as goal

pub returns : goal.returns
returns c = inode_set
