use Rattle.kernel_machine.proofs.HeldLaws.{held_with_inode}
use Rattle.kernel_machine.proofs.bounds.held_with_inode.Goals as goal

pub returns : goal.returns
returns c = held_with_inode
