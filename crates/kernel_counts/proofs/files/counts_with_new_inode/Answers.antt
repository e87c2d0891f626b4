use Rattle.kernel_counts.proofs.NamesStand.{counts_with_new_inode}
use Rattle.kernel_counts.proofs.files.counts_with_new_inode.Goals as goal

pub returns : goal.returns
returns c = counts_with_new_inode
