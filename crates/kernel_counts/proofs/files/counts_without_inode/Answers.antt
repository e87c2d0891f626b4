use Rattle.kernel_counts.proofs.NamesStand.{counts_without_inode}
use Rattle.kernel_counts.proofs.files.counts_without_inode.Goals as goal

pub returns : goal.returns
returns c = counts_without_inode
