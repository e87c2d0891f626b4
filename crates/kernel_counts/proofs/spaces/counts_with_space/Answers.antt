use Rattle.kernel_counts.proofs.SpaceCounts.{counts_with_space}
use Rattle.kernel_counts.proofs.spaces.counts_with_space.Goals as goal

pub returns : goal.returns
returns c = counts_with_space
