use Rattle.kernel_counts.proofs.SpaceCounts.{counts_with_loose}
use Rattle.kernel_counts.proofs.spaces.counts_with_loose.Goals as goal

pub returns : goal.returns
returns c = counts_with_loose
