use Rattle.kernel_counts.proofs.ExactCounts.{counts_settle}
use Rattle.kernel_counts.proofs.settled.counts_settle.Goals as goal

pub returns : goal.returns
returns c = counts_settle
