use Rattle.kernel_counts.proofs.ExactCounts.{counts_are_exact}
use Rattle.kernel_counts.proofs.settled.counts_are_exact.Goals as goal

pub returns : goal.returns
returns c = counts_are_exact
