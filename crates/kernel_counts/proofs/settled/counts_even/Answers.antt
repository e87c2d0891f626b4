use Rattle.kernel_counts.proofs.CountsStand.{counts_even}
use Rattle.kernel_counts.proofs.settled.counts_even.Goals as goal

pub returns : goal.returns
returns c = counts_even
