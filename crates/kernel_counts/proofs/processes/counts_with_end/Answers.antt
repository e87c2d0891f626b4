use Rattle.kernel_counts.proofs.DomainCounts.{counts_with_end}
use Rattle.kernel_counts.proofs.processes.counts_with_end.Goals as goal

pub returns : goal.returns
returns c = counts_with_end
