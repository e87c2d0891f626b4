use Rattle.kernel_counts.proofs.DomainCounts.{counts_with_birth}
use Rattle.kernel_counts.proofs.processes.counts_with_birth.Goals as goal

pub returns : goal.returns
returns c = counts_with_birth
