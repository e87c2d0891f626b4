use Rattle.kernel_counts.proofs.CountsStand.{counts_with_invocation}
use Rattle.kernel_counts.proofs.processes.counts_with_invocation.Goals as goal

pub returns : goal.returns
returns c = counts_with_invocation
