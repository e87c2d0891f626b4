use Rattle.kernel_counts.proofs.SpaceCounts.{counts_without_buffer}
use Rattle.kernel_counts.proofs.processes.counts_without_buffer.Goals as goal

pub returns : goal.returns
returns c = counts_without_buffer
