use Rattle.kernel_counts.proofs.SpaceCounts.{counts_with_buffer}
use Rattle.kernel_counts.proofs.processes.counts_with_buffer.Goals as goal

pub returns : goal.returns
returns c = counts_with_buffer
