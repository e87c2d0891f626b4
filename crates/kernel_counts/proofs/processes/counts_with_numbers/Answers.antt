use Rattle.kernel_counts.proofs.CountsStand.{counts_with_numbers}
use Rattle.kernel_counts.proofs.processes.counts_with_numbers.Goals as goal

pub returns : goal.returns
returns c = counts_with_numbers
