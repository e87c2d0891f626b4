use Rattle.kernel_counts.proofs.SpaceCounts.{counts_without_page}
use Rattle.kernel_counts.proofs.processes.counts_without_page.Goals as goal

pub returns : goal.returns
returns c = counts_without_page
