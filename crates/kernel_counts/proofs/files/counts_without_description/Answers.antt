use Rattle.kernel_counts.proofs.CountsStand.{counts_without_description}
use Rattle.kernel_counts.proofs.files.counts_without_description.Goals as goal

pub returns : goal.returns
returns c = counts_without_description
