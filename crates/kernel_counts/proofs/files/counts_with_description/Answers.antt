use Rattle.kernel_counts.proofs.CountsStand.{counts_with_description}
use Rattle.kernel_counts.proofs.files.counts_with_description.Goals as goal

pub returns : goal.returns
returns c = counts_with_description
