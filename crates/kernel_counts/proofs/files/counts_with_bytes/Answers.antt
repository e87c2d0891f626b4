use Rattle.kernel_counts.proofs.NamesStand.{counts_with_bytes}
use Rattle.kernel_counts.proofs.files.counts_with_bytes.Goals as goal

pub returns : goal.returns
returns c = counts_with_bytes
