use Rattle.kernel_counts.proofs.NamesStand.{names_kept}
use Rattle.kernel_counts.proofs.files.names_kept.Goals as goal

pub returns : goal.returns
returns c = names_kept
