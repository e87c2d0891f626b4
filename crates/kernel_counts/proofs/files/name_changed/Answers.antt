use Rattle.kernel_counts.proofs.TallyLaws.{name_changed}
use Rattle.kernel_counts.proofs.files.name_changed.Goals as goal

pub returns : goal.returns
returns c = name_changed
