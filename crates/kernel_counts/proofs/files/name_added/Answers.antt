use Rattle.kernel_counts.proofs.TallyLaws.{name_added}
use Rattle.kernel_counts.proofs.files.name_added.Goals as goal

pub returns : goal.returns
returns c = name_added
