use Rattle.file_tables.proofs.RootLaws.{kept}
use Rattle.file_tables.proofs.laws.root_kept.Goals as goal

pub returns : goal.returns
returns c = kept
