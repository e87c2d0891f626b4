use Rattle.file_tables.proofs.RootLaws.{handed_back}
use Rattle.file_tables.proofs.laws.root_handed_back.Goals as goal

pub returns : goal.returns
returns c = handed_back
