use Rattle.file_tables.proofs.RootLaws.{handed_over}
use Rattle.file_tables.proofs.laws.root_handed_over.Goals as goal

pub returns : goal.returns
returns c = handed_over
