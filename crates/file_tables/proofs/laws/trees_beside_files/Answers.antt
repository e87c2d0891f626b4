use Rattle.file_tables.proofs.RootLaws.{trees_beside}
use Rattle.file_tables.proofs.laws.trees_beside_files.Goals as goal

pub returns : goal.returns
returns c = trees_beside
