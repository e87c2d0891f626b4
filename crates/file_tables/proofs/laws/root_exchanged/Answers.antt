use Rattle.file_tables.proofs.RootLaws.{exchanged}
use Rattle.file_tables.proofs.laws.root_exchanged.Goals as goal

pub returns : goal.returns
returns c = exchanged
