use Rattle.file_tables.proofs.FreshLaws.{fresh_good}
use Rattle.file_tables.proofs.laws.fresh_files_are_good.Goals as goal

pub returns : goal.returns
returns c = fresh_good
