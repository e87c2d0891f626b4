use Rattle.file_tables.proofs.FreshLaws.{fresh_nothing}
use Rattle.file_tables.proofs.laws.fresh_files_name_nothing.Goals as goal

pub returns : goal.returns
returns c = fresh_nothing
