use Rattle.file_tables.proofs.PageLaws.{page_taken}
use Rattle.file_tables.proofs.laws.other_page_taken.Goals as goal

pub returns : goal.returns
returns c = page_taken
