use Rattle.file_tables.proofs.PageLaws.{page_given_back}
use Rattle.file_tables.proofs.laws.other_page_given.Goals as goal

pub returns : goal.returns
returns c = page_given_back
