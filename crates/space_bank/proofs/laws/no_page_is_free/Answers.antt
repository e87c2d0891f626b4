use Rattle.space_bank.proofs.FullLaws.{no_page-free}
use Rattle.space_bank.proofs.laws.no_page_is_free.Goals as goal

pub returns : goal.returns
returns c = no_page-free
