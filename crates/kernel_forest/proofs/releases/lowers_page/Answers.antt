use Rattle.kernel_forest.proofs.Giving.{lets_page_lowered}
use Rattle.kernel_forest.proofs.releases.lowers_page.Goals as goal

pub returns : goal.returns
returns c = lets_page_lowered
