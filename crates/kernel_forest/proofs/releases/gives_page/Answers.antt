use Rattle.kernel_forest.proofs.Giving.{lets_page_given}
use Rattle.kernel_forest.proofs.releases.gives_page.Goals as goal

pub returns : goal.returns
returns c = lets_page_given
