use Rattle.kernel_forest.proofs.TakingPages.{takes_page}
use Rattle.kernel_forest.proofs.changes.takes_tree_page.Goals as goal

pub returns : goal.returns
returns c = takes_page
