use Rattle.kernel_forest.proofs.Moves.{raises_page}
use Rattle.kernel_forest.proofs.changes.raises_tree_page.Goals as goal

pub returns : goal.returns
returns c = raises_page
