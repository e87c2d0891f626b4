use Rattle.kernel_forest.proofs.Moves.{raises_node}
use Rattle.kernel_forest.proofs.changes.raises_tree_node.Goals as goal

pub returns : goal.returns
returns c = raises_node
