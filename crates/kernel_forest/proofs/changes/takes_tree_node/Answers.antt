use Rattle.kernel_forest.proofs.Moves.{takes_fresh}
use Rattle.kernel_forest.proofs.changes.takes_tree_node.Goals as goal

pub returns : goal.returns
returns c = takes_fresh
