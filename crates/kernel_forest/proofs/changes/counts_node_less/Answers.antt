use Rattle.kernel_forest.proofs.Moves.{lowers_node}
use Rattle.kernel_forest.proofs.changes.counts_node_less.Goals as goal

pub returns : goal.returns
returns c = lowers_node
