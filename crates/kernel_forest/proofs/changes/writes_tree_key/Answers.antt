use Rattle.kernel_forest.proofs.Moves.{puts_key}
use Rattle.kernel_forest.proofs.changes.writes_tree_key.Goals as goal

pub returns : goal.returns
returns c = puts_key
