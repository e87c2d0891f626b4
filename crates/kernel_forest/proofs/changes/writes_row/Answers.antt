use Rattle.kernel_forest.proofs.NoTree.{puts_row}
use Rattle.kernel_forest.proofs.changes.writes_row.Goals as goal

pub returns : goal.returns
returns c = puts_row
