use Rattle.kernel_forest.proofs.NoTree.{takes_row}
use Rattle.kernel_forest.proofs.changes.takes_domain_node.Goals as goal

pub returns : goal.returns
returns c = takes_row
