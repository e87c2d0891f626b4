use Rattle.kernel_forest.proofs.NoTree.{gives_row}
use Rattle.kernel_forest.proofs.changes.gives_domain_node.Goals as goal

pub returns : goal.returns
returns c = gives_row
