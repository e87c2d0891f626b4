use Rattle.kernel_forest.proofs.GivingNodes.{gives_node}
use Rattle.kernel_forest.proofs.releases.gives_node.Goals as goal

pub returns : goal.returns
returns c = gives_node
