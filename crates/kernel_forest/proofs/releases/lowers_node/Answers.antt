use Rattle.kernel_forest.proofs.GivingNodes.{lets_node_lowered}
use Rattle.kernel_forest.proofs.releases.lowers_node.Goals as goal

pub returns : goal.returns
returns c = lets_node_lowered
