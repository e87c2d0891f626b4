use Rattle.kernel_machine.proofs.NodeBounds.{nodes_accounted}
use Rattle.kernel_machine.proofs.bounds.nodes_accounted.Goals as goal

pub returns : goal.returns
returns c = nodes_accounted
