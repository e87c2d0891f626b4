use Rattle.kernel_machine.proofs.GoodBounds.{nodes_are_free}
use Rattle.kernel_machine.proofs.bounds.nodes_are_free.Goals as goal

pub returns : goal.returns
returns c = nodes_are_free
