use Rattle.kernel_machine.proofs.OwnStands.{owns_leaves}
use Rattle.kernel_machine.proofs.standing.owns_leaves.Goals as goal

pub returns : goal.returns
returns c = owns_leaves
