use Rattle.kernel_machine.proofs.SpacesStand.{remap_leaves}
use Rattle.kernel_machine.proofs.standing.remap_leaves.Goals as goal

pub returns : goal.returns
returns c = remap_leaves
