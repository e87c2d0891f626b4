use Rattle.kernel_machine.proofs.SpacesStand.{replace_leaves}
use Rattle.kernel_machine.proofs.standing.replace_leaves.Goals as goal

pub returns : goal.returns
returns c = replace_leaves
