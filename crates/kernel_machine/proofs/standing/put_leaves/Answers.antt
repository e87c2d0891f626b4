use Rattle.kernel_machine.proofs.SpacesStand.{put_leaves}
use Rattle.kernel_machine.proofs.standing.put_leaves.Goals as goal

pub returns : goal.returns
returns c = put_leaves
