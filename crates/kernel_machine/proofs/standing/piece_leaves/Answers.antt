use Rattle.kernel_machine.proofs.SpacesStand.{piece_leaves}
use Rattle.kernel_machine.proofs.standing.piece_leaves.Goals as goal

pub returns : goal.returns
returns c = piece_leaves
