use Rattle.kernel_machine.proofs.SpacesStand.{standing_with_tree}
use Rattle.kernel_machine.proofs.standing.standing_with_tree.Goals as goal

pub returns : goal.returns
returns c = standing_with_tree
