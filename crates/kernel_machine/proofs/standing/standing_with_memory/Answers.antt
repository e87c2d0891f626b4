use Rattle.kernel_machine.proofs.SpacesStand.{standing_with_memory}
use Rattle.kernel_machine.proofs.standing.standing_with_memory.Goals as goal

pub returns : goal.returns
returns c = standing_with_memory
