use Rattle.kernel_machine.proofs.SpacesStand.{standing_with_loose}
use Rattle.kernel_machine.proofs.loose.standing_with_loose.Goals as goal

pub returns : goal.returns
returns c = standing_with_loose
