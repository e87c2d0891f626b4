use Rattle.kernel_machine.proofs.BirthStands.{standing_with_birth}
use Rattle.kernel_machine.proofs.standing.standing_with_birth.Goals as goal

pub returns : goal.returns
returns c = standing_with_birth
