use Rattle.kernel_machine.proofs.BirthStands.{standing_with_domain}
use Rattle.kernel_machine.proofs.loose.standing_with_domain.Goals as goal

pub returns : goal.returns
returns c = standing_with_domain
