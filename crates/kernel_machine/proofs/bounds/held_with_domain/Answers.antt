use Rattle.kernel_machine.proofs.HeldLaws.{held_with_domain}
use Rattle.kernel_machine.proofs.bounds.held_with_domain.Goals as goal

pub returns : goal.returns
returns c = held_with_domain
