use Rattle.kernel_machine.proofs.InvocationsStand.{slots_but_with_domain}
use Rattle.kernel_machine.proofs.invocations.slots_but_with_domain.Goals as goal

pub returns : goal.returns
returns c = slots_but_with_domain
