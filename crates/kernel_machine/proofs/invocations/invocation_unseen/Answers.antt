use Rattle.kernel_machine.proofs.InvocationsStand.{invocation_unseen}
use Rattle.kernel_machine.proofs.invocations.invocation_unseen.Goals as goal

pub returns : goal.returns
returns c = invocation_unseen
