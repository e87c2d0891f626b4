use Rattle.kernel_machine.proofs.InvocationsStand.{slots_with_invocation}
use Rattle.kernel_machine.proofs.invocations.slots_with_invocation.Goals as goal

pub returns : goal.returns
returns c = slots_with_invocation
