use Rattle.kernel_machine.proofs.InvocationsStand.{standing_with_invocation}
use Rattle.kernel_machine.proofs.invocations.standing_with_invocation.Goals as goal

pub returns : goal.returns
returns c = standing_with_invocation
