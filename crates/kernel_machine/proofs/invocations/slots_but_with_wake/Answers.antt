use Rattle.kernel_machine.proofs.InvocationsStand.{slots_but_with_wake}
use Rattle.kernel_machine.proofs.invocations.slots_but_with_wake.Goals as goal

pub returns : goal.returns
returns c = slots_but_with_wake
