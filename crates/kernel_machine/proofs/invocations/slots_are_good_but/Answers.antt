use Rattle.kernel_machine.proofs.InvocationsStand.{slots_are_good_but}
use Rattle.kernel_machine.proofs.invocations.slots_are_good_but.Goals as goal

pub returns : goal.returns
returns c = slots_are_good_but
