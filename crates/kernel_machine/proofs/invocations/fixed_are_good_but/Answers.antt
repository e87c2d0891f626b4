use Rattle.kernel_machine.proofs.ServicesStand.{fixed_are_good_but}
use Rattle.kernel_machine.proofs.invocations.fixed_are_good_but.Goals as goal

pub returns : goal.returns
returns c = fixed_are_good_but
