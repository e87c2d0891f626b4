use Rattle.kernel_machine.proofs.ServicesStand.{fixed_are_settled}
use Rattle.kernel_machine.proofs.invocations.fixed_are_settled.Goals as goal

pub returns : goal.returns
returns c = fixed_are_settled
