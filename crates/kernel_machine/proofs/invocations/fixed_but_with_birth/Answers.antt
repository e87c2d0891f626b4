use Rattle.kernel_machine.proofs.ServicesStand.{fixed_but_with_birth}
use Rattle.kernel_machine.proofs.invocations.fixed_but_with_birth.Goals as goal

pub returns : goal.returns
returns c = fixed_but_with_birth
