use Rattle.kernel_machine.proofs.ServicesStand.{fixed_with_invocation}
use Rattle.kernel_machine.proofs.invocations.fixed_with_invocation.Goals as goal

pub returns : goal.returns
returns c = fixed_with_invocation
