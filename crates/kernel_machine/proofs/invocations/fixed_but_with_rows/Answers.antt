use Rattle.kernel_machine.proofs.ServicesStand.{fixed_but_with_rows}
use Rattle.kernel_machine.proofs.invocations.fixed_but_with_rows.Goals as goal

pub returns : goal.returns
returns c = fixed_but_with_rows
