use Rattle.kernel_machine.proofs.KeepLaws.{fixed_with_rows}
use Rattle.kernel_machine.proofs.keeps.fixed_with_rows.Goals as goal

pub returns : goal.returns
returns c = fixed_with_rows
