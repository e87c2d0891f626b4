use Rattle.kernel_machine.proofs.KeepLaws.{fixed_with_gone}
use Rattle.kernel_machine.proofs.keeps.fixed_with_gone.Goals as goal

pub returns : goal.returns
returns c = fixed_with_gone
