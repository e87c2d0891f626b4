use Rattle.kernel_machine.proofs.LooseLaws.{nothing_loose}
use Rattle.kernel_machine.proofs.loose.nothing_loose.Goals as goal

pub returns : goal.returns
returns c = nothing_loose
