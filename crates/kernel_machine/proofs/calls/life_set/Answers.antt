use Rattle.kernel_machine.proofs.SetLaws.{life_set}
use Rattle.kernel_machine.proofs.calls.life_set.Goals as goal

pub returns : goal.returns
returns c = life_set
