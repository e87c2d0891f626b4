use Rattle.kernel_machine.proofs.SetLaws.{description_set}
use Rattle.kernel_machine.proofs.calls.description_set.Goals as goal

pub returns : goal.returns
returns c = description_set
