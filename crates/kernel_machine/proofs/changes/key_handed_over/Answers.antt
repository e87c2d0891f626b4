use Rattle.kernel_machine.proofs.MachineLaws.{key_handed_over}
use Rattle.kernel_machine.proofs.changes.key_handed_over.Goals as goal

pub returns : goal.returns
returns c = key_handed_over
