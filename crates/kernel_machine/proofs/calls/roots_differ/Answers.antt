use Rattle.kernel_machine.proofs.SetLaws.{roots_differ}
use Rattle.kernel_machine.proofs.calls.roots_differ.Goals as goal

pub returns : goal.returns
returns c = roots_differ
