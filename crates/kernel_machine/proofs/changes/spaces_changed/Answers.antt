use Rattle.kernel_machine.proofs.MachineLaws.{spaces_changed}
use Rattle.kernel_machine.proofs.changes.spaces_changed.Goals as goal

pub returns : goal.returns
returns c = spaces_changed
