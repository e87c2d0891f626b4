use Rattle.kernel_machine.proofs.MachineLaws.{description_written}
use Rattle.kernel_machine.proofs.changes.description_written.Goals as goal

pub returns : goal.returns
returns c = description_written
