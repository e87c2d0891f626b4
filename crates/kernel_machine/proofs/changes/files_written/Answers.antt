use Rattle.kernel_machine.proofs.MachineLaws.{files_written}
use Rattle.kernel_machine.proofs.changes.files_written.Goals as goal

pub returns : goal.returns
returns c = files_written
