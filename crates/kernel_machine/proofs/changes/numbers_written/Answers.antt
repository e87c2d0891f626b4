use Rattle.kernel_machine.proofs.MachineLaws.{numbers_written}
use Rattle.kernel_machine.proofs.changes.numbers_written.Goals as goal

pub returns : goal.returns
returns c = numbers_written
