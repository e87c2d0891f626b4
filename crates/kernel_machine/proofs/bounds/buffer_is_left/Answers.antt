use Rattle.kernel_machine.proofs.PagesLeft.{buffer_is_left}
use Rattle.kernel_machine.proofs.bounds.buffer_is_left.Goals as goal

pub returns : goal.returns
returns c = buffer_is_left
