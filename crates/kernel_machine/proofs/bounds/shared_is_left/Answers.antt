use Rattle.kernel_machine.proofs.SharedPages.{shared_is_left}
use Rattle.kernel_machine.proofs.bounds.shared_is_left.Goals as goal

pub returns : goal.returns
returns c = shared_is_left
