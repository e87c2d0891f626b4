use Rattle.kernel_machine.proofs.PagesLeft.{blank_is_left}
use Rattle.kernel_machine.proofs.bounds.blank_is_left.Goals as goal

pub returns : goal.returns
returns c = blank_is_left
