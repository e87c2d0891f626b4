use Rattle.kernel_machine.proofs.UntakenLaws.{untaken_is_held}
use Rattle.kernel_machine.proofs.bounds.untaken_is_held.Goals as goal

pub returns : goal.returns
returns c = untaken_is_held
