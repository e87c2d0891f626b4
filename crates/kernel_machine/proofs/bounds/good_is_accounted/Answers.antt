use Rattle.kernel_machine.proofs.GoodBounds.{good_is_accounted}
use Rattle.kernel_machine.proofs.bounds.good_is_accounted.Goals as goal

pub returns : goal.returns
returns c = good_is_accounted
