use Rattle.kernel_machine.proofs.PageBounds.{pages_accounted}
use Rattle.kernel_machine.proofs.bounds.pages_accounted.Goals as goal

pub returns : goal.returns
returns c = pages_accounted
