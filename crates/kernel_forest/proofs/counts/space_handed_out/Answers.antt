use Rattle.kernel_forest.proofs.Outside.{space_out}
use Rattle.kernel_forest.proofs.counts.space_handed_out.Goals as goal

pub returns : goal.returns
returns c = space_out
