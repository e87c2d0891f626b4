use Rattle.kernel_forest.proofs.Empty.{empty_good}
use Rattle.kernel_forest.proofs.counts.empty_is_good.Goals as goal

pub returns : goal.returns
returns c = empty_good
