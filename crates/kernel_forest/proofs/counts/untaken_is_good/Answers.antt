use Rattle.kernel_forest.proofs.Empty.{untaken_good}
use Rattle.kernel_forest.proofs.counts.untaken_is_good.Goals as goal

pub returns : goal.returns
returns c = untaken_good
