use Rattle.kernel_forest.proofs.InTrees.{root_once}
use Rattle.kernel_forest.proofs.counts.root_is_single.Goals as goal

pub returns : goal.returns
returns c = root_once
