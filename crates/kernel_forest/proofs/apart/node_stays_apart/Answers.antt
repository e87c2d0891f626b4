use Rattle.kernel_forest.proofs.ApartLaws.{node_stays_apart}
use Rattle.kernel_forest.proofs.apart.node_stays_apart.Goals as goal

pub returns : goal.returns
returns c = node_stays_apart
