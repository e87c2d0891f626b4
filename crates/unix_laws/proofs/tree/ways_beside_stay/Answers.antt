use Rattle.unix_laws.proofs.FewParents.{within-beside}
use Rattle.unix_laws.proofs.tree.ways_beside_stay.Goals as goal

pub returns : goal.returns
returns c = within-beside
