use Rattle.unix_laws.proofs.FewParents.{within-moved}
use Rattle.unix_laws.proofs.tree.ways_stay.Goals as goal

pub returns : goal.returns
returns c = within-moved
