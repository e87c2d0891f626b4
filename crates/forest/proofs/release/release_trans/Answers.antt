use Rattle.forest.proofs.ThinLaws.{release_trans}
use Rattle.forest.proofs.release.release_trans.Goals as goal

pub returns : goal.returns
returns c = release_trans
