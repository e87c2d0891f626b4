use Rattle.forest.proofs.ThinLaws.{release_thins}
use Rattle.forest.proofs.release.release_thins.Goals as goal

pub returns : goal.returns
returns c = release_thins
