use Rattle.forest.proofs.ReleaseLaws.{release_goes_down}
use Rattle.forest.proofs.release.release_goes_down.Goals as goal

pub returns : goal.returns
returns c = release_goes_down
