use Rattle.forest.proofs.ReleaseLaws.{release_keeps_spaces}
use Rattle.forest.proofs.release.release_keeps_spaces.Goals as goal

pub returns : goal.returns
returns c = release_keeps_spaces
