use Rattle.forest.proofs.ReleaseLaws.{release_gives_unnamed}
use Rattle.forest.proofs.release.release_gives_unnamed.Goals as goal

pub returns : goal.returns
returns c = release_gives_unnamed
