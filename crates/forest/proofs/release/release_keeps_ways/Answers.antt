use Rattle.forest.proofs.KeptWays.{release_keeps_ways}
use Rattle.forest.proofs.release.release_keeps_ways.Goals as goal

pub returns : goal.returns
returns c = release_keeps_ways
