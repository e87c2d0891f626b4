use Rattle.forest.proofs.ReachLaws.{everything_is_reached}
use Rattle.forest.proofs.reach.everything_is_reached.Goals as goal

pub returns : goal.returns
returns c = everything_is_reached
