use Rattle.forest.proofs.DescentLaws.{makes_way_own}
use Rattle.forest.proofs.own.makes_way_own.Goals as goal

pub returns : goal.returns
returns c = makes_way_own
