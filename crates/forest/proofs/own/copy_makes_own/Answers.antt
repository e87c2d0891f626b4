use Rattle.forest.proofs.CopyLaws.{copy_makes_own}
use Rattle.forest.proofs.own.copy_makes_own.Goals as goal

pub returns : goal.returns
returns c = copy_makes_own
