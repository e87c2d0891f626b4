use Rattle.forest.proofs.LabelLaws.{taken_is_different}
use Rattle.forest.proofs.reach.taken_is_different.Goals as goal

pub returns : goal.returns
returns c = taken_is_different
