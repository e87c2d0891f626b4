use Rattle.forest.proofs.EmptyLaws.{descent_leaves_last_empty}
use Rattle.forest.proofs.empty.descent_leaves_last_empty.Goals as goal

pub returns : goal.returns
returns c = descent_leaves_last_empty
