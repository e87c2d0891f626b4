use Rattle.forest.proofs.ReleaseLaws.{release_leaves_none_empty}
use Rattle.forest.proofs.empty.release_leaves_none_empty.Goals as goal

pub returns : goal.returns
returns c = release_leaves_none_empty
