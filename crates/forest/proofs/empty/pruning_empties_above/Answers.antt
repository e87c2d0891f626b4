use Rattle.forest.proofs.EmptyLaws.{pruning_empties_above}
use Rattle.forest.proofs.empty.pruning_empties_above.Goals as goal

pub returns : goal.returns
returns c = pruning_empties_above
