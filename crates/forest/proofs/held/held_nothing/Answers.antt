use Rattle.forest.proofs.ThinLaws.{held_nothing}
use Rattle.forest.proofs.held.held_nothing.Goals as goal

pub returns : goal.returns
returns c = held_nothing
