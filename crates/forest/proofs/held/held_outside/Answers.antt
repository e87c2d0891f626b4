use Rattle.forest.proofs.ThinLaws.{held_outside}
use Rattle.forest.proofs.held.held_outside.Goals as goal

pub returns : goal.returns
returns c = held_outside
