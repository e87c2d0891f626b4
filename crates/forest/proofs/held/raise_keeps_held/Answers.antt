use Rattle.forest.proofs.HeldLaws.{raise_keeps_held}
use Rattle.forest.proofs.held.raise_keeps_held.Goals as goal

pub returns : goal.returns
returns c = raise_keeps_held
