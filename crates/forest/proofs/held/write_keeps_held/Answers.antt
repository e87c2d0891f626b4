use Rattle.forest.proofs.WriteHeld.{write_keeps_held}
use Rattle.forest.proofs.held.write_keeps_held.Goals as goal

pub returns : goal.returns
returns c = write_keeps_held
