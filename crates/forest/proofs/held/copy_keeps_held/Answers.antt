use Rattle.forest.proofs.CopyHeld.{copy_keeps_held}
use Rattle.forest.proofs.held.copy_keeps_held.Goals as goal

pub returns : goal.returns
returns c = copy_keeps_held
