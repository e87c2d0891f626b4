use Rattle.forest.proofs.HeldLaws.{take_keeps_held}
use Rattle.forest.proofs.held.take_keeps_held.Goals as goal

pub returns : goal.returns
returns c = take_keeps_held
