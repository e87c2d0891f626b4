use Rattle.forest.proofs.HeldLaws.{hand_in_keeps_held}
use Rattle.forest.proofs.held.hand_in_keeps_held.Goals as goal

pub returns : goal.returns
returns c = hand_in_keeps_held
