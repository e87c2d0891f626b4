use Rattle.forest.proofs.HeldLaws.{hand_out_keeps_held}
use Rattle.forest.proofs.held.hand_out_keeps_held.Goals as goal

pub returns : goal.returns
returns c = hand_out_keeps_held
