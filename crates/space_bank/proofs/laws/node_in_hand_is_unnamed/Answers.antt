use Rattle.space_bank.proofs.HandLaws.{node-in_hand_unnamed}
use Rattle.space_bank.proofs.laws.node_in_hand_is_unnamed.Goals as goal

pub returns : goal.returns
returns c = node-in_hand_unnamed
