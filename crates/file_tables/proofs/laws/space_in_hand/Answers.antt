use Rattle.file_tables.proofs.HandLaws.{in_hand_again}
use Rattle.file_tables.proofs.laws.space_in_hand.Goals as goal

pub returns : goal.returns
returns c = in_hand_again
