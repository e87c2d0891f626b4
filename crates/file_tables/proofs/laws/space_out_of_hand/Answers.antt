use Rattle.file_tables.proofs.HandLaws.{out_of_hand}
use Rattle.file_tables.proofs.laws.space_out_of_hand.Goals as goal

pub returns : goal.returns
returns c = out_of_hand
