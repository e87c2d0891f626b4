use Rattle.file_tables.proofs.HandLaws.{root_out}
use Rattle.file_tables.proofs.laws.root_out_of_hand.Goals as goal

pub returns : goal.returns
returns c = root_out
