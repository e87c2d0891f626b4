use Rattle.file_tables.proofs.HandLaws.{root_in}
use Rattle.file_tables.proofs.laws.root_in_hand.Goals as goal

pub returns : goal.returns
returns c = root_in
