use Rattle.space_bank.proofs.HandLaws.{nothing-in_hand}
use Rattle.space_bank.proofs.laws.nothing_in_hand.Goals as goal

pub returns : goal.returns
returns c = nothing-in_hand
