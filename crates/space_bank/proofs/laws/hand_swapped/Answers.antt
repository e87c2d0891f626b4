use Rattle.space_bank.proofs.HandLaws.{hand-swapped}
use Rattle.space_bank.proofs.laws.hand_swapped.Goals as goal

pub returns : goal.returns
returns c = hand-swapped
