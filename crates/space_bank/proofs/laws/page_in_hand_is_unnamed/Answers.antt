use Rattle.space_bank.proofs.HandLaws.{page-in_hand_unnamed}
use Rattle.space_bank.proofs.laws.page_in_hand_is_unnamed.Goals as goal

pub returns : goal.returns
returns c = page-in_hand_unnamed
