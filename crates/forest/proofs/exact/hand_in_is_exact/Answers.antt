use Rattle.forest.proofs.ExactLaws.{hand_in}
use Rattle.forest.proofs.exact.hand_in_is_exact.Goals as goal

pub returns : goal.returns
returns c = hand_in
