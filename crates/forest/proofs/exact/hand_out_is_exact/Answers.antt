use Rattle.forest.proofs.ExactLaws.{hand_out}
use Rattle.forest.proofs.exact.hand_out_is_exact.Goals as goal

pub returns : goal.returns
returns c = hand_out
