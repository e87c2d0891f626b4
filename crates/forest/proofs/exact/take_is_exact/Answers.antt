use Rattle.forest.proofs.ExactLaws.{take}
use Rattle.forest.proofs.exact.take_is_exact.Goals as goal

pub returns : goal.returns
returns c = take
