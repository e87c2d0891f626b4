use Rattle.forest.proofs.ExactLaws.{lower}
use Rattle.forest.proofs.exact.lower_is_exact.Goals as goal

pub returns : goal.returns
returns c = lower
