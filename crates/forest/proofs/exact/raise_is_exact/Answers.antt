use Rattle.forest.proofs.ExactLaws.{raise}
use Rattle.forest.proofs.exact.raise_is_exact.Goals as goal

pub returns : goal.returns
returns c = raise
