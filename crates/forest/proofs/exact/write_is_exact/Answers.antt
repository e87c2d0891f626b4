use Rattle.forest.proofs.ExactLaws.{write}
use Rattle.forest.proofs.exact.write_is_exact.Goals as goal

pub returns : goal.returns
returns c = write
