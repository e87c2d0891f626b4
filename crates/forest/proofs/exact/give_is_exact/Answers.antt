use Rattle.forest.proofs.ExactLaws.{give}
use Rattle.forest.proofs.exact.give_is_exact.Goals as goal

pub returns : goal.returns
returns c = give
