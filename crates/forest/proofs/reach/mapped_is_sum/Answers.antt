use Rattle.forest.proofs.MappedLaws.{mapped_is_sum}
use Rattle.forest.proofs.reach.mapped_is_sum.Goals as goal

pub returns : goal.returns
returns c = mapped_is_sum
