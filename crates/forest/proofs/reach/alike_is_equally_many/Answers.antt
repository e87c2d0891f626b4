use Rattle.forest.proofs.LabelLaws.{alike_is_equally_many}
use Rattle.forest.proofs.reach.alike_is_equally_many.Goals as goal

pub returns : goal.returns
returns c = alike_is_equally_many
