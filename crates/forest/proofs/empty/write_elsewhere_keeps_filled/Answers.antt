use Rattle.forest.proofs.EmptyLaws.{write_elsewhere_keeps_filled}
use Rattle.forest.proofs.empty.write_elsewhere_keeps_filled.Goals as goal

pub returns : goal.returns
returns c = write_elsewhere_keeps_filled
