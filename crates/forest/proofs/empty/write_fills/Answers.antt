use Rattle.forest.proofs.EmptyLaws.{write_fills}
use Rattle.forest.proofs.empty.write_fills.Goals as goal

pub returns : goal.returns
returns c = write_fills
