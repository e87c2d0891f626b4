use Rattle.forest.proofs.EmptyLaws.{taking_away_empties}
use Rattle.forest.proofs.empty.taking_away_empties.Goals as goal

pub returns : goal.returns
returns c = taking_away_empties
