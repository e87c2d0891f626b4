use Rattle.forest.proofs.EmptyLaws.{spaces_are_well_formed}
use Rattle.forest.proofs.empty.spaces_are_well_formed.Goals as goal

pub returns : goal.returns
returns c = spaces_are_well_formed
