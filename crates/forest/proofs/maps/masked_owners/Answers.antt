use Rattle.forest.proofs.MaskLaws.{masked_owners}
use Rattle.forest.proofs.maps.masked_owners.Goals as goal

pub returns : goal.returns
returns c = masked_owners
