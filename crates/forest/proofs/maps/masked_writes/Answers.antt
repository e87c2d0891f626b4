use Rattle.forest.proofs.MaskLaws.{masked_writes}
use Rattle.forest.proofs.maps.masked_writes.Goals as goal

pub returns : goal.returns
returns c = masked_writes
