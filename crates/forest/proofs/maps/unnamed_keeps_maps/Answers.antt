use Rattle.forest.proofs.MapLaws.{unnamed_keeps_maps}
use Rattle.forest.proofs.maps.unnamed_keeps_maps.Goals as goal

pub returns : goal.returns
returns c = unnamed_keeps_maps
