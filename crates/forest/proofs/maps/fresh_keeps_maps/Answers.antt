use Rattle.forest.proofs.MapLaws.{fresh_keeps_maps}
use Rattle.forest.proofs.maps.fresh_keeps_maps.Goals as goal

pub returns : goal.returns
returns c = fresh_keeps_maps
