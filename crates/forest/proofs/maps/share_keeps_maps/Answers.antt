use Rattle.forest.proofs.MapLaws.{share_keeps_maps}
use Rattle.forest.proofs.maps.share_keeps_maps.Goals as goal

pub returns : goal.returns
returns c = share_keeps_maps
