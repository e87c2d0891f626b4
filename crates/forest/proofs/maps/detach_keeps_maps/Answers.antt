use Rattle.forest.proofs.MapLaws.{detach_keeps_maps}
use Rattle.forest.proofs.maps.detach_keeps_maps.Goals as goal

pub returns : goal.returns
returns c = detach_keeps_maps
