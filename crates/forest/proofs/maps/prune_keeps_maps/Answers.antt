use Rattle.forest.proofs.PruneLaws.{prune_keeps_maps}
use Rattle.forest.proofs.maps.prune_keeps_maps.Goals as goal

pub returns : goal.returns
returns c = prune_keeps_maps
