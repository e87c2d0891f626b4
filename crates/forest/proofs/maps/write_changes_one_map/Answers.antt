use Rattle.forest.proofs.OwnMaps.{write_changes_one_map}
use Rattle.forest.proofs.maps.write_changes_one_map.Goals as goal

pub returns : goal.returns
returns c = write_changes_one_map
