use Rattle.flat_memory.specs.PageView.{page_of}
use Rattle.flat_memory.specs.RegionView.{region_of}
use Rattle.flat_memory.proofs.PlaceLaws.{table-none}
use Rattle.flat_memory.proofs.region.Region.new.Goals as goal

pub returns : goal.returns
unfolding region_of
returns c = table-none page_of _ c.in_ok-free_places.ensures.free
