use Rattle.std.proofs.Common.{arith, Some}
use Rattle.flat_memory.specs.PageView.{page_of}
use Rattle.flat_memory.specs.RegionView.{region_of}
use Rattle.flat_memory.proofs.PlaceLaws.{table-set}
use Rattle.flat_memory.proofs.region.Region.map.Goals as goal

pub returns : goal.returns
unfolding region_of
returns c = table-set page_of c.args.self.now.pages.items c.args.place (Some c.args.page) (omega (arith, c.args.self.now.full))
