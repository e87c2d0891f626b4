use Rattle.std.proofs.Common.{sym}
use Rattle.kernel_tables.specs.Kernel.{kernel_of}
use Rattle.kernel_forest.specs.Trees.{forest_of}
use Rattle.user_copy.proofs.Pages.{map_far}
use Rattle.user_copy.proofs.read.mapped_at.Goals as goal

pub returns-else-page-lt524288 : goal.returns-else-page-lt524288
returns-else-page-lt524288 g c = sym (map_far (forest_of (kernel_of (g.T.Store.memory c.args.store.now))).keys c.args.space.0.0 c.args.page c.if-page-lt524288.false)
