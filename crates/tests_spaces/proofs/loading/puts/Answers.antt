use Rattle.std.proofs.Common.{length, arith}
use Rattle.kernel_tables.specs.Kernel.{kernel_of}
use Rattle.kernel_forest.specs.Trees.{forest_of}
use Rattle.tests_spaces.proofs.Keeping.{three_are_enough}
use Rattle.tests_spaces.proofs.Loads.{put_loading}
use Rattle.tests_spaces.proofs.loading.puts.Goals as goal

pub put_bytes-requires-clause-page_room : goal.put_bytes-requires-clause-page_room
put_bytes-requires-clause-page_room g c =
    let kernel = kernel_of (g.T.Store.memory c.args.store.now) in
    three_are_enough (forest_of kernel) c.args.space.0.0 c.args.at (length c.args.from.now) kernel.machine.pages_taken kernel.size
    (let short = c.if-from-gt4096.false in omega arith) (c.has_room.ensures.pages c.if-not-has_room.false)

pub returns : goal.returns
returns g c =
    put_loading (kernel_of (g.T.Store.memory c.args.store.now)) (kernel_of (g.T.Store.memory c.put_bytes.new.store)) c.args.space.0.0 c.args.plan.now.loads.items
    c.requires c.put_bytes.ensures.good c.put_bytes.ensures.put
