use Rattle.std.proofs.Common.{length, arith}
use Rattle.kernel_tables.specs.Kernel.{kernel_of}
use Rattle.kernel_forest.specs.Trees.{forest_of}
use Rattle.tests_spaces.proofs.Keeping.{put_keeps, three_are_enough}
use Rattle.tests_spaces.proofs.guarded.put.Goals as goal

pub put_bytes-requires-clause-page_room : goal.put_bytes-requires-clause-page_room
put_bytes-requires-clause-page_room g c =
    let kernel = kernel_of (g.T.Store.memory c.args.store.now) in
    three_are_enough (forest_of kernel) c.args.space.0.0 c.args.at (length c.args.from.now) kernel.machine.pages_taken kernel.size
    (let short = c.if-from-gt4096.false in omega arith) (c.has_room.ensures.pages c.if-not-has_room.false)

pub returns-clause-spaces : goal.returns-clause-spaces
returns-clause-spaces g c = put_keeps (kernel_of (g.T.Store.memory c.args.store.now)) (kernel_of (g.T.Store.memory c.put_bytes.new.store)) c.put_bytes.ensures.put

pub returns-clause-stays : goal.returns-clause-stays
returns-clause-stays g c =
    (put_keeps (kernel_of (g.T.Store.memory c.args.store.now)) (kernel_of (g.T.Store.memory c.put_bytes.new.store)) c.put_bytes.ensures.put).stay c.args.space.0.0 c.requires.space
