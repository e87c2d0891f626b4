use Rattle.kernel_tables.specs.Kernel.{kernel_of}
use Rattle.invoke.proofs.Seating.{enters}
use Rattle.invoke.proofs.room.enter_room.Goals as goal

pub returns-clause-seats : goal.returns-clause-seats
returns-clause-seats g c =
    enters (kernel_of (g.T.Store.memory c.args.store.now)) (kernel_of (g.T.Store.memory c.raise_node.new.store)) (kernel_of (g.T.Store.memory c.put_room.new.store)) c.args.root c.args.slot c.args.count
    c.raise_node.ensures.good c.requires.slot c.requires.empty c.requires.named c.raise_node.ensures.raised c.raise_node.ensures.shares c.put_room.ensures.put
