use Rattle.kernel_tables.specs.Kernel.{kernel_of}
use Rattle.unix_model.specs.Tables.{at}
use Rattle.domain.specs.Domains.{lives}
use Rattle.invoke.specs.Room.{leaving}
use Rattle.invoke.proofs.Composing.{alive_after}
use Rattle.invoke.proofs.Reaching.{high_live, domain_leaves}
use Rattle.invoke.proofs.reach.free_place.Goals as goal

pub returns-then-root-ge15-clause-invokes : goal.returns-then-root-ge15-clause-invokes
returns-then-root-ge15-clause-invokes g c =
    let old = kernel_of (g.T.Store.memory c.args.store.now) in
    let live = high_live old c.args.root.0 c.requires.alive c.if-root-ge15.true in
    domain_leaves old (kernel_of (g.T.Store.memory c.leave_room.new.store)) c.args.root c.slot_of-slot.result c.slot_of-slot.ensures live c.requires.waits (c.requires.seated live) c.leave_room.ensures.seats

pub returns-then-root-ge15-clause-alive : goal.returns-then-root-ge15-clause-alive
returns-then-root-ge15-clause-alive g c = λ other has.
    let old = kernel_of (g.T.Store.memory c.args.store.now) in
    alive_after old (kernel_of (g.T.Store.memory c.leave_room.new.store)) (lives old) (leaving old c.args.root.0 (at (lives old) c.args.root.0).count) other (returns-then-root-ge15-clause-invokes g c) has
