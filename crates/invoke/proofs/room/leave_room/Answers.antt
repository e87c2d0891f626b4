use Rattle.kernel_tables.specs.Kernel.{kernel_of}
use Rattle.unix_model.specs.Tables.{at}
use Rattle.domain.specs.Domains.{lives}
use Rattle.invoke.proofs.Seating.{leaves}
use Rattle.invoke.proofs.room.leave_room.Goals as goal

pub returns-clause-seats : goal.returns-clause-seats
returns-clause-seats g c =
    let old = kernel_of (g.T.Store.memory c.args.store.now) in
    leaves old (kernel_of (g.T.Store.memory c.put_room.new.store)) (kernel_of (g.T.Store.memory c.lower_node.new.store)) c.args.root c.args.slot (at (lives old) c.args.root.0).count
    c.requires.good c.requires.slot c.requires.held c.requires.named c.put_room.ensures.put c.lower_node.ensures.lowered c.lower_node.ensures.shares
