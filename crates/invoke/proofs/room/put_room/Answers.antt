use Rattle.std.proofs.Common.{arith, ◌+◌, ◌/◌, ◌%◌}
use Rattle.kernel_tables.specs.Kernel.{kernel_of}
use Rattle.domain.proofs.Writing.{slot_put}
use Rattle.invoke.proofs.room.put_room.Goals as goal

pub returns-clause-put : goal.returns-clause-put
returns-clause-put g c =
    let slot = c.requires.slot in
    slot_put (kernel_of (g.T.Store.memory c.args.store.now)) (kernel_of (g.T.Store.memory c.write_key.new.store)) (7 + c.args.slot / 16) (c.args.slot % 16) c.args.key c.requires.good (omega arith) (omega arith)
    c.write_key.ensures.written c.write_key.ensures.shares
