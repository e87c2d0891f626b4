use Rattle.std.proofs.Common.{◌+◌, ◌/◌, ◌%◌, ap, arith}
use Rattle.kernel_tables.specs.Kernel.{kernel_of}
use Rattle.space_bank.specs.FreeList.{is_free}
use Rattle.domain.proofs.Writing.{slot_put}
use Rattle.domain.proofs.steps.put_slot.Goals as goal

pub write_key-requires-clause-inside : goal.write_key-requires-clause-inside
write_key-requires-clause-inside g c =
    let few = c.requires.good.sized.all_nodes in
    let slot = c.requires.slot in
    omega arith

pub write_key-requires-clause-used : goal.write_key-requires-clause-used
write_key-requires-clause-used g c =
    let slot = c.requires.slot in
    ap is_free (c.requires.good.nodes.fixed (11 + c.args.slot / 16) (omega arith))

pub returns-clause-put : goal.returns-clause-put
returns-clause-put g c =
    let slot = c.requires.slot in
    slot_put (kernel_of (g.T.Store.memory c.args.store.now)) (kernel_of (g.T.Store.memory c.write_key.new.store)) (11 + c.args.slot / 16) (c.args.slot % 16) c.args.key
    c.requires.good (omega arith) (omega arith) c.write_key.ensures.written c.write_key.ensures.shares
