use Rattle.std.proofs.Common.{◌+◌, ◌/◌, ◌%◌, arith}
use Rattle.kernel_tables.specs.Kernel.{kernel_of}
use Rattle.domain.proofs.Tested.{root_read, slot_told}
use Rattle.domain.proofs.checks.check_domain.Goals as goal

pub is_domain_of-requires-clause-node : goal.is_domain_of-requires-clause-node
is_domain_of-requires-clause-node g c =
    root_read (kernel_of (g.T.Store.memory c.args.store.now)) (11 + c.args.slot / 16) (c.args.slot % 16) c.row_key.result c.in-Domain.id (omega arith) c.row_key.ensures c.in-Domain.is c.requires.in_range

pub returns-in-Domain : goal.returns-in-Domain
returns-in-Domain g c =
    slot_told (kernel_of (g.T.Store.memory c.args.store.now)) c.args.slot c.row_key.result c.row_key-room.result c.in-Domain.id c.is_domain_of.result
    c.row_key.ensures c.row_key-room.ensures c.in-Domain.is c.is_domain_of.ensures
