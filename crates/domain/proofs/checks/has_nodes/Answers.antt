use Rattle.std.proofs.Common.{arith}
use Rattle.kernel_tables.specs.Kernel.{kernel_of}
use Rattle.domain.proofs.Tested.{node_read}
use Rattle.domain.proofs.checks.has_nodes.Goals as goal

pub fits_registers-registers-requires : goal.fits_registers-registers-requires
fits_registers-registers-requires g c =
    record { in_range = node_read (kernel_of (g.T.Store.memory c.args.store.now)) c.args.root.0 3 c.row_key.result (omega arith) c.row_key.ensures c.requires.in_range }

pub fits_descriptors-descriptors-requires : goal.fits_descriptors-descriptors-requires
fits_descriptors-descriptors-requires g c =
    record { in_range = node_read (kernel_of (g.T.Store.memory c.args.store.now)) c.args.root.0 4 c.row_key-2.result (omega arith) c.row_key-2.ensures c.requires.in_range }
