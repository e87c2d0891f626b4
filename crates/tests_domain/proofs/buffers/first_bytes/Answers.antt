use Rattle.kernel_tables.specs.Kernel.{kernel_of}
use Rattle.tests_domain.proofs.Ready.{holds, is_held}
use Rattle.tests_domain.proofs.buffers.first_bytes.Goals as goal

pub read_buffer-requires-clause-live : goal.read_buffer-requires-clause-live
read_buffer-requires-clause-live g c = c.requires.buffered.live

pub read_buffer-requires-clause-held : goal.read_buffer-requires-clause-held
read_buffer-requires-clause-held g c = is_held (kernel_of (g.T.Store.memory c.args.store.now)) c.args.root.0 c.requires.buffered

pub read_buffer-requires-clause-buffer : goal.read_buffer-requires-clause-buffer
read_buffer-requires-clause-buffer g c = holds (kernel_of (g.T.Store.memory c.args.store.now)) c.args.root.0 c.requires.buffered
