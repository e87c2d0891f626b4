use Rattle.std.proofs.Common.{[]}
use Rattle.kernel_tables.specs.Kernel.{kernel_of}
use Rattle.space_bank.specs.Shares.{nothing_outside}
use Rattle.tests_domain.proofs.Ready.{holds}
use Rattle.tests_domain.proofs.buffers.give_buffer.Goals as goal

pub drop_buffer-requires-clause-live : goal.drop_buffer-requires-clause-live
drop_buffer-requires-clause-live g c = c.requires.buffered.live

pub drop_buffer-requires-clause-buffer : goal.drop_buffer-requires-clause-buffer
drop_buffer-requires-clause-buffer g c = holds (kernel_of (g.T.Store.memory c.args.store.now)) c.args.root.0 c.requires.buffered

pub drop_buffer-requires-clause-shares : goal.drop_buffer-requires-clause-shares
drop_buffer-requires-clause-shares g c = (nothing_outside, [], c.requires.buffered.shares)
