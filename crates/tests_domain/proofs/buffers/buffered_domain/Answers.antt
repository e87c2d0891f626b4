use Rattle.std.proofs.Common.{subst, sym}
use Rattle.kernel_tables.specs.Kernel.{kernel_of}
use Rattle.domain.specs.Buffers.{HoldsBuffer}
use Rattle.tests_domain.proofs.Ready.{buffered, first_room}
use Rattle.tests_domain.proofs.buffers.buffered_domain.Goals as goal

pub write_buffer-requires-clause-buffer : goal.write_buffer-requires-clause-buffer
write_buffer-requires-clause-buffer g c = subst (HoldsBuffer (kernel_of (g.T.Store.memory c.first_domain-root.new.store))) (sym c.first_domain-root.ensures.no_buffer) tt

pub write_buffer-requires-clause-room : goal.write_buffer-requires-clause-room
write_buffer-requires-clause-room g c = λ some none. first_room (kernel_of (g.T.Store.memory c.first_domain-root.new.store)) c.first_domain-root.result.0 c.first_domain-root.ensures.first

pub returns-clause-buffered : goal.returns-clause-buffered
returns-clause-buffered g c =
    buffered (kernel_of (g.T.Store.memory c.first_domain-root.new.store)) (kernel_of (g.T.Store.memory c.write_buffer.new.store)) c.first_domain-root.result.0 7 c.args.bytes.now c.first_domain-root.ensures.first (c.write_buffer.ensures.written c.requires.some)

pub returns-clause-live : goal.returns-clause-live
returns-clause-live g c = (returns-clause-buffered g c).live

pub returns-clause-whole : goal.returns-clause-whole
returns-clause-whole g c = (returns-clause-buffered g c).whole
