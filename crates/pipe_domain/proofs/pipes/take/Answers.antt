use Rattle.std.proofs.Common.{arith}
use Rattle.kernel_tables.specs.Kernel.{kernel_of}
use Rattle.pipe_domain.proofs.TakeLaws.{finds-none, queue-length}
use Rattle.pipe_domain.proofs.pipes.take.Goals as goal

pub returns-then-inode-eq0-clause-taken : goal.returns-then-inode-eq0-clause-taken
returns-then-inode-eq0-clause-taken g c =
    finds-none (kernel_of (g.T.Store.memory c.args.store.now)) c.args.pipe c.args.into.now c.pipe_inode-inode.result c.is_open-writer.result c.when_empty.result c.requires.good c.pipe_inode-inode.ensures.inode c.if-inode-eq0.true
    c.is_open-writer.ensures c.when_empty.ensures

pub move_out-requires-clause-some : goal.move_out-requires-clause-some
move_out-requires-clause-some g c =
    let held = queue-length (kernel_of (g.T.Store.memory c.args.store.now)) c.args.pipe c.pipe_inode-inode.result c.requires.good c.pipe_inode-inode.ensures.inode in
    omega (arith, held, c.if-inode-eq0.false)
