use Rattle.std.proofs.Common.{arith}
use Rattle.kernel_tables.specs.Kernel.{kernel_of}
use Rattle.pipe_domain.proofs.PutLaws.{finds-no-room}
use Rattle.pipe_domain.proofs.pipes.put.Goals as goal

pub returns-then-from-free-clause-put : goal.returns-then-from-free-clause-put
returns-then-from-free-clause-put g c =
    finds-no-room (kernel_of (g.T.Store.memory c.args.store.now)) c.args.pipe c.args.from.now c.pipe_inode-inode.result c.is_open.result c.requires.good c.pipe_inode-inode.ensures.inode (omega (arith, c.if-from-free.true))
    c.if-not-is_open.false c.is_open.ensures
