use Rattle.kernel_tables.specs.Kernel.{kernel_of}
use Rattle.pipe_domain.specs.Pipes.{pipe_at}
use Rattle.pipe_domain.proofs.PipeLaws.{more-right-by}
use Rattle.pipe_domain.proofs.PutLaws.{good-put-by, moves-in-by, standing-put-by}
use Rattle.std.proofs.Common.{length}
use Rattle.pipe_domain.proofs.pipes.move_in.Goals as goal

pub set_inode-requires-clause-right : goal.set_inode-requires-clause-right
set_inode-requires-clause-right g c = more-right-by c.args.pipe (pipe_at (kernel_of (g.T.Store.memory c.args.store.now)) c.args.pipe) c.args.inode (length c.args.from.now) c.requires.inode c.requires.fits c.requires.good.ring.kind c.requires.good.ring.right

pub returns-clause-moved : goal.returns-clause-moved
returns-clause-moved g c =
    moves-in-by (kernel_of (g.T.Store.memory c.args.store.now)) (kernel_of (g.T.Store.memory c.write_ring.new.store)) (kernel_of (g.T.Store.memory c.set_inode.new.store)) c.args.pipe c.args.from.now c.args.inode
    c.requires.good c.requires.inode c.requires.fits c.write_ring.ensures.written c.set_inode.ensures.written c.requires.reads

pub returns-clause-standing : goal.returns-clause-standing
returns-clause-standing g c =
    standing-put-by (kernel_of (g.T.Store.memory c.args.store.now)) (kernel_of (g.T.Store.memory c.write_ring.new.store)) (kernel_of (g.T.Store.memory c.set_inode.new.store)) c.args.pipe c.args.from.now c.args.inode
    c.requires.good c.requires.inode c.requires.fits c.write_ring.ensures.written c.set_inode.ensures.written c.write_ring.ensures.good c.set_inode.ensures.roots c.set_inode.ensures.good

pub returns-clause-good : goal.returns-clause-good
returns-clause-good g c =
    good-put-by (kernel_of (g.T.Store.memory c.args.store.now)) (kernel_of (g.T.Store.memory c.write_ring.new.store)) (kernel_of (g.T.Store.memory c.set_inode.new.store)) c.args.pipe c.args.from.now c.args.inode
    c.requires.good c.requires.inode c.requires.fits c.write_ring.ensures.written c.set_inode.ensures.written c.write_ring.ensures.good c.set_inode.ensures.good
