use Rattle.std.proofs.Common.{length, take, arith}
use Rattle.std.proofs.Math.Nat.{min-le_left}
use Rattle.std.proofs.lemmas.List.{length-take-le}
use Rattle.kernel_tables.specs.Kernel.{kernel_of}
use Rattle.pipe_domain.specs.Pipes.{pipe_at}
use Rattle.pipe_domain.proofs.PipeLaws.{less-right-by}
use Rattle.pipe_domain.proofs.TakeLaws.{good-taken-by, moves-out-by, standing-taken-by}
use Rattle.pipe_domain.proofs.pipes.move_out.Goals as goal

pub set_inode-requires-clause-right : goal.set_inode-requires-clause-right
set_inode-requires-clause-right g c = less-right-by c.args.pipe (pipe_at (kernel_of (g.T.Store.memory c.args.store.now)) c.args.pipe) c.args.inode c.min-count.result c.requires.inode c.requires.good.ring.size c.requires.good.ring.kind c.requires.good.ring.right

pub returns-clause-moved : goal.returns-clause-moved
returns-clause-moved g c =
    let few = min-le_left (length c.args.into.now) c.args.inode.length in
    moves-out-by (kernel_of (g.T.Store.memory c.args.store.now)) (kernel_of (g.T.Store.memory c.set_inode.new.store)) c.args.pipe c.min-count.result c.args.into.now c.read_ring.new.into c.args.inode
    c.requires.good c.requires.inode c.min-count.ensures c.set_inode.ensures.written c.requires.some
    (length (take c.min-count.result c.args.into.now)) (length-take-le c.min-count.result c.args.into.now (omega (arith, c.min-count.ensures, few))) c.read_ring.ensures

pub returns-clause-standing : goal.returns-clause-standing
returns-clause-standing g c =
    standing-taken-by (kernel_of (g.T.Store.memory c.args.store.now)) (kernel_of (g.T.Store.memory c.set_inode.new.store)) c.args.pipe c.min-count.result c.args.into.now c.read_ring.new.into c.args.inode
    c.requires.good c.requires.inode c.min-count.ensures c.set_inode.ensures.written c.set_inode.ensures.roots c.set_inode.ensures.good

pub returns-clause-good : goal.returns-clause-good
returns-clause-good g c =
    good-taken-by (kernel_of (g.T.Store.memory c.args.store.now)) (kernel_of (g.T.Store.memory c.set_inode.new.store)) c.args.pipe c.min-count.result c.args.into.now c.read_ring.new.into c.args.inode
    c.requires.good c.requires.inode c.min-count.ensures c.set_inode.ensures.written c.set_inode.ensures.good
