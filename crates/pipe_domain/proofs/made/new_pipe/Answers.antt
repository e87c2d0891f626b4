use Rattle.std.proofs.Common.{◌+◌, ◌≤◌, refl, sym, arith}
use Rattle.kernel_tables.specs.Kernel.{inode_at, kernel_of}
use Rattle.kernel_tables.proofs.Sizes.{length-inodes}
use Rattle.space_bank.proofs.FullLaws.{no_page-free}
use Rattle.pipe_domain.proofs.MadeLaws.{blocks-made, blocks-then, empty-at, free-row, full-then, good-then, hand-then, makes-pipe, standing-made, takes-then, trees-made}
use Rattle.pipe_domain.proofs.made.new_pipe.Goals as goal

pub set_inode-requires-clause-right : goal.set_inode-requires-clause-right
set_inode-requires-clause-right g c =
    let old = kernel_of (g.T.Store.memory c.args.store.now) in
    empty-at c.in-Some.pipe c.in-Some-take_page.page.0 c.empty_inode.result c.empty_inode.ensures (free-row c.in-Some.pipe (inode_at old c.in-Some.pipe) c.in-Some.ensures.free (c.requires.inodes.right c.in-Some.pipe c.in-Some.ensures.below))

pub unreachable-requires : goal.unreachable-requires
unreachable-requires g c =
    let old = kernel_of (g.T.Store.memory c.args.store.now) in
    let one = kernel_of (g.T.Store.memory c.promise.new.store) in
    let all : old.size ≤ old.machine.pages_taken = full-then old one c.if-not-promise.ensures.after (no_page-free one c.promise.ensures.good c.in-None-take_page.ensures.taken.0) in
    let room : old.machine.promised + 1 ≤ old.size = c.if-not-promise.ensures.granted.0 refl in
    omega (arith, all, room, c.requires.promises)

pub returns-clause-made : goal.returns-clause-made
returns-clause-made g c =
    let old = kernel_of (g.T.Store.memory c.args.store.now) in
    let one = kernel_of (g.T.Store.memory c.promise.new.store) in
    let two = kernel_of (g.T.Store.memory c.take_page.new.store) in
    makes-pipe old two (kernel_of (g.T.Store.memory c.set_inode.new.store)) c.in-Some.pipe c.in-Some-take_page.page.0 c.empty_inode.result
    (takes-then old one c.if-not-promise.ensures.after two c.in-Some-take_page.page.0 c.in-Some-take_page.ensures.taken) c.empty_inode.ensures
    (omega (arith, length-inodes (g.T.Store.memory c.args.store.now) c.requires.good.sized, c.in-Some.ensures.below)) c.set_inode.ensures.written
    (sym c.in-Some.ensures.least) c.in-Some.ensures.below (free-row c.in-Some.pipe (inode_at old c.in-Some.pipe) c.in-Some.ensures.free (c.requires.inodes.right c.in-Some.pipe c.in-Some.ensures.below)) (c.if-not-promise.ensures.granted.0 refl)
    (hand-then old one c.if-not-promise.ensures.after two c.in-Some-take_page.page.0 c.in-Some-take_page.ensures.shares) c.set_inode.ensures.roots

pub returns-clause-trees : goal.returns-clause-trees
returns-clause-trees g c =
    let old = kernel_of (g.T.Store.memory c.args.store.now) in
    let one = kernel_of (g.T.Store.memory c.promise.new.store) in
    let two = kernel_of (g.T.Store.memory c.take_page.new.store) in
    trees-made old two (kernel_of (g.T.Store.memory c.set_inode.new.store)) c.in-Some.pipe c.in-Some-take_page.page.0 c.empty_inode.result
    (takes-then old one c.if-not-promise.ensures.after two c.in-Some-take_page.page.0 c.in-Some-take_page.ensures.taken) c.empty_inode.ensures
    (omega (arith, length-inodes (g.T.Store.memory c.args.store.now) c.requires.good.sized, c.in-Some.ensures.below)) c.set_inode.ensures.written
    (good-then old one c.if-not-promise.ensures.after c.promise.ensures.good) c.in-Some.ensures.free
    (hand-then old one c.if-not-promise.ensures.after two c.in-Some-take_page.page.0 c.in-Some-take_page.ensures.shares) c.set_inode.ensures.roots

pub returns-clause-standing : goal.returns-clause-standing
returns-clause-standing g c =
    let old = kernel_of (g.T.Store.memory c.args.store.now) in
    let one = kernel_of (g.T.Store.memory c.promise.new.store) in
    let two = kernel_of (g.T.Store.memory c.take_page.new.store) in
    standing-made old two (kernel_of (g.T.Store.memory c.set_inode.new.store)) c.in-Some.pipe c.in-Some-take_page.page.0 c.empty_inode.result
    (takes-then old one c.if-not-promise.ensures.after two c.in-Some-take_page.page.0 c.in-Some-take_page.ensures.taken) c.empty_inode.ensures
    (omega (arith, length-inodes (g.T.Store.memory c.args.store.now) c.requires.good.sized, c.in-Some.ensures.below)) c.set_inode.ensures.written
    (good-then old one c.if-not-promise.ensures.after c.promise.ensures.good) c.take_page.ensures.good c.in-Some.ensures.free
    (hand-then old one c.if-not-promise.ensures.after two c.in-Some-take_page.page.0 c.in-Some-take_page.ensures.shares) c.set_inode.ensures.roots
    c.set_inode.ensures.good

pub returns-clause-blocks : goal.returns-clause-blocks
returns-clause-blocks g c =
    let old = kernel_of (g.T.Store.memory c.args.store.now) in
    let one = kernel_of (g.T.Store.memory c.promise.new.store) in
    let two = kernel_of (g.T.Store.memory c.take_page.new.store) in
    let page = c.in-Some-take_page.page.0 in
    blocks-made old two (kernel_of (g.T.Store.memory c.set_inode.new.store)) c.in-Some.pipe page c.empty_inode.result
    (takes-then old one c.if-not-promise.ensures.after two page c.in-Some-take_page.ensures.taken) c.empty_inode.ensures
    (omega (arith, length-inodes (g.T.Store.memory c.args.store.now) c.requires.good.sized, c.in-Some.ensures.below)) c.set_inode.ensures.written
    (g.T.Store.blocks c.args.store.now) (g.T.Store.blocks c.promise.new.store) (g.T.Store.blocks c.take_page.new.store) (g.T.Store.blocks c.set_inode.new.store)
    c.promise.ensures.blocks
    (blocks-then old one c.if-not-promise.ensures.after (g.T.Store.blocks c.promise.new.store) (g.T.Store.blocks c.take_page.new.store) page c.in-Some-take_page.ensures.blocks)
    c.set_inode.ensures.blocks
