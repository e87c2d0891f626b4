use Rattle.std.proofs.Common.{◌<◌, ◌/◌, length, ◌∙◌, arith}
use Rattle.kernel_tables.specs.Kernel.{kernel_of}
use Rattle.kernel_tables.proofs.Sizes.{length-inodes}
use Rattle.kernel_machine.specs.Contents.{place_in}
use Rattle.dir_domain.proofs.Stretching.{right-with, same-taken, same-nodes, same-promised, pages-then, longer-stands, row-then, change-then}
use Rattle.dir_domain.proofs.add.stretch_place.Goals as goal

pub set_inode-requires-clause-right : goal.set_inode-requires-clause-right
set_inode-requires-clause-right g c = right-with c.args.dir c.args.row c.args.row.root c.args.length c.requires.row.right c.requires.row.kind c.requires.few c.requires.whole

pub write_place-requires : goal.write_place-requires
write_place-requires g c =
    let memory = g.T.Store.memory c.args.store.now in
    let old = kernel_of memory in
    let new = kernel_of (g.T.Store.memory c.set_inode.new.store) in
    let count = length-inodes memory c.requires.standing.bank.sized in
    let below = c.requires.row.below in
    let inside : c.args.dir < length old.inodes = omega (arith, count) in
    let e = c.set_inode.ensures.written in
    record {
      standing = longer-stands old c.args.dir c.args.length c.args.row c.requires.standing c.requires.row c.requires.some inside c.requires.order c.requires.few c.requires.whole new e c.set_inode.ensures.roots c.set_inode.ensures.good;
      row = (
        c.args.dir,
        row-then old c.args.dir c.args.length c.args.row c.requires.standing c.requires.row c.requires.some inside c.requires.order c.requires.few c.requires.whole new e,
      );
      tree = c.requires.some;
      number = c.requires.number;
      nodes = let n = c.requires.nodes in let a = same-taken old new c.args.dir (record c.args.row { length = c.args.length }) e in let b = same-nodes old new c.args.dir (record c.args.row { length = c.args.length }) e in omega arith;
      pages = pages-then old new c.args.dir c.args.row.root (c.args.number / 128) (record c.args.row { length = c.args.length }) e c.requires.pages;
    }

pub returns-clause-changed : goal.returns-clause-changed
returns-clause-changed g c =
    let memory = g.T.Store.memory c.args.store.now in
    let old = kernel_of memory in
    let last = kernel_of (g.T.Store.memory c.write_place.new.store) in
    let count = length-inodes memory c.requires.standing.bank.sized in
    let below = c.requires.row.below in
    let inside : c.args.dir < length old.inodes = omega (arith, count) in
    change-then old c.args.dir c.args.length c.args.row c.requires.standing c.requires.row c.requires.some inside c.requires.order c.requires.few c.requires.whole (kernel_of (g.T.Store.memory c.set_inode.new.store)) last c.args.number (place_in c.args.bytes.now) c.set_inode.ensures.written (c.write_place.ensures.changed c.args.dir)

pub returns-clause-promised : goal.returns-clause-promised
returns-clause-promised g c =
    c.write_place.ensures.promised
    ∙ same-promised (kernel_of (g.T.Store.memory c.args.store.now)) (kernel_of (g.T.Store.memory c.set_inode.new.store)) c.args.dir (record c.args.row { length = c.args.length }) c.set_inode.ensures.written

pub returns-clause-most : goal.returns-clause-most
returns-clause-most g c =
    let same = same-taken (kernel_of (g.T.Store.memory c.args.store.now)) (kernel_of (g.T.Store.memory c.set_inode.new.store)) c.args.dir (record c.args.row { length = c.args.length }) c.set_inode.ensures.written in
    let most = c.write_place.ensures.most in
    omega arith
