use Rattle.std.proofs.Common.{subst, sym}
use Rattle.kernel_tables.specs.declared.row.Row.TheVariants.{Used}
use Rattle.kernel_tables.specs.Kernel.{kernel_of}
use Rattle.kernel_tables.proofs.Sizes.{length-inodes}
use Rattle.file_tables.specs.Rows.{IsInodeAt, IsInodeRow}
use Rattle.file_tables.proofs.GoodLaws.{fresh_right, inodes_good-written}
use Rattle.file_tables.proofs.RootLaws.{fresh_roots}
use Rattle.file_tables.proofs.inodes.new_inode.Goals as goal

pub returns-in-Some-clause-good : goal.returns-in-Some-clause-good
returns-in-Some-clause-good g c =
    let old = g.T.Store.memory c.args.store.now in
    let number = c.in-Some.number in
    let low = subst (IsInodeRow number) c.in-Some.ensures.free (c.requires.good.right number c.in-Some.ensures.below) in
    let right = subst (IsInodeAt number) (sym c.fresh_inode.ensures) (fresh_right c.args.kind number c.requires.kind low) in
    inodes_good-written (kernel_of old) _ number (Used c.fresh_inode.result) c.set_inode_entry.ensures.written (length-inodes old c.requires.sized) c.in-Some.ensures.below right c.requires.good

pub returns-in-Some-clause-roots : goal.returns-in-Some-clause-roots
returns-in-Some-clause-roots g c =
    let old = g.T.Store.memory c.args.store.now in
    fresh_roots (kernel_of old) _ c.in-Some.number c.args.kind c.fresh_inode.result c.fresh_inode.ensures (length-inodes old c.requires.sized) c.in-Some.ensures.below
    c.in-Some.ensures.free c.set_inode_entry.ensures.written
