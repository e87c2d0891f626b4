use Rattle.std.proofs.Common.{◌≡◌, ◌+◌, Err, length, refl, subst, sym, arith}
use Rattle.unix_model.specs.declared.calls.Errno.{Errno}
use Rattle.kernel_tables.specs.Kernel.{kernel_of}
use Rattle.kernel_tables.proofs.Sizes.{length-memory_page}
use Rattle.kernel_machine.specs.Machine.{machine_of}
use Rattle.kernel_machine.specs.View.{stored}
use Rattle.kernel_machine.proofs.PagesHeld.{file-long}
use Rattle.file_trees.specs.Trees.{tree_memory}
use Rattle.file_trees.proofs.Pages.{tree_whole}
use Rattle.file_domain.specs.Effects.{WritesPart}
use Rattle.file_domain.proofs.Parts.{part_inside, part_crowded, part_past}
use Rattle.file_domain.proofs.Seen.{file_tree}
use Rattle.file_domain.proofs.whole.write_part.Goals as goal

pub returns-then-at-count-clause-written : goal.returns-then-at-count-clause-written
returns-then-at-count-clause-written g c =
    let old = kernel_of (g.T.Store.memory c.args.store.now) in
    let standing = c.requires.good.standing in
    let whole = tree_whole old c.args.inode.root standing.bank standing.trees.held.sound (file_tree old c.args.file c.args.inode standing c.requires.file)
    (record { whole = λ page which. length-memory_page (g.T.Store.memory c.args.store.now) page standing.bank.sized which (g.met.T.Store.page_length c.args.store.now) }) in
    let long : length (stored (machine_of old) c.args.inode) ≡ c.args.inode.length = file-long (tree_memory old c.args.inode.root) whole c.args.inode.length in
    let fits = c.if-at-count.true in
    part_inside old (kernel_of (g.T.Store.memory c.put_all.new.store)) c.args.file c.args.at c.args.part.now c.args.inode c.requires.below c.put_all.ensures.put c.requires.file (omega arith) (length c.args.part.now) refl

pub returns-in-Ok-clause-written : goal.returns-in-Ok-clause-written
returns-in-Ok-clause-written g c =
    let old = kernel_of (g.T.Store.memory c.args.store.now) in
    let standing = c.requires.good.standing in
    let whole = tree_whole old c.args.inode.root standing.bank standing.trees.held.sound (file_tree old c.args.file c.args.inode standing c.requires.file)
    (record { whole = λ page which. length-memory_page (g.T.Store.memory c.args.store.now) page standing.bank.sized which (g.met.T.Store.page_length c.args.store.now) }) in
    let long : length (stored (machine_of old) c.args.inode) ≡ c.args.inode.length = file-long (tree_memory old c.args.inode.root) whole c.args.inode.length in
    let past = c.if-at-count.false in
    part_past old (kernel_of (g.T.Store.memory c.grow.new.store)) (kernel_of (g.T.Store.memory c.put_all-in-Ok.new.store)) c.args.file c.args.at c.args.part.now c.args.inode (record c.args.inode { length = c.args.at + length c.args.part.now }) c.requires.below
    c.in-Ok.ensures.grown c.put_all-in-Ok.ensures.put refl (omega arith) (length c.args.part.now) refl

pub returns-in-Err-clause-written : goal.returns-in-Err-clause-written
returns-in-Err-clause-written g c =
    let old = kernel_of (g.T.Store.memory c.args.store.now) in
    let standing = c.requires.good.standing in
    let whole = tree_whole old c.args.inode.root standing.bank standing.trees.held.sound (file_tree old c.args.file c.args.inode standing c.requires.file)
    (record { whole = λ page which. length-memory_page (g.T.Store.memory c.args.store.now) page standing.bank.sized which (g.met.T.Store.page_length c.args.store.now) }) in
    let long : length (stored (machine_of old) c.args.inode) ≡ c.args.inode.length = file-long (tree_memory old c.args.inode.root) whole c.args.inode.length in
    let past = c.if-at-count.false in
    subst (λ (errno : Errno). WritesPart old (kernel_of (g.T.Store.memory c.grow.new.store)) c.args.file c.args.inode c.args.at c.args.part.now (Err errno))
    (sym (c.in-Err.ensures.errno c.in-Err.errno refl))
    (part_crowded old (kernel_of (g.T.Store.memory c.grow.new.store)) c.args.file c.args.at c.args.part.now c.args.inode c.requires.below c.requires.number c.requires.file c.in-Err.ensures.refused (omega arith))
