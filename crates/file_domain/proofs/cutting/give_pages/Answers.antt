use Rattle.std.proofs.Common.{ap₂, sym, subst, arith}
use Rattle.kernel_tables.specs.Kernel.{kernel_of}
use Rattle.kernel_machine.proofs.OwnerLaws.{store_is_whole}
use Rattle.file_trees.specs.Cuts.{without_pages}
use Rattle.file_trees.specs.Trees.{tree_memory}
use Rattle.file_domain.specs.Cutting.{ChangesTree, MapsBelow}
use Rattle.file_trees.proofs.Accounting.{nodes_left}
use Rattle.file_domain.proofs.Seen.{file_tree, file_row}
use Rattle.file_domain.proofs.TreeCuts.{cut_changes}
use Rattle.file_domain.proofs.cutting.give_pages.Goals as goal

pub pages_of-requires : goal.pages_of-requires
pages_of-requires g c =
    let row = file_row (kernel_of (g.T.Store.memory c.args.store.now)) c.args.file c.args.inode c.requires.good.standing c.requires.number c.requires.file in
    let most = row.length in
    let order = c.requires.order in
    omega arith

pub pages_of-requires-2 : goal.pages_of-requires-2
pages_of-requires-2 g c = (file_row (kernel_of (g.T.Store.memory c.args.store.now)) c.args.file c.args.inode c.requires.good.standing c.requires.number c.requires.file).length

pub cut_pages-requires-clause-good : goal.cut_pages-requires-clause-good
cut_pages-requires-clause-good g c = c.requires.good.standing.bank

pub cut_pages-requires-clause-trees : goal.cut_pages-requires-clause-trees
cut_pages-requires-clause-trees g c = (_, c.requires.good.standing.trees)

pub cut_pages-requires-clause-space : goal.cut_pages-requires-clause-space
cut_pages-requires-clause-space g c = file_tree (kernel_of (g.T.Store.memory c.args.store.now)) c.args.file c.args.inode c.requires.good.standing c.requires.file c.requires.root

pub cut_pages-requires-clause-order : goal.cut_pages-requires-clause-order
cut_pages-requires-clause-order g c =
    let order = c.requires.order in
    let first = c.pages_of.ensures in
    let end = c.pages_of-2.ensures in
    omega arith

pub cut_pages-requires-clause-end : goal.cut_pages-requires-clause-end
cut_pages-requires-clause-end g c =
    let row = file_row (kernel_of (g.T.Store.memory c.args.store.now)) c.args.file c.args.inode c.requires.good.standing c.requires.number c.requires.file in
    let most = row.length in
    let end = c.pages_of-2.ensures in
    omega arith

pub cut_pages-requires-clause-room : goal.cut_pages-requires-clause-room
cut_pages-requires-clause-room g c between next cut bank pages =
    let old = kernel_of (g.T.Store.memory c.args.store.now) in
    let left = subst (MapsBelow old c.args.inode.root) (sym c.pages_of.ensures) c.requires.left in
    let changes = cut_changes old between c.args.file c.args.length c.args.inode c.requires.good c.requires.number c.requires.file c.requires.root bank pages c.pages_of.result next left cut in
    let few = nodes_left between changes.good in
    omega arith

pub returns-clause-given : goal.returns-clause-given
returns-clause-given g c =
    let old = kernel_of (g.T.Store.memory c.args.store.now) in
    let new = kernel_of (g.T.Store.memory c.cut_pages.new.store) in
    let left = subst (MapsBelow old c.args.inode.root) (sym c.pages_of.ensures) c.requires.left in
    let changes = cut_changes old new c.args.file c.args.length c.args.inode c.requires.good c.requires.number c.requires.file c.requires.root c.cut_pages.ensures.good
    (store_is_whole (g.T.Store.memory c.cut_pages.new.store) c.cut_pages.ensures.good (g.met.T.Store.page_length c.cut_pages.new.store)) c.pages_of.result c.pages_of-2.result left c.cut_pages.ensures.cut in
    subst (ChangesTree old new c.args.file c.args.inode) (ap₂ (without_pages (tree_memory old c.args.inode.root)) c.pages_of.ensures c.pages_of-2.ensures) changes
