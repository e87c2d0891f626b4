use Rattle.std.proofs.Common.{subst, arith}
use Rattle.kernel_tables.specs.Kernel.{kernel_of}
use Rattle.file_domain.specs.Cutting.{MapsBelow, MapsNoneBelow}
use Rattle.file_trees.proofs.FileTrees.{rootless_memory}
use Rattle.file_domain.proofs.Seen.{file_tree, file_row}
use Rattle.file_domain.proofs.cutting.shrink.Goals as goal

pub lower_length-requires-clause-memory : goal.lower_length-requires-clause-memory
lower_length-requires-clause-memory g c = rootless_memory (kernel_of (g.T.Store.memory c.args.store.now)) c.args.inode.root c.args.length c.if-inode-eq0.true

pub pages_of-requires : goal.pages_of-requires
pages_of-requires g c =
    let row = file_row (kernel_of (g.T.Store.memory c.args.store.now)) c.args.file c.args.inode c.requires.good.standing c.requires.number c.requires.file in
    let most = row.length in
    let order = c.requires.order in
    omega arith

pub maps_below-requires-clause-good : goal.maps_below-requires-clause-good
maps_below-requires-clause-good g c = c.requires.good.standing.bank

pub maps_below-requires-clause-trees : goal.maps_below-requires-clause-trees
maps_below-requires-clause-trees g c = (_, c.requires.good.standing.trees)

pub maps_below-requires-clause-space : goal.maps_below-requires-clause-space
maps_below-requires-clause-space g c = file_tree (kernel_of (g.T.Store.memory c.args.store.now)) c.args.file c.args.inode c.requires.good.standing c.requires.file c.if-inode-eq0.false

pub maps_below-requires-clause-end : goal.maps_below-requires-clause-end
maps_below-requires-clause-end g c =
    let row = file_row (kernel_of (g.T.Store.memory c.args.store.now)) c.args.file c.args.inode c.requires.good.standing c.requires.number c.requires.file in
    let most = row.length in
    let order = c.requires.order in
    let end = c.pages_of.ensures in
    omega arith

pub cut_tree-requires-clause-left : goal.cut_tree-requires-clause-left
cut_tree-requires-clause-left g c =
    subst (MapsBelow (kernel_of (g.T.Store.memory c.args.store.now)) c.args.inode.root) c.pages_of.ensures (c.maps_below.ensures.some c.if-maps_below.true)

pub drop_tree-requires-clause-none : goal.drop_tree-requires-clause-none
drop_tree-requires-clause-none g c =
    subst (MapsNoneBelow (kernel_of (g.T.Store.memory c.args.store.now)) c.args.inode.root) c.pages_of.ensures (c.maps_below.ensures.none c.if-maps_below.false)
