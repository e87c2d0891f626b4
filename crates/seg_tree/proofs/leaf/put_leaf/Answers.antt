use Rattle.std.proofs.Common.{◌%◌, arith, ◌∷◌, []}
use Rattle.kernel_tables.specs.Kernel.{kernel_of}
use Rattle.unix_model.specs.Tables.{at}
use Rattle.forest.specs.Walks.{place_of}
use Rattle.space_bank.specs.Shares.{Outside}
use Rattle.kernel_forest.specs.Trees.{node_tree, forest_of, TreesGood}
use Rattle.seg_tree.proofs.Levels.{told_owner}
use Rattle.seg_tree.proofs.Mapping.{page_top, space_leaf, node_owned, was_tree, puts_leaf, leaf_told, owners_told}
use Rattle.seg_tree.proofs.BlockCounts.{at_most, more_at_most}
use Rattle.seg_tree.proofs.leaf.put_leaf.Goals as goal

pub own_node-node-requires-clause-top : goal.own_node-node-requires-clause-top
own_node-node-requires-clause-top g c = page_top c.args.page c.requires.page

pub own_node-node-requires-clause-trees : goal.own_node-node-requires-clause-trees
own_node-node-requires-clause-trees g c =
    (c.requires.trees.0, c.args.key ∷ [], c.requires.trees.1, space_leaf (forest_of (kernel_of (g.T.Store.memory c.args.store.now))) [] c.args.key c.args.space.0 c.requires.fits c.requires.space)

pub tree_key-was-requires-clause-owned : goal.tree_key-was-requires-clause-owned
tree_key-was-requires-clause-owned g c =
    let old = kernel_of (g.T.Store.memory c.args.store.now) in
    let mid = kernel_of (g.T.Store.memory c.own_node-node.new.store) in
    let all = c.requires.trees in
    let owner = told_owner old c.args.space.0 (node_tree c.tree_owner-owner.result) c.tree_owner-owner.ensures c.requires.space.owned in
    node_owned old mid all.0 c.args.space.0 c.args.page c.own_node-node.result.0 owner.0 c.args.key c.requires.fits c.requires.page all.1 c.requires.space
    owner.2 (owners_told old c.args.key c.args.space.0 owner.0 c.requires.owners owner.2)
    (c.own_node-node.ensures.way all.0 (c.args.key ∷ []) owner.0 all.1 (space_leaf (forest_of old) [] c.args.key c.args.space.0 c.requires.fits c.requires.space) owner.1)

pub put_key-requires-clause-owned : goal.put_key-requires-clause-owned
put_key-requires-clause-owned g c =
    let old = kernel_of (g.T.Store.memory c.args.store.now) in
    let mid = kernel_of (g.T.Store.memory c.own_node-node.new.store) in
    let all = c.requires.trees in
    let owner = told_owner old c.args.space.0 (node_tree c.tree_owner-owner.result) c.tree_owner-owner.ensures c.requires.space.owned in
    node_owned old mid all.0 c.args.space.0 c.args.page c.own_node-node.result.0 owner.0 c.args.key c.requires.fits c.requires.page all.1 c.requires.space
    owner.2 (owners_told old c.args.key c.args.space.0 owner.0 c.requires.owners owner.2)
    (c.own_node-node.ensures.way all.0 (c.args.key ∷ []) owner.0 all.1 (space_leaf (forest_of old) [] c.args.key c.args.space.0 c.requires.fits c.requires.space) owner.1)

pub put_key-requires-clause-of_tree : goal.put_key-requires-clause-of_tree
put_key-requires-clause-of_tree g c = c.requires.trees.1.in_hand.0

pub put_key-requires-clause-was_of_tree : goal.put_key-requires-clause-was_of_tree
put_key-requires-clause-was_of_tree g c =
    let old = kernel_of (g.T.Store.memory c.args.store.now) in
    let mid = kernel_of (g.T.Store.memory c.own_node-node.new.store) in
    let all = c.requires.trees in
    let owner = told_owner old c.args.space.0 (node_tree c.tree_owner-owner.result) c.tree_owner-owner.ensures c.requires.space.owned in
    was_tree old mid all.0 c.args.space.0 c.args.page c.own_node-node.result.0 owner.0 c.args.key c.requires.fits c.requires.page all.1 c.requires.space
    owner.2 (owners_told old c.args.key c.args.space.0 owner.0 c.requires.owners owner.2)
    (c.own_node-node.ensures.way all.0 (c.args.key ∷ []) owner.0 all.1 (space_leaf (forest_of old) [] c.args.key c.args.space.0 c.requires.fits c.requires.space) owner.1)

pub returns-clause-put : goal.returns-clause-put
returns-clause-put g c =
    let old = kernel_of (g.T.Store.memory c.args.store.now) in
    let mid = kernel_of (g.T.Store.memory c.own_node-node.new.store) in
    let new = kernel_of (g.T.Store.memory c.put_key.new.store) in
    let all = c.requires.trees in
    let owner = told_owner old c.args.space.0 (node_tree c.tree_owner-owner.result) c.tree_owner-owner.ensures c.requires.space.owned in
    leaf_told old new c.args.space.0 c.args.page c.args.key c.tree_key-was.result (at (forest_of mid).keys (place_of c.own_node-node.result.0 (c.args.page % 16))) c.tree_key-was.ensures
    (puts_leaf old mid new c.args.space.0 c.args.page c.own_node-node.result.0 owner.0 c.args.key c.requires.fits c.requires.page c.requires.space
    owner.2 (owners_told old c.args.key c.args.space.0 owner.0 c.requires.owners owner.2) all.0 all.1
    (λ (outside : Outside) (trees : TreesGood old outside (c.args.key ∷ [])). c.own_node-node.ensures.way outside (c.args.key ∷ []) owner.0 trees
    (space_leaf (forest_of old) [] c.args.key c.args.space.0 c.requires.fits c.requires.space) owner.1)
    c.put_key.ensures.put)

pub returns-clause-blocks : goal.returns-clause-blocks
returns-clause-blocks g c =
    more_at_most 85 (omega arith) c.own_node-node.ensures.blocks (at_most 1 (omega arith) c.put_key.ensures.blocks)
