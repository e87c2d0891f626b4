use Rattle.std.proofs.Common.{[], arith}
use Rattle.kernel_tables.specs.Kernel.{kernel_of}
use Rattle.kernel_forest.specs.Trees.{node_tree, page_tree}
use Rattle.space_bank.specs.Shares.{Outside}
use Rattle.kernel_forest.specs.Trees.{TreesGood}
use Rattle.kernel_forest.proofs.Rest.{rest-pages_taken, rest-size, rest-zero}
use Rattle.seg_tree.proofs.Levels.{told_owner, some_told, tree_told}
use Rattle.seg_tree.proofs.Mapping.{page_top}
use Rattle.seg_tree.proofs.Making.{node_owned, found_owned, stands, own_single, owns_kept, owns_copied, is_once, not_once, many_found, fresh_real}
use Rattle.seg_tree.proofs.BlockCounts.{more_at_most, widen_most}
use Rattle.seg_tree.proofs.writing.own_page.Goals as goal

pub own_node-node-requires-clause-top : goal.own_node-node-requires-clause-top
own_node-node-requires-clause-top g c = page_top c.args.page c.requires.page

pub is_single-requires-clause-owned : goal.is_single-requires-clause-owned
is_single-requires-clause-owned g c =
    let old = kernel_of (g.T.Store.memory c.args.store.now) in
    let mid = kernel_of (g.T.Store.memory c.own_node-node.new.store) in
    let all = c.requires.trees in
    let owner = told_owner old c.args.space.0 (node_tree c.tree_owner-node_owner.result) c.tree_owner-node_owner.ensures c.requires.space.owned in
    found_owned old mid c.args.space.0 c.args.page c.own_node-node.result.0 c.args.found.0 owner.0 c.requires.page c.requires.space owner.2 c.requires.mapped
    all.0 all.1 (c.own_node-node.ensures.way all.0 [] owner.0 all.1 c.requires.space owner.1)

pub copy_leaf-requires-clause-alive : goal.copy_leaf-requires-clause-alive
copy_leaf-requires-clause-alive g c =
    let old = kernel_of (g.T.Store.memory c.args.store.now) in
    let mid = kernel_of (g.T.Store.memory c.own_node-node.new.store) in
    let all = c.requires.trees in
    let owner = told_owner old c.args.space.0 (node_tree c.tree_owner-node_owner.result) c.tree_owner-node_owner.ensures c.requires.space.owned in
    found_owned old mid c.args.space.0 c.args.page c.own_node-node.result.0 c.args.found.0 owner.0 c.requires.page c.requires.space owner.2 c.requires.mapped
    all.0 all.1 (c.own_node-node.ensures.way all.0 [] owner.0 all.1 c.requires.space owner.1)

pub copy_leaf-requires-clause-room : goal.copy_leaf-requires-clause-room
copy_leaf-requires-clause-room g c =
    let old = kernel_of (g.T.Store.memory c.args.store.now) in
    let mid = kernel_of (g.T.Store.memory c.own_node-node.new.store) in
    let all = c.requires.trees in
    let owner = told_owner old c.args.space.0 (node_tree c.tree_owner-node_owner.result) c.tree_owner-node_owner.ensures c.requires.space.owned in
    let d = c.own_node-node.ensures.way all.0 [] owner.0 all.1 c.requires.space owner.1 in
    let taken = rest-pages_taken old mid d.rest in
    let size = rest-size old mid d.rest in
    let room = c.requires.page_room (λ own.
    let one = own_single old mid c.args.space.0 c.args.page c.own_node-node.result.0 c.args.found.0 owner.0 c.requires.page c.requires.space owner.2 c.requires.mapped
    all.0 all.1 d own in
    not_once mid c.args.found.0 c.is_single.result c.is_single.ensures c.if-is_single.false one.0 one.1) in
    omega arith

pub copy_leaf-requires-clause-tree : goal.copy_leaf-requires-clause-tree
copy_leaf-requires-clause-tree g c = some_told (kernel_of (g.T.Store.memory c.args.store.now)) c.args.space.0 (page_tree c.args.owner) c.requires.owner c.requires.space.owned

pub copy_leaf-requires-clause-zero : goal.copy_leaf-requires-clause-zero
copy_leaf-requires-clause-zero g c =
    let old = kernel_of (g.T.Store.memory c.args.store.now) in
    let all = c.requires.trees in
    let owner = told_owner old c.args.space.0 (node_tree c.tree_owner-node_owner.result) c.tree_owner-node_owner.ensures c.requires.space.owned in
    let d = c.own_node-node.ensures.way all.0 [] owner.0 all.1 c.requires.space owner.1 in
    rest-zero old (kernel_of (g.T.Store.memory c.own_node-node.new.store)) d.rest c.requires.zero

pub copy_leaf-requires-clause-owned : goal.copy_leaf-requires-clause-owned
copy_leaf-requires-clause-owned g c =
    let old = kernel_of (g.T.Store.memory c.args.store.now) in
    let mid = kernel_of (g.T.Store.memory c.own_node-node.new.store) in
    let all = c.requires.trees in
    let owner = told_owner old c.args.space.0 (node_tree c.tree_owner-node_owner.result) c.tree_owner-node_owner.ensures c.requires.space.owned in
    node_owned old mid c.args.space.0 c.args.page c.own_node-node.result.0 c.args.found.0 owner.0 c.requires.page c.requires.space owner.2 c.requires.mapped
    all.0 all.1 (c.own_node-node.ensures.way all.0 [] owner.0 all.1 c.requires.space owner.1)

pub copy_leaf-requires-clause-stands : goal.copy_leaf-requires-clause-stands
copy_leaf-requires-clause-stands g c =
    let old = kernel_of (g.T.Store.memory c.args.store.now) in
    let mid = kernel_of (g.T.Store.memory c.own_node-node.new.store) in
    let all = c.requires.trees in
    let owner = told_owner old c.args.space.0 (node_tree c.tree_owner-node_owner.result) c.tree_owner-node_owner.ensures c.requires.space.owned in
    stands old mid c.args.space.0 c.args.page c.own_node-node.result.0 c.args.found.0 owner.0 c.requires.page c.requires.space owner.2 c.requires.mapped
    all.0 all.1 (c.own_node-node.ensures.way all.0 [] owner.0 all.1 c.requires.space owner.1)

pub copy_leaf-requires-clause-shared : goal.copy_leaf-requires-clause-shared
copy_leaf-requires-clause-shared g c real =
    let old = kernel_of (g.T.Store.memory c.args.store.now) in
    let mid = kernel_of (g.T.Store.memory c.own_node-node.new.store) in
    let all = c.requires.trees in
    let owner = told_owner old c.args.space.0 (node_tree c.tree_owner-node_owner.result) c.tree_owner-node_owner.ensures c.requires.space.owned in
    let d = c.own_node-node.ensures.way all.0 [] owner.0 all.1 c.requires.space owner.1 in
    let there = found_owned old mid c.args.space.0 c.args.page c.own_node-node.result.0 c.args.found.0 owner.0 c.requires.page c.requires.space owner.2 c.requires.mapped
    all.0 all.1 d real in
    many_found mid c.args.found.0 all.0 d.trees there (not_once mid c.args.found.0 c.is_single.result c.is_single.ensures c.if-is_single.false real)

pub returns-then-is_single-clause-own : goal.returns-then-is_single-clause-own
returns-then-is_single-clause-own g c =
    let old = kernel_of (g.T.Store.memory c.args.store.now) in
    let mid = kernel_of (g.T.Store.memory c.own_node-node.new.store) in
    let all = c.requires.trees in
    let owner = told_owner old c.args.space.0 (node_tree c.tree_owner-node_owner.result) c.tree_owner-node_owner.ensures c.requires.space.owned in
    let one = is_once mid c.args.found.0 c.is_single.result c.is_single.ensures c.if-is_single.true in
    owns_kept old mid c.args.space.0 c.args.page c.own_node-node.result.0 c.args.found.0 owner.0 c.requires.page c.requires.space owner.2 c.requires.mapped
    all.0 all.1 (λ (outside : Outside) (trees : TreesGood old outside []). c.own_node-node.ensures.way outside [] owner.0 trees c.requires.space owner.1)
    c.own_node-node.ensures.good c.args.owner one.0 one.1

pub returns-else-is_single-clause-own : goal.returns-else-is_single-clause-own
returns-else-is_single-clause-own g c =
    let old = kernel_of (g.T.Store.memory c.args.store.now) in
    let mid = kernel_of (g.T.Store.memory c.own_node-node.new.store) in
    let new = kernel_of (g.T.Store.memory c.copy_leaf.new.store) in
    let all = c.requires.trees in
    let owner = told_owner old c.args.space.0 (node_tree c.tree_owner-node_owner.result) c.tree_owner-node_owner.ensures c.requires.space.owned in
    let d = c.own_node-node.ensures.way all.0 [] owner.0 all.1 c.requires.space owner.1 in
    let tree = tree_told old c.args.space.0 (page_tree c.args.owner) owner.0 c.requires.owner owner.2 in
    let copied = c.copy_leaf.ensures.copied owner.0 tree in
    owns_copied old mid c.args.space.0 c.args.page c.own_node-node.result.0 c.args.found.0 owner.0 c.requires.page c.requires.space owner.2 c.requires.mapped
    all.0 all.1 (λ (outside : Outside) (trees : TreesGood old outside []). c.own_node-node.ensures.way outside [] owner.0 trees c.requires.space owner.1)
    new c.copy_leaf.result.0 c.args.owner tree c.copy_leaf.ensures.good copied (fresh_real mid c.copy_leaf.result.0 copied.takes.inside)
    (λ real.
    let there = found_owned old mid c.args.space.0 c.args.page c.own_node-node.result.0 c.args.found.0 owner.0 c.requires.page c.requires.space owner.2 c.requires.mapped
    all.0 all.1 d real in
    many_found mid c.args.found.0 all.0 d.trees there (not_once mid c.args.found.0 c.is_single.result c.is_single.ensures c.if-is_single.false real))
    c.requires.good
    (λ real one. not_once mid c.args.found.0 c.is_single.result c.is_single.ensures c.if-is_single.false real one)

pub returns-then-is_single-clause-blocks : goal.returns-then-is_single-clause-blocks
returns-then-is_single-clause-blocks g c = widen_most 89 (omega arith) c.own_node-node.ensures.blocks

pub returns-else-is_single-clause-blocks : goal.returns-else-is_single-clause-blocks
returns-else-is_single-clause-blocks g c = more_at_most 89 (omega arith) c.own_node-node.ensures.blocks c.copy_leaf.ensures.blocks
