use Rattle.std.proofs.Common.{arith, ◌≡◌, Some, ap, sym, subst, ◌∙◌}
use Rattle.std.specs.Option.{is_some}
use Rattle.kernel_tables.specs.Kernel.{kernel_of}
use Rattle.forest.specs.Objects.{NodeObject}
use Rattle.forest.specs.Walks.{place_of}
use Rattle.kernel_forest.specs.Trees.{forest_of}
use Rattle.seg_tree.specs.Steps.{MayOwn}
use Rattle.seg_tree.proofs.Owning.{fresh_added, still_owned, still_null}
use Rattle.seg_tree.proofs.BlockCounts.{at_most, more_at_most}
use Rattle.seg_tree.proofs.steps.add_child.Goals as goal

pub put_key-requires-clause-owned : goal.put_key-requires-clause-owned
put_key-requires-clause-owned g c =
    let k0 = kernel_of (g.T.Store.memory c.args.store.now) in
    let k1 = kernel_of (g.T.Store.memory c.take_tree_node-fresh.new.store) in
    let may = c.requires.may in
    still_owned k0 k1 c.take_tree_node-fresh.result.0 may.0 (NodeObject c.args.node.0) (c.take_tree_node-fresh.ensures.taken may.0 may.1) (ap is_some may.2.node_owner)

pub put_key-requires-clause-was_of_tree : goal.put_key-requires-clause-was_of_tree
put_key-requires-clause-was_of_tree g c =
    let k0 = kernel_of (g.T.Store.memory c.args.store.now) in
    let k1 = kernel_of (g.T.Store.memory c.take_tree_node-fresh.new.store) in
    let may = c.requires.may in
    still_null k0 k1 c.take_tree_node-fresh.result.0 may.0 (place_of c.args.node.0 c.args.digit) (c.take_tree_node-fresh.ensures.taken may.0 may.1) c.requires.empty

pub returns-clause-fresh : goal.returns-clause-fresh
returns-clause-fresh g c to tree =
    let k0 = kernel_of (g.T.Store.memory c.args.store.now) in
    let k1 = kernel_of (g.T.Store.memory c.take_tree_node-fresh.new.store) in
    let k2 = kernel_of (g.T.Store.memory c.put_key.new.store) in
    let may = c.requires.may in
    let same : Some may.0 ≡ Some to = sym may.1 ∙ tree in
    let is : may.0 ≡ to = cc in
    let may_own : MayOwn (forest_of k0) c.args.node.0 c.args.digit c.args.height to = subst (λ o. MayOwn (forest_of k0) c.args.node.0 c.args.digit c.args.height o) is may.2 in
    fresh_added k0 k1 k2 c.args.node.0 c.args.digit c.args.height c.take_tree_node-fresh.result to may_own c.requires.empty
    (c.take_tree_node-fresh.ensures.taken to tree) c.put_key.ensures.put

pub returns-clause-blocks : goal.returns-clause-blocks
returns-clause-blocks g c =
    more_at_most 21 (omega arith) c.take_tree_node-fresh.ensures.blocks (at_most 1 (omega arith) c.put_key.ensures.blocks)
