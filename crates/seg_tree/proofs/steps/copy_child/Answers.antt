use Rattle.std.proofs.Common.{arith, ◌≡◌, Some, sym, subst, ◌∙◌}
use Rattle.kernel_tables.specs.Kernel.{kernel_of}
use Rattle.kernel_forest.specs.Trees.{forest_of}
use Rattle.seg_tree.specs.Steps.{MayOwn}
use Rattle.seg_tree.proofs.Owning.{may_copy_child, node_still_owned, still_tree, child_still_owned, still_two, fresh_copied}
use Rattle.seg_tree.proofs.BlockCounts.{at_most, more_at_most}
use Rattle.seg_tree.proofs.steps.copy_child.Goals as goal

pub copy_keys-requires-clause-may : goal.copy_keys-requires-clause-may
copy_keys-requires-clause-may g c =
    let k0 = kernel_of (g.T.Store.memory c.args.store.now) in
    let k1 = kernel_of (g.T.Store.memory c.take_tree_node-fresh.new.store) in
    let may = c.requires.may in
    may_copy_child k0 k1 k1 k1 k1 c.args.node.0 c.args.digit c.args.height c.args.child c.take_tree_node-fresh.result may.0 may.2 c.requires.stands c.requires.shared
    (c.take_tree_node-fresh.ensures.taken may.0 may.1)

pub put_key-requires-clause-owned : goal.put_key-requires-clause-owned
put_key-requires-clause-owned g c =
    let k0 = kernel_of (g.T.Store.memory c.args.store.now) in
    let k1 = kernel_of (g.T.Store.memory c.take_tree_node-fresh.new.store) in
    let k2 = kernel_of (g.T.Store.memory c.copy_keys.new.store) in
    let may = c.requires.may in
    node_still_owned k0 k1 k2 k2 k2 c.args.node.0 c.args.digit c.args.height c.args.child c.take_tree_node-fresh.result may.0 may.2 c.requires.stands c.requires.shared
    (c.take_tree_node-fresh.ensures.taken may.0 may.1) c.copy_keys.ensures.copied

pub put_key-requires-clause-was_of_tree : goal.put_key-requires-clause-was_of_tree
put_key-requires-clause-was_of_tree g c =
    let k0 = kernel_of (g.T.Store.memory c.args.store.now) in
    let k1 = kernel_of (g.T.Store.memory c.take_tree_node-fresh.new.store) in
    let k2 = kernel_of (g.T.Store.memory c.copy_keys.new.store) in
    let may = c.requires.may in
    still_tree k0 k1 k2 k2 k2 c.args.node.0 c.args.digit c.args.height c.args.child c.take_tree_node-fresh.result may.0 may.2 c.requires.stands c.requires.shared
    (c.take_tree_node-fresh.ensures.taken may.0 may.1) c.copy_keys.ensures.copied

pub lower_key-requires-clause-owned : goal.lower_key-requires-clause-owned
lower_key-requires-clause-owned g c =
    let k0 = kernel_of (g.T.Store.memory c.args.store.now) in
    let k1 = kernel_of (g.T.Store.memory c.take_tree_node-fresh.new.store) in
    let k2 = kernel_of (g.T.Store.memory c.copy_keys.new.store) in
    let k3 = kernel_of (g.T.Store.memory c.put_key.new.store) in
    let may = c.requires.may in
    child_still_owned k0 k1 k2 k3 k3 c.args.node.0 c.args.digit c.args.height c.args.child c.take_tree_node-fresh.result may.0 may.2 c.requires.stands c.requires.shared
    (c.take_tree_node-fresh.ensures.taken may.0 may.1) c.copy_keys.ensures.copied c.put_key.ensures.put

pub lower_key-requires-clause-shared : goal.lower_key-requires-clause-shared
lower_key-requires-clause-shared g c =
    let k0 = kernel_of (g.T.Store.memory c.args.store.now) in
    let k1 = kernel_of (g.T.Store.memory c.take_tree_node-fresh.new.store) in
    let k2 = kernel_of (g.T.Store.memory c.copy_keys.new.store) in
    let k3 = kernel_of (g.T.Store.memory c.put_key.new.store) in
    let may = c.requires.may in
    still_two k0 k1 k2 k3 k3 c.args.node.0 c.args.digit c.args.height c.args.child c.take_tree_node-fresh.result may.0 may.2 c.requires.stands c.requires.shared
    (c.take_tree_node-fresh.ensures.taken may.0 may.1) c.copy_keys.ensures.copied c.put_key.ensures.put

pub returns-clause-fresh : goal.returns-clause-fresh
returns-clause-fresh g c to tree =
    let k0 = kernel_of (g.T.Store.memory c.args.store.now) in
    let k1 = kernel_of (g.T.Store.memory c.take_tree_node-fresh.new.store) in
    let k2 = kernel_of (g.T.Store.memory c.copy_keys.new.store) in
    let k3 = kernel_of (g.T.Store.memory c.put_key.new.store) in
    let k4 = kernel_of (g.T.Store.memory c.lower_key.new.store) in
    let may = c.requires.may in
    let same : Some may.0 ≡ Some to = sym may.1 ∙ tree in
    let is : may.0 ≡ to = cc in
    let may_own : MayOwn (forest_of k0) c.args.node.0 c.args.digit c.args.height to = subst (λ o. MayOwn (forest_of k0) c.args.node.0 c.args.digit c.args.height o) is may.2 in
    fresh_copied k0 k1 k2 k3 k4 c.args.node.0 c.args.digit c.args.height c.args.child c.take_tree_node-fresh.result to may_own c.requires.stands c.requires.shared
    (c.take_tree_node-fresh.ensures.taken to tree) c.copy_keys.ensures.copied c.put_key.ensures.put (c.lower_key.ensures.lowered c.args.height)

pub returns-clause-blocks : goal.returns-clause-blocks
returns-clause-blocks g c =
    more_at_most 21 (omega arith) c.take_tree_node-fresh.ensures.blocks
    (more_at_most 19 (omega arith) c.copy_keys.ensures.blocks
    (more_at_most 2 (omega arith) (at_most 1 (omega arith) c.put_key.ensures.blocks) c.lower_key.ensures.blocks))
