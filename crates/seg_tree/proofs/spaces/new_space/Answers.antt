use Rattle.std.proofs.Common.{arith}
use Rattle.kernel_tables.specs.Kernel.{kernel_of}
use Rattle.kernel_forest.specs.Trees.{node_tree}
use Rattle.seg_tree.proofs.Levels.{some_owner}
use Rattle.seg_tree.proofs.Adding.{added, added_ways, fresh_owned, fresh_tree_key}
use Rattle.seg_tree.proofs.BlockCounts.{at_most, more_at_most}
use Rattle.seg_tree.proofs.spaces.new_space.Goals as goal

pub put_key-requires-clause-owned : goal.put_key-requires-clause-owned
put_key-requires-clause-owned g c =
    let owner = some_owner (node_tree c.args.owner) c.requires.tree in
    fresh_owned (kernel_of (g.T.Store.memory c.args.store.now)) (kernel_of (g.T.Store.memory c.take_tree_node-root.new.store)) c.take_tree_node-root.result owner.0
    (c.take_tree_node-root.ensures.taken owner.0 owner.1)

pub put_key-requires-clause-was_of_tree : goal.put_key-requires-clause-was_of_tree
put_key-requires-clause-was_of_tree g c =
    let owner = some_owner (node_tree c.args.owner) c.requires.tree in
    fresh_tree_key (kernel_of (g.T.Store.memory c.args.store.now)) (kernel_of (g.T.Store.memory c.take_tree_node-root.new.store)) c.take_tree_node-root.result owner.0 15 (omega arith)
    c.requires.trees.1.held.sound (c.take_tree_node-root.ensures.taken owner.0 owner.1)

pub returns-clause-added : goal.returns-clause-added
returns-clause-added g c =
    let owner = some_owner (node_tree c.args.owner) c.requires.tree in
    added (kernel_of (g.T.Store.memory c.args.store.now)) (kernel_of (g.T.Store.memory c.take_tree_node-root.new.store)) (kernel_of (g.T.Store.memory c.put_key.new.store))
    c.take_tree_node-root.result owner.0 c.args.keeper c.requires.keeper c.requires.of_tree c.requires.trees.1.held.sound
    (c.take_tree_node-root.ensures.taken owner.0 owner.1) c.put_key.ensures.put (node_tree c.args.owner) owner.1

pub returns-clause-ways : goal.returns-clause-ways
returns-clause-ways g c =
    let owner = some_owner (node_tree c.args.owner) c.requires.tree in
    added_ways (kernel_of (g.T.Store.memory c.args.store.now)) (kernel_of (g.T.Store.memory c.take_tree_node-root.new.store)) (kernel_of (g.T.Store.memory c.put_key.new.store))
    c.take_tree_node-root.result owner.0 c.args.keeper c.requires.keeper c.requires.of_tree c.requires.trees.1.held.sound
    (c.take_tree_node-root.ensures.taken owner.0 owner.1) c.put_key.ensures.put

pub returns-clause-blocks : goal.returns-clause-blocks
returns-clause-blocks g c =
    more_at_most 3 (omega arith) c.take_tree_node-root.ensures.blocks (at_most 1 (omega arith) c.put_key.ensures.blocks)
