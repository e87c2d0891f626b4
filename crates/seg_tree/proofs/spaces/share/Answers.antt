use Rattle.std.proofs.Common.{arith}
use Rattle.kernel_tables.specs.Kernel.{kernel_of}
use Rattle.kernel_forest.specs.Trees.{node_tree}
use Rattle.seg_tree.proofs.Levels.{told_owner}
use Rattle.seg_tree.proofs.Sharing.{may_share, shared_ways, shares_space}
use Rattle.seg_tree.proofs.BlockCounts.{more_at_most}
use Rattle.seg_tree.proofs.spaces.share.Goals as goal

pub copy_keys-requires-clause-may : goal.copy_keys-requires-clause-may
copy_keys-requires-clause-may g c =
    let owner = told_owner (kernel_of (g.T.Store.memory c.args.store.now)) c.args.space.0.0 (node_tree c.tree_owner-owner.result) c.tree_owner-owner.ensures c.requires.space.owned in
    may_share (kernel_of (g.T.Store.memory c.args.store.now)) (kernel_of (g.T.Store.memory c.take_tree_node-root.new.store)) c.args.space.0 c.take_tree_node-root.result owner.0
    c.requires.trees.0 c.requires.good c.requires.trees.1 c.requires.space owner.2 (c.take_tree_node-root.ensures.taken owner.0 owner.1)

pub returns-clause-shared : goal.returns-clause-shared
returns-clause-shared g c =
    let owner = told_owner (kernel_of (g.T.Store.memory c.args.store.now)) c.args.space.0.0 (node_tree c.tree_owner-owner.result) c.tree_owner-owner.ensures c.requires.space.owned in
    shares_space (kernel_of (g.T.Store.memory c.args.store.now)) (kernel_of (g.T.Store.memory c.take_tree_node-root.new.store)) c.args.space.0 c.take_tree_node-root.result owner.0
    c.requires.trees.0 c.requires.good c.requires.trees.1 c.requires.space owner.2 (c.take_tree_node-root.ensures.taken owner.0 owner.1)
    (kernel_of (g.T.Store.memory c.copy_keys.new.store)) c.copy_keys.ensures.copied

pub returns-clause-ways : goal.returns-clause-ways
returns-clause-ways g c =
    let owner = told_owner (kernel_of (g.T.Store.memory c.args.store.now)) c.args.space.0.0 (node_tree c.tree_owner-owner.result) c.tree_owner-owner.ensures c.requires.space.owned in
    shared_ways (kernel_of (g.T.Store.memory c.args.store.now)) (kernel_of (g.T.Store.memory c.take_tree_node-root.new.store)) c.args.space.0 c.take_tree_node-root.result owner.0
    c.requires.trees.0 c.requires.good c.requires.trees.1 c.requires.space owner.2 (c.take_tree_node-root.ensures.taken owner.0 owner.1)
    (kernel_of (g.T.Store.memory c.copy_keys.new.store)) c.copy_keys.ensures.copied

pub returns-clause-blocks : goal.returns-clause-blocks
returns-clause-blocks g c =
    more_at_most 19 (omega arith) c.take_tree_node-root.ensures.blocks c.copy_keys.ensures.blocks
