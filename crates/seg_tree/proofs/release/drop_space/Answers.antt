use Rattle.std.proofs.Common.{[]}
use Rattle.kernel_tables.specs.Kernel.{kernel_of}
use Rattle.seg_tree.proofs.Emptying.{root_hand, root_leaves, drops_space}
use Rattle.seg_tree.proofs.release.drop_space.Goals as goal

pub release_node-requires-clause-hand : goal.release_node-requires-clause-hand
release_node-requires-clause-hand g c =
    (c.requires.trees.0, [], root_hand (kernel_of (g.T.Store.memory c.args.store.now)) c.args.space.0 c.requires.trees.0 c.requires.good c.requires.space c.requires.trees.1)

pub release_node-requires-clause-fits : goal.release_node-requires-clause-fits
release_node-requires-clause-fits g c =
    root_leaves (kernel_of (g.T.Store.memory c.args.store.now)) c.args.space.0 c.requires.trees.0 c.requires.good c.requires.space c.requires.trees.1

pub returns-clause-dropped : goal.returns-clause-dropped
returns-clause-dropped g c =
    drops_space (kernel_of (g.T.Store.memory c.args.store.now)) (kernel_of (g.T.Store.memory c.release_node.new.store)) c.args.space.0
    c.requires.trees.0 c.requires.good c.requires.space c.requires.trees.1 c.release_node.ensures.released
