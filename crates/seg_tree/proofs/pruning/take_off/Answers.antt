use Rattle.std.proofs.Common.{arith}
use Rattle.kernel_tables.specs.Kernel.{kernel_of}
use Rattle.seg_tree.proofs.Cutting.{above_owned, was_tree, cut_within, cut_once, cut_unnamed, takes_off}
use Rattle.seg_tree.proofs.BlockCounts.{at_most, more_at_most}
use Rattle.seg_tree.proofs.pruning.take_off.Goals as goal

pub put_key-requires-clause-owned : goal.put_key-requires-clause-owned
put_key-requires-clause-owned g c =
    above_owned (kernel_of (g.T.Store.memory c.args.store.now)) c.args.above.0 c.args.digit c.args.node c.requires.trees.0 c.requires.trees.1 c.requires.good c.requires.digit c.requires.stands c.requires.once c.requires.empty

pub put_key-requires-clause-was_of_tree : goal.put_key-requires-clause-was_of_tree
put_key-requires-clause-was_of_tree g c =
    was_tree (kernel_of (g.T.Store.memory c.args.store.now)) c.args.above.0 c.args.digit c.args.node c.requires.trees.0 c.requires.trees.1 c.requires.good c.requires.digit c.requires.stands c.requires.once c.requires.empty

pub give_node-requires-clause-inside : goal.give_node-requires-clause-inside
give_node-requires-clause-inside g c =
    cut_within (kernel_of (g.T.Store.memory c.args.store.now)) c.args.above.0 c.args.digit c.args.node c.requires.trees.0 c.requires.trees.1 c.requires.good c.requires.digit c.requires.stands c.requires.once c.requires.empty
    (kernel_of (g.T.Store.memory c.put_key.new.store)) c.put_key.ensures.good c.put_key.ensures.put

pub give_node-requires-clause-taken : goal.give_node-requires-clause-taken
give_node-requires-clause-taken g c =
    cut_once (kernel_of (g.T.Store.memory c.args.store.now)) c.args.above.0 c.args.digit c.args.node c.requires.trees.0 c.requires.trees.1 c.requires.good c.requires.digit c.requires.stands c.requires.once c.requires.empty
    (kernel_of (g.T.Store.memory c.put_key.new.store)) c.put_key.ensures.good c.put_key.ensures.put

pub give_node-requires-clause-unnamed : goal.give_node-requires-clause-unnamed
give_node-requires-clause-unnamed g c =
    cut_unnamed (kernel_of (g.T.Store.memory c.args.store.now)) c.args.above.0 c.args.digit c.args.node c.requires.trees.0 c.requires.trees.1 c.requires.good c.requires.digit c.requires.stands c.requires.once c.requires.empty
    (kernel_of (g.T.Store.memory c.put_key.new.store)) c.put_key.ensures.good c.put_key.ensures.put

pub returns-clause-off : goal.returns-clause-off
returns-clause-off g c =
    takes_off (kernel_of (g.T.Store.memory c.args.store.now)) c.args.above.0 c.args.digit c.args.node c.requires.trees.0 c.requires.trees.1 c.requires.good c.requires.digit c.requires.stands c.requires.once c.requires.empty
    (kernel_of (g.T.Store.memory c.put_key.new.store)) c.put_key.ensures.good c.put_key.ensures.put (kernel_of (g.T.Store.memory c.give_node.new.store)) c.give_node.ensures.given c.give_node.ensures.shares

pub returns-clause-blocks : goal.returns-clause-blocks
returns-clause-blocks g c = more_at_most 4 (omega arith) (at_most 1 (omega arith) c.put_key.ensures.blocks) (at_most 3 (omega arith) c.give_node.ensures.blocks)
