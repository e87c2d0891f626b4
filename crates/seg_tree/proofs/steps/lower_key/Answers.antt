use Rattle.std.proofs.Common.{arith}
use Rattle.kernel_tables.specs.Kernel.{kernel_of}
use Rattle.kernel_forest.proofs.Moves.{lowers_node, node_below, node_shares}
use Rattle.seg_tree.proofs.BlockCounts.{at_most}
use Rattle.seg_tree.proofs.steps.lower_key.Goals as goal

pub lower_node-requires-clause-inside : goal.lower_node-requires-clause-inside
lower_node-requires-clause-inside g c = node_below (kernel_of (g.T.Store.memory c.args.store.now)) c.args.node.0 c.requires.good c.requires.owned

pub lower_node-requires-clause-shared : goal.lower_node-requires-clause-shared
lower_node-requires-clause-shared g c =
    let same = node_shares (kernel_of (g.T.Store.memory c.args.store.now)) c.args.node.0 c.requires.owned in
    let two = c.requires.shared in
    omega arith

pub returns-clause-lowered : goal.returns-clause-lowered
returns-clause-lowered g c height =
    lowers_node (kernel_of (g.T.Store.memory c.args.store.now)) (kernel_of (g.T.Store.memory c.lower_node.new.store)) c.args.node height
    c.requires.owned c.lower_node.ensures.lowered c.lower_node.ensures.shares

pub returns-clause-blocks : goal.returns-clause-blocks
returns-clause-blocks g c = at_most 1 (omega arith) c.lower_node.ensures.blocks
