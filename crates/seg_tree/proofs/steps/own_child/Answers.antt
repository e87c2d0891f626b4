use Rattle.std.proofs.Common.{arith}
use Rattle.kernel_tables.specs.Kernel.{kernel_of}
use Rattle.forest.specs.Objects.{NodeObject}
use Rattle.kernel_forest.specs.Trees.{forest_of}
use Rattle.kernel_forest.proofs.Moves.{node_shares}
use Rattle.seg_tree.proofs.Owning.{child_stands, named_owned, own_already}
use Rattle.seg_tree.proofs.BlockCounts.{none_at_most}
use Rattle.seg_tree.proofs.steps.own_child.Goals as goal

pub copy_child-requires-clause-shared : goal.copy_child-requires-clause-shared
copy_child-requires-clause-shared g c =
    let k0 = kernel_of (g.T.Store.memory c.args.store.now) in
    let may = c.requires.may in
    let stands = child_stands (forest_of k0) c.args.node.0 c.args.digit c.args.height may.0 c.tree_key.result c.segment_of.result c.in-Some.child may.2 c.tree_key.ensures c.segment_of.ensures c.in-Some.is in
    let owned = named_owned (forest_of k0) c.args.node.0 c.args.digit c.args.height may.0 c.in-Some.child may.2 stands in
    let alive = may.2.alive (NodeObject c.in-Some.child.0) owned in
    let same = node_shares k0 c.in-Some.child.0 owned in
    let is = c.node_count.ensures in
    let not_one = c.if-node_count-eq1.false in
    omega arith

pub returns-then-node_count-eq1-clause-own : goal.returns-then-node_count-eq1-clause-own
returns-then-node_count-eq1-clause-own g c to tree =
    let k0 = kernel_of (g.T.Store.memory c.args.store.now) in
    let may = c.requires.may in
    let stands = child_stands (forest_of k0) c.args.node.0 c.args.digit c.args.height may.0 c.tree_key.result c.segment_of.result c.in-Some.child may.2 c.tree_key.ensures c.segment_of.ensures c.in-Some.is in
    own_already k0 c.args.node.0 c.args.digit c.args.height c.node_count.result may.0 to c.in-Some.child may.2 stands c.node_count.ensures c.if-node_count-eq1.true

pub returns-then-node_count-eq1-clause-blocks : goal.returns-then-node_count-eq1-clause-blocks
returns-then-node_count-eq1-clause-blocks g c = none_at_most 21

pub returns-else-node_count-eq1-clause-blocks : goal.returns-else-node_count-eq1-clause-blocks
returns-else-node_count-eq1-clause-blocks g c = c.copy_child.ensures.blocks
