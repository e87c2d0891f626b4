use Rattle.kernel_tables.specs.Kernel.{kernel_of}
use Rattle.forest.specs.Walks.{digits}
use Rattle.kernel_forest.specs.Trees.{forest_of}
use Rattle.seg_tree.proofs.Walking.{node_found, no_node_found}
use Rattle.seg_tree.proofs.pruning.node_on_way.Goals as goal

pub returns-in-Segment : goal.returns-in-Segment
returns-in-Segment g c =
    node_found (forest_of (kernel_of (g.T.Store.memory c.args.store.now))).keys c.args.space.0 (digits c.args.levels c.args.number) c.key_on_way.result c.in-Segment.id c.in-Segment.height
    c.key_on_way.ensures c.in-Segment.is

pub returns-in_default : goal.returns-in_default
returns-in_default g c =
    absurd (no_node_found (forest_of (kernel_of (g.T.Store.memory c.args.store.now))).keys c.args.space.0 (digits c.args.levels c.args.number) c.key_on_way.result c.requires.ends.0
    c.key_on_way.ensures c.in_default.not-Segment c.requires.ends.1)
