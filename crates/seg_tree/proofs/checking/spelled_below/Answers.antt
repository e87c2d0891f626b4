use Rattle.std.proofs.Common.{ap}
use Rattle.kernel_tables.specs.Kernel.{kernel_of}
use Rattle.kernel_tables.specs.Rows.{key_table}
use Rattle.forest.specs.Objects.{named}
use Rattle.seg_tree.proofs.Forms.{below_at, below_none}
use Rattle.seg_tree.proofs.checking.spelled_below.Goals as goal

pub spelled_key-requires-clause-node : goal.spelled_key-requires-clause-node
spelled_key-requires-clause-node g c = c.requires.node c.in-Segment.id.0 (ap named c.in-Segment.is)

pub returns-in-Segment : goal.returns-in-Segment
returns-in-Segment g c = below_at (key_table (kernel_of (g.T.Store.memory c.args.store.now)).keys) c.args.upper c.spelled_key.result c.in-Segment.id c.in-Segment.height c.args.digit c.in-Segment.is c.spelled_key.ensures

pub returns-in_default : goal.returns-in_default
returns-in_default g c = below_none (key_table (kernel_of (g.T.Store.memory c.args.store.now)).keys) c.args.upper c.args.digit c.in_default.not-Segment
