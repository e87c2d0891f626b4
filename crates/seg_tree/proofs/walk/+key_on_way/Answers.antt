use Rattle.std.proofs.Common.{◌-◌, ◌/◌}
use Rattle.kernel_tables.specs.Kernel.{kernel_of}
use Rattle.forest.specs.Walks.{digits}
use Rattle.kernel_forest.specs.Trees.{forest_of}
use Rattle.seg_tree.proofs.Walking.{way_zero, way_more, end_owned_here}
use Rattle.seg_tree.proofs.walk.+key_on_way.Goals as goal

pub returns-then-levels-eq0 : goal.returns-then-levels-eq0
returns-then-levels-eq0 g t c = way_zero (forest_of (kernel_of (g.T.Store.memory c.args.store.now))).keys c.args.space.0 c.args.levels c.args.number c.if-levels-eq0.true

pub key_below-requires-clause-owned : goal.key_below-requires-clause-owned
key_below-requires-clause-owned g t c =
    end_owned_here (forest_of (kernel_of (g.T.Store.memory c.args.store.now))) c.args.space.0 (digits (c.args.levels - 1) (c.args.number / 16)) c.key_on_way-upper.result
    c.requires.sound c.requires.space c.key_on_way-upper.ensures

pub returns : goal.returns
returns g t c =
    way_more (forest_of (kernel_of (g.T.Store.memory c.args.store.now))).keys c.args.space.0 c.args.levels c.args.number c.key_on_way-upper.result c.key_below.result c.if-levels-eq0.false
    c.key_on_way-upper.ensures c.key_below.ensures
