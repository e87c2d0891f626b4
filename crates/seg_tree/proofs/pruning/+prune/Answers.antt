use Rattle.std.proofs.Common.{◌*◌, ◌%◌, [], arith, rules}
use Rattle.kernel_tables.specs.Kernel.{kernel_of}
use Rattle.forest.specs.Objects.{NodeObject}
use Rattle.forest.specs.Walks.{digits}
use Rattle.forest.proofs.CopyLaws.{end_owned}
use Rattle.kernel_forest.specs.Trees.{forest_of}
use Rattle.kernel_forest.proofs.Moves.{node_below}
use Rattle.seg_tree.proofs.BlockCounts.{none_at_most, more_at_most}
use Rattle.seg_tree.proofs.Cutting.{prunes_none, prunes_one, prunes_trans, mapped_before, root_filled, here_filled, tree_nulls, end_above, level_stands, level_once, next_own, next_ends, next_ways, next_mapped_ways, level_filled}
use Rattle.seg_tree.proofs.pruning.+prune.Goals as goal

pub returns-then-levels-eq0-clause-pruned : goal.returns-then-levels-eq0-clause-pruned
returns-then-levels-eq0-clause-pruned g t c = prunes_none (kernel_of (g.T.Store.memory c.args.store.now))

pub returns-then-levels-eq0-clause-ways : goal.returns-then-levels-eq0-clause-ways
returns-then-levels-eq0-clause-ways g t c mine page is apart own = own

pub returns-then-levels-eq0-clause-mapped_ways : goal.returns-then-levels-eq0-clause-mapped_ways
returns-then-levels-eq0-clause-mapped_ways g t c page mapped own = own

pub returns-then-levels-eq0-clause-filled : goal.returns-then-levels-eq0-clause-filled
returns-then-levels-eq0-clause-filled g t c = root_filled (kernel_of (g.T.Store.memory c.args.store.now)) c.args.space.0 c.args.levels c.args.number c.requires.space c.if-levels-eq0.true

pub returns-then-levels-eq0-clause-blocks : goal.returns-then-levels-eq0-clause-blocks
returns-then-levels-eq0-clause-blocks g t c = none_at_most (4 * c.args.levels)

pub node_on_way-node-requires-clause-sound : goal.node_on_way-node-requires-clause-sound
node_on_way-node-requires-clause-sound g t c = c.requires.trees.1.held.sound

pub is_empty-requires : goal.is_empty-requires
is_empty-requires g t c = record { node = node_below (kernel_of (g.T.Store.memory c.args.store.now)) c.node_on_way-node.result.0 c.requires.good (end_owned (forest_of (kernel_of (g.T.Store.memory c.args.store.now))) [] c.requires.trees.1.held.sound c.args.space.0 c.requires.space (digits c.args.levels c.args.number) (NodeObject c.node_on_way-node.result.0) c.node_on_way-node.ensures) }

pub node_on_way-above-requires-clause-sound : goal.node_on_way-above-requires-clause-sound
node_on_way-above-requires-clause-sound g t c = c.requires.trees.1.held.sound

pub node_on_way-above-requires-clause-ends : goal.node_on_way-above-requires-clause-ends
node_on_way-above-requires-clause-ends g t c = end_above (kernel_of (g.T.Store.memory c.args.store.now)) c.args.space.0 c.args.levels c.args.number c.if-levels-eq0.false c.requires.trees.0 c.requires.trees.1 c.requires.space c.requires.own c.node_on_way-node.result.0 c.node_on_way-node.ensures

pub take_off-requires-clause-stands : goal.take_off-requires-clause-stands
take_off-requires-clause-stands g t c = level_stands (kernel_of (g.T.Store.memory c.args.store.now)) c.args.space.0 c.args.levels c.args.number c.if-levels-eq0.false c.requires.trees.0 c.requires.trees.1 c.requires.space c.requires.own c.node_on_way-node.result.0 c.node_on_way-node.ensures c.node_on_way-above.result.0 c.node_on_way-above.ensures

pub take_off-requires-clause-once : goal.take_off-requires-clause-once
take_off-requires-clause-once g t c = level_once (kernel_of (g.T.Store.memory c.args.store.now)) c.args.space.0 c.args.levels c.args.number c.if-levels-eq0.false c.requires.trees.0 c.requires.trees.1 c.requires.space c.requires.own c.node_on_way-node.result.0 c.node_on_way-node.ensures c.node_on_way-above.result.0 c.node_on_way-above.ensures

pub take_off-requires-clause-empty : goal.take_off-requires-clause-empty
take_off-requires-clause-empty g t c = tree_nulls (kernel_of (g.T.Store.memory c.args.store.now)) c.node_on_way-node.result.0 (end_owned (forest_of (kernel_of (g.T.Store.memory c.args.store.now))) [] c.requires.trees.1.held.sound c.args.space.0 c.requires.space (digits c.args.levels c.args.number) (NodeObject c.node_on_way-node.result.0) c.node_on_way-node.ensures) (c.is_empty.ensures.empty c.if-is_empty.true)

pub prune-requires : goal.prune-requires
prune-requires g t c κs within =
    let some = c.if-levels-eq0.false in
    let one = prunes_one (kernel_of (g.T.Store.memory c.args.store.now)) c.node_on_way-above.result.0 (c.args.number % 16) c.node_on_way-node.result c.requires.trees.0 c.requires.trees.1 c.requires.good (omega arith) (level_stands (kernel_of (g.T.Store.memory c.args.store.now)) c.args.space.0 c.args.levels c.args.number c.if-levels-eq0.false c.requires.trees.0 c.requires.trees.1 c.requires.space c.requires.own c.node_on_way-node.result.0 c.node_on_way-node.ensures c.node_on_way-above.result.0 c.node_on_way-above.ensures) (level_once (kernel_of (g.T.Store.memory c.args.store.now)) c.args.space.0 c.args.levels c.args.number c.if-levels-eq0.false c.requires.trees.0 c.requires.trees.1 c.requires.space c.requires.own c.node_on_way-node.result.0 c.node_on_way-node.ensures c.node_on_way-above.result.0 c.node_on_way-above.ensures) (tree_nulls (kernel_of (g.T.Store.memory c.args.store.now)) c.node_on_way-node.result.0 (end_owned (forest_of (kernel_of (g.T.Store.memory c.args.store.now))) [] c.requires.trees.1.held.sound c.args.space.0 c.requires.space (digits c.args.levels c.args.number) (NodeObject c.node_on_way-node.result.0) c.node_on_way-node.ensures) (c.is_empty.ensures.empty c.if-is_empty.true)) (kernel_of (g.T.Store.memory c.take_off.new.store)) c.take_off.ensures.off in (
      search rules,
      (
        within,
        (
          c.take_off.ensures.good,
          (
            (c.requires.trees.0, one.trees c.requires.trees.0 c.requires.trees.1),
            (
              (one.spaces c.args.space.0 c.requires.space).0,
              (next_own (kernel_of (g.T.Store.memory c.args.store.now)) c.args.space.0 c.args.levels c.args.number c.if-levels-eq0.false c.requires.trees.0 c.requires.trees.1 c.requires.space c.requires.own c.node_on_way-node.result.0 c.node_on_way-node.ensures c.node_on_way-above.result.0 c.node_on_way-above.ensures (kernel_of (g.T.Store.memory c.take_off.new.store)) c.take_off.ensures.off, (c.node_on_way-above.result.0, next_ends (kernel_of (g.T.Store.memory c.args.store.now)) c.args.space.0 c.args.levels c.args.number c.if-levels-eq0.false c.requires.trees.0 c.requires.trees.1 c.requires.space c.requires.own c.node_on_way-node.result.0 c.node_on_way-node.ensures c.node_on_way-above.result.0 c.node_on_way-above.ensures (kernel_of (g.T.Store.memory c.take_off.new.store)) c.take_off.ensures.off)),
            ),
          ),
        ),
      ),
    )

pub returns-then-is_empty-clause-pruned : goal.returns-then-is_empty-clause-pruned
returns-then-is_empty-clause-pruned g t c = prunes_trans (kernel_of (g.T.Store.memory c.args.store.now)) (kernel_of (g.T.Store.memory c.take_off.new.store)) (kernel_of (g.T.Store.memory c.prune.new.store)) (prunes_one (kernel_of (g.T.Store.memory c.args.store.now)) c.node_on_way-above.result.0 (c.args.number % 16) c.node_on_way-node.result c.requires.trees.0 c.requires.trees.1 c.requires.good (omega arith) (level_stands (kernel_of (g.T.Store.memory c.args.store.now)) c.args.space.0 c.args.levels c.args.number c.if-levels-eq0.false c.requires.trees.0 c.requires.trees.1 c.requires.space c.requires.own c.node_on_way-node.result.0 c.node_on_way-node.ensures c.node_on_way-above.result.0 c.node_on_way-above.ensures) (level_once (kernel_of (g.T.Store.memory c.args.store.now)) c.args.space.0 c.args.levels c.args.number c.if-levels-eq0.false c.requires.trees.0 c.requires.trees.1 c.requires.space c.requires.own c.node_on_way-node.result.0 c.node_on_way-node.ensures c.node_on_way-above.result.0 c.node_on_way-above.ensures) (tree_nulls (kernel_of (g.T.Store.memory c.args.store.now)) c.node_on_way-node.result.0 (end_owned (forest_of (kernel_of (g.T.Store.memory c.args.store.now))) [] c.requires.trees.1.held.sound c.args.space.0 c.requires.space (digits c.args.levels c.args.number) (NodeObject c.node_on_way-node.result.0) c.node_on_way-node.ensures) (c.is_empty.ensures.empty c.if-is_empty.true)) (kernel_of (g.T.Store.memory c.take_off.new.store)) c.take_off.ensures.off) c.prune.ensures.pruned

pub returns-then-is_empty-clause-ways : goal.returns-then-is_empty-clause-ways
returns-then-is_empty-clause-ways g t c mine page is apart own =
    let some = c.if-levels-eq0.false in
    let one = prunes_one (kernel_of (g.T.Store.memory c.args.store.now)) c.node_on_way-above.result.0 (c.args.number % 16) c.node_on_way-node.result c.requires.trees.0 c.requires.trees.1 c.requires.good (omega arith) (level_stands (kernel_of (g.T.Store.memory c.args.store.now)) c.args.space.0 c.args.levels c.args.number c.if-levels-eq0.false c.requires.trees.0 c.requires.trees.1 c.requires.space c.requires.own c.node_on_way-node.result.0 c.node_on_way-node.ensures c.node_on_way-above.result.0 c.node_on_way-above.ensures) (level_once (kernel_of (g.T.Store.memory c.args.store.now)) c.args.space.0 c.args.levels c.args.number c.if-levels-eq0.false c.requires.trees.0 c.requires.trees.1 c.requires.space c.requires.own c.node_on_way-node.result.0 c.node_on_way-node.ensures c.node_on_way-above.result.0 c.node_on_way-above.ensures) (tree_nulls (kernel_of (g.T.Store.memory c.args.store.now)) c.node_on_way-node.result.0 (end_owned (forest_of (kernel_of (g.T.Store.memory c.args.store.now))) [] c.requires.trees.1.held.sound c.args.space.0 c.requires.space (digits c.args.levels c.args.number) (NodeObject c.node_on_way-node.result.0) c.node_on_way-node.ensures) (c.is_empty.ensures.empty c.if-is_empty.true)) (kernel_of (g.T.Store.memory c.take_off.new.store)) c.take_off.ensures.off in
    c.prune.ensures.ways mine page (one.spaces mine is).0 apart (next_ways (kernel_of (g.T.Store.memory c.args.store.now)) c.args.space.0 c.args.levels c.args.number c.if-levels-eq0.false c.requires.trees.0 c.requires.trees.1 c.requires.space c.requires.own c.node_on_way-node.result.0 c.node_on_way-node.ensures c.node_on_way-above.result.0 c.node_on_way-above.ensures (kernel_of (g.T.Store.memory c.take_off.new.store)) c.take_off.ensures.off mine page is apart own)

pub returns-then-is_empty-clause-mapped_ways : goal.returns-then-is_empty-clause-mapped_ways
returns-then-is_empty-clause-mapped_ways g t c page mapped own =
    let some = c.if-levels-eq0.false in
    let one = prunes_one (kernel_of (g.T.Store.memory c.args.store.now)) c.node_on_way-above.result.0 (c.args.number % 16) c.node_on_way-node.result c.requires.trees.0 c.requires.trees.1 c.requires.good (omega arith) (level_stands (kernel_of (g.T.Store.memory c.args.store.now)) c.args.space.0 c.args.levels c.args.number c.if-levels-eq0.false c.requires.trees.0 c.requires.trees.1 c.requires.space c.requires.own c.node_on_way-node.result.0 c.node_on_way-node.ensures c.node_on_way-above.result.0 c.node_on_way-above.ensures) (level_once (kernel_of (g.T.Store.memory c.args.store.now)) c.args.space.0 c.args.levels c.args.number c.if-levels-eq0.false c.requires.trees.0 c.requires.trees.1 c.requires.space c.requires.own c.node_on_way-node.result.0 c.node_on_way-node.ensures c.node_on_way-above.result.0 c.node_on_way-above.ensures) (tree_nulls (kernel_of (g.T.Store.memory c.args.store.now)) c.node_on_way-node.result.0 (end_owned (forest_of (kernel_of (g.T.Store.memory c.args.store.now))) [] c.requires.trees.1.held.sound c.args.space.0 c.requires.space (digits c.args.levels c.args.number) (NodeObject c.node_on_way-node.result.0) c.node_on_way-node.ensures) (c.is_empty.ensures.empty c.if-is_empty.true)) (kernel_of (g.T.Store.memory c.take_off.new.store)) c.take_off.ensures.off in
    let old = kernel_of (g.T.Store.memory c.args.store.now) in
    let mid = kernel_of (g.T.Store.memory c.take_off.new.store) in
    let new = kernel_of (g.T.Store.memory c.prune.new.store) in
    c.prune.ensures.mapped_ways page mapped (next_mapped_ways (kernel_of (g.T.Store.memory c.args.store.now)) c.args.space.0 c.args.levels c.args.number c.if-levels-eq0.false c.requires.trees.0 c.requires.trees.1 c.requires.space c.requires.own c.node_on_way-node.result.0 c.node_on_way-node.ensures c.node_on_way-above.result.0 c.node_on_way-above.ensures (kernel_of (g.T.Store.memory c.take_off.new.store)) c.take_off.ensures.off (tree_nulls (kernel_of (g.T.Store.memory c.args.store.now)) c.node_on_way-node.result.0 (end_owned (forest_of (kernel_of (g.T.Store.memory c.args.store.now))) [] c.requires.trees.1.held.sound c.args.space.0 c.requires.space (digits c.args.levels c.args.number) (NodeObject c.node_on_way-node.result.0) c.node_on_way-node.ensures) (c.is_empty.ensures.empty c.if-is_empty.true)) page (mapped_before old new c.args.space.0 page (prunes_trans old mid new one c.prune.ensures.pruned) c.requires.space mapped) own)

pub returns-then-is_empty-clause-filled : goal.returns-then-is_empty-clause-filled
returns-then-is_empty-clause-filled g t c = level_filled (kernel_of (g.T.Store.memory c.args.store.now)) c.args.space.0 c.args.levels c.args.number c.if-levels-eq0.false c.requires.trees.0 c.requires.trees.1 c.requires.space c.requires.own c.node_on_way-node.result.0 c.node_on_way-node.ensures c.node_on_way-above.result.0 c.node_on_way-above.ensures (kernel_of (g.T.Store.memory c.take_off.new.store)) c.take_off.ensures.off (kernel_of (g.T.Store.memory c.prune.new.store)) c.prune.ensures.filled

pub returns-then-is_empty-clause-blocks : goal.returns-then-is_empty-clause-blocks
returns-then-is_empty-clause-blocks g t c =
    let some = c.if-levels-eq0.false in
    more_at_most {new = g.T.Store.blocks c.prune.new.store} (4 * c.args.levels) (omega arith) c.take_off.ensures.blocks c.prune.ensures.blocks

pub returns-else-is_empty-clause-pruned : goal.returns-else-is_empty-clause-pruned
returns-else-is_empty-clause-pruned g t c = prunes_none (kernel_of (g.T.Store.memory c.args.store.now))

pub returns-else-is_empty-clause-ways : goal.returns-else-is_empty-clause-ways
returns-else-is_empty-clause-ways g t c mine page is apart own = own

pub returns-else-is_empty-clause-mapped_ways : goal.returns-else-is_empty-clause-mapped_ways
returns-else-is_empty-clause-mapped_ways g t c page mapped own = own

pub returns-else-is_empty-clause-filled : goal.returns-else-is_empty-clause-filled
returns-else-is_empty-clause-filled g t c = here_filled (kernel_of (g.T.Store.memory c.args.store.now)) c.args.space.0 c.args.levels c.args.number c.node_on_way-node.result.0 (end_owned (forest_of (kernel_of (g.T.Store.memory c.args.store.now))) [] c.requires.trees.1.held.sound c.args.space.0 c.requires.space (digits c.args.levels c.args.number) (NodeObject c.node_on_way-node.result.0) c.node_on_way-node.ensures) c.node_on_way-node.ensures (c.is_empty.ensures.filled c.if-is_empty.false)

pub returns-else-is_empty-clause-blocks : goal.returns-else-is_empty-clause-blocks
returns-else-is_empty-clause-blocks g t c = none_at_most (4 * c.args.levels)
