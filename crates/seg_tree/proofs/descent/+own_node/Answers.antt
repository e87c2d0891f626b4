use Rattle.std.proofs.Common.{◌-◌, ◌*◌, ◌/◌, arith, rules}
use Rattle.kernel_tables.specs.Kernel.{kernel_of}
use Rattle.kernel_forest.specs.Trees.{node_tree}
use Rattle.kernel_forest.proofs.Rest.{rest-nodes}
use Rattle.seg_tree.proofs.Levels.{descends_none, digits-length, told_owner, owner_told, Level, level_may, level_next, top_above}
use Rattle.seg_tree.proofs.BlockCounts.{none_at_most, more_at_most}
use Rattle.seg_tree.proofs.descent.+own_node.Goals as goal

pub returns-then-levels-eq0-clause-way : goal.returns-then-levels-eq0-clause-way
returns-then-levels-eq0-clause-way g t c outside hand to trees is_space tree =
    descends_none (kernel_of (g.T.Store.memory c.args.store.now)) outside hand c.args.space.0 c.args.levels c.args.number to c.if-levels-eq0.true trees

pub own_node-above-requires : goal.own_node-above-requires
own_node-above-requires g t c κs within =
    let some = c.if-levels-eq0.false in
    let few = c.requires.levels in
    let room = c.requires.room in
    (search rules, (within, (c.requires.good, (omega arith, (top_above c.args.levels c.args.number c.if-levels-eq0.false c.requires.top, (omega arith, (c.requires.trees, c.requires.owner)))))))

pub own_child-requires-clause-room : goal.own_child-requires-clause-room
own_child-requires-clause-room g t c =
    let k0 = kernel_of (g.T.Store.memory c.args.store.now) in
    let all = c.requires.trees in
    let owner = told_owner k0 c.args.space.0 (node_tree c.args.owner) c.requires.owner all.3.owned in
    let d = c.own_node-above.ensures.way all.0 all.1 owner.0 all.2 all.3 owner.1 in
    let few = d.few in
    let number = d.number in
    let nodes = rest-nodes k0 (kernel_of (g.T.Store.memory c.own_node-above.new.store)) d.rest in
    let long = digits-length (c.args.levels - 1) (c.args.number / 16) in
    let some = c.if-levels-eq0.false in
    let room = c.requires.room in
    omega arith

pub own_child-requires-clause-may : goal.own_child-requires-clause-may
own_child-requires-clause-may g t c =
    let k0 = kernel_of (g.T.Store.memory c.args.store.now) in
    let k1 = kernel_of (g.T.Store.memory c.own_node-above.new.store) in
    let all = c.requires.trees in
    let owner = told_owner k0 c.args.space.0 (node_tree c.args.owner) c.requires.owner all.3.owned in
    let level : Level k0 k1 all.0 all.1 c.args.space.0 owner.0 c.args.levels c.args.number c.own_node-above.result.0 = record {
      begins = record { trees = all.2; is_space = all.3; owner = owner.2 };
      some = c.if-levels-eq0.false;
      few = c.requires.levels;
      top = c.requires.top;
      descends = c.own_node-above.ensures.way all.0 all.1 owner.0 all.2 all.3 owner.1;
    } in
    (owner.0, owner.1, level_may k0 k1 all.0 all.1 c.args.space.0 owner.0 c.args.levels c.args.number c.own_node-above.result.0 level c.own_node-above.ensures.good)

pub returns-clause-way : goal.returns-clause-way
returns-clause-way g t c outside hand to trees is_space tree =
    let k0 = kernel_of (g.T.Store.memory c.args.store.now) in
    let k1 = kernel_of (g.T.Store.memory c.own_node-above.new.store) in
    let k2 = kernel_of (g.T.Store.memory c.own_child.new.store) in
    let level : Level k0 k1 outside hand c.args.space.0 to c.args.levels c.args.number c.own_node-above.result.0 = record {
      begins = record { trees = trees; is_space = is_space; owner = owner_told k0 c.args.space.0 (node_tree c.args.owner) to c.requires.owner tree };
      some = c.if-levels-eq0.false;
      few = c.requires.levels;
      top = c.requires.top;
      descends = c.own_node-above.ensures.way outside hand to trees is_space tree;
    } in
    level_next k0 k1 outside hand c.args.space.0 to c.args.levels c.args.number c.own_node-above.result.0 level k2 c.own_child.result.0 (c.own_child.ensures.own to tree)

pub returns-then-levels-eq0-clause-blocks : goal.returns-then-levels-eq0-clause-blocks
returns-then-levels-eq0-clause-blocks g t c = none_at_most (21 * c.args.levels)

pub returns-clause-blocks : goal.returns-clause-blocks
returns-clause-blocks g t c =
    let some = c.if-levels-eq0.false in
    more_at_most (21 * c.args.levels) (omega arith) c.own_node-above.ensures.blocks c.own_child.ensures.blocks
