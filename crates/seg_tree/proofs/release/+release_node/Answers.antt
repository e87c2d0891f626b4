use Rattle.std.proofs.Common.{arith}
use Rattle.kernel_tables.specs.Kernel.{kernel_of}
use Rattle.kn_base.specs.declared.key.Key.TheVariants.{Segment}
use Rattle.std.specs.Prelude.{[], ◌∷◌}
use Rattle.kernel_forest.proofs.Moves.{node_below, node_shares}
use Rattle.kernel_forest.proofs.GivingNodes.{hand_owned, hand_alive, lets_node_lowered, lets_node_given, give_within, give_once, give_unnamed}
use Rattle.seg_tree.proofs.Emptying.{hand_after, empties_none, empties_more, out_and_released, lets_trans}
use Rattle.seg_tree.proofs.Owning.{once_told, not_once_told}
use Rattle.seg_tree.proofs.release.+release_node.Goals as goal
use Rattle.seg_tree.proofs.release.+release_node.Goals.{in-Some, in-None}

pub node_count-requires-clause-node : goal.node_count-requires-clause-node
node_count-requires-clause-node g t c =
    let k = kernel_of (g.T.Store.memory c.args.store.now) in
    node_below k c.args.node.0 c.requires.good (hand_owned k c.args.node c.args.height c.requires.hand)

pub lower_key-requires-clause-owned : goal.lower_key-requires-clause-owned
lower_key-requires-clause-owned g t c = hand_owned (kernel_of (g.T.Store.memory c.args.store.now)) c.args.node c.args.height c.requires.hand

pub lower_key-requires-clause-shared : goal.lower_key-requires-clause-shared
lower_key-requires-clause-shared g t c =
    let k = kernel_of (g.T.Store.memory c.args.store.now) in
    let alive = hand_alive k c.args.node c.args.height c.requires.hand in
    let same = node_shares k c.args.node.0 (hand_owned k c.args.node c.args.height c.requires.hand) in
    let is = c.node_count.ensures in
    let many = c.if-node_count-ne1.true in
    omega arith

pub returns-then-node_count-ne1-clause-released : goal.returns-then-node_count-ne1-clause-released
returns-then-node_count-ne1-clause-released g t c =
    let k = kernel_of (g.T.Store.memory c.args.store.now) in
    lets_node_lowered k (kernel_of (g.T.Store.memory c.lower_key.new.store)) c.args.node c.args.height c.requires.hand
    (not_once_told k c.args.node.0 c.node_count.result (hand_owned k c.args.node c.args.height c.requires.hand) c.node_count.ensures c.if-node_count-ne1.true)
    (c.lower_key.ensures.lowered c.args.height)

pub loop-digit-init : goal.loop-digit-init
loop-digit-init g t c =
    let k = kernel_of (g.T.Store.memory c.args.store.now) in
    record {
      empties = empties_none k c.args.node c.args.height c.requires.fits (once_told k c.args.node.0 c.node_count.result (hand_owned k c.args.node c.args.height c.requires.hand) c.node_count.ensures c.if-node_count-ne1.false);
      good = c.requires.good;
      kept = g.met.T.Store.keeps_same c.args.store.now;
    }

pub loop-digit-preserved : goal.loop-digit-preserved
loop-digit-preserved g t c =
    let first = kernel_of (g.T.Store.memory c.args.store.now) in
    let mid = kernel_of (g.T.Store.memory c.loop-digit.store) in
    let next = kernel_of (g.T.Store.memory c.take_out.new.store) in
    let e = c.loop-digit.invariant.empties in
    let h_mid = hand_after first mid (Segment c.args.node c.args.height ∷ []) (Segment c.args.node c.args.height ∷ []) c.loop-digit.invariant.empties.lets c.requires.hand in
    elim c.match-take_out.branch [
      | in-Some w ↦
          let new = kernel_of (g.T.Store.memory w.release_node.new.store) in
          let both = out_and_released mid next (kernel_of (g.T.Store.memory w.release_node.new.store)) c.args.node w.in-Some.child c.loop-digit.digit c.args.height h_mid w.in-Some.ensures.out w.release_node.ensures.released in
          rw w.store-is (record {
            empties = empties_more first mid (kernel_of (g.T.Store.memory w.release_node.new.store)) c.args.node c.loop-digit.digit c.args.height c.requires.hand c.loop-digit.invariant.empties both.0 both.1;
            good = w.release_node.ensures.good;
            kept = g.met.T.Store.keeps_trans c.args.store.now c.loop-digit.store w.release_node.new.store c.loop-digit.invariant.kept
                (g.met.T.Store.keeps_trans c.loop-digit.store c.take_out.new.store w.release_node.new.store c.take_out.ensures.keeps w.release_node.ensures.keeps);
          })
      | in-None w ↦
          rw w.store-is (record {
            empties = empties_more first mid next c.args.node c.loop-digit.digit c.args.height c.requires.hand c.loop-digit.invariant.empties w.in-None.ensures.out.lets w.in-None.ensures.out.null;
            good = c.take_out.ensures.good;
            kept = g.met.T.Store.keeps_trans c.args.store.now c.loop-digit.store c.take_out.new.store c.loop-digit.invariant.kept c.take_out.ensures.keeps;
          })
    ]

pub give_node-requires-clause-inside : goal.give_node-requires-clause-inside
give_node-requires-clause-inside g t c =
    let first = kernel_of (g.T.Store.memory c.args.store.now) in
    let mid = kernel_of (g.T.Store.memory c.loop-digit.store) in
    let end = c.loop-digit-test.false in
    give_within mid mid c.args.node c.args.height c.loop-digit.invariant.good
    (hand_after first mid (Segment c.args.node c.args.height ∷ []) (Segment c.args.node c.args.height ∷ []) c.loop-digit.invariant.empties.lets c.requires.hand)
    (λ d less. c.loop-digit.invariant.empties.nulls d (omega arith)) c.loop-digit.invariant.empties.once

pub give_node-requires-clause-taken : goal.give_node-requires-clause-taken
give_node-requires-clause-taken g t c =
    let first = kernel_of (g.T.Store.memory c.args.store.now) in
    let mid = kernel_of (g.T.Store.memory c.loop-digit.store) in
    let end = c.loop-digit-test.false in
    give_once mid mid c.args.node c.args.height c.loop-digit.invariant.good
    (hand_after first mid (Segment c.args.node c.args.height ∷ []) (Segment c.args.node c.args.height ∷ []) c.loop-digit.invariant.empties.lets c.requires.hand)
    (λ d less. c.loop-digit.invariant.empties.nulls d (omega arith)) c.loop-digit.invariant.empties.once

pub give_node-requires-clause-unnamed : goal.give_node-requires-clause-unnamed
give_node-requires-clause-unnamed g t c =
    let first = kernel_of (g.T.Store.memory c.args.store.now) in
    let mid = kernel_of (g.T.Store.memory c.loop-digit.store) in
    let end = c.loop-digit-test.false in
    give_unnamed mid mid c.args.node c.args.height c.loop-digit.invariant.good
    (hand_after first mid (Segment c.args.node c.args.height ∷ []) (Segment c.args.node c.args.height ∷ []) c.loop-digit.invariant.empties.lets c.requires.hand)
    (λ d less. c.loop-digit.invariant.empties.nulls d (omega arith)) c.loop-digit.invariant.empties.once

pub returns-clause-released : goal.returns-clause-released
returns-clause-released g t c =
    let first = kernel_of (g.T.Store.memory c.args.store.now) in
    let mid = kernel_of (g.T.Store.memory c.loop-digit.store) in
    let new = kernel_of (g.T.Store.memory c.give_node.new.store) in
    let end = c.loop-digit-test.false in
    lets_trans first mid new (Segment c.args.node c.args.height ∷ []) (Segment c.args.node c.args.height ∷ []) [] c.loop-digit.invariant.empties.lets
    (lets_node_given mid new c.args.node c.args.height c.loop-digit.invariant.good
    (hand_after first mid (Segment c.args.node c.args.height ∷ []) (Segment c.args.node c.args.height ∷ []) c.loop-digit.invariant.empties.lets c.requires.hand)
    (λ d less. c.loop-digit.invariant.empties.nulls d (omega arith)) c.loop-digit.invariant.empties.once c.give_node.ensures.given c.give_node.ensures.shares)
