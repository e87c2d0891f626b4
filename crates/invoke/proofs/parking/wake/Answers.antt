use Rattle.std.proofs.Common.{◌≡◌, ap, arith, refl, rules, subst, ◌∙◌}
use Rattle.kernel_tables.specs.Kernel.{kernel_of}
use Rattle.kernel_tables.specs.Blocks.{ChangesBlocks}
use Rattle.kernel_tables.proofs.BlockLaws.{no_block}
use Rattle.domain.specs.Domains.{domains}
use Rattle.domain.specs.Marks.{all_woken}
use Rattle.domain.proofs.Writing.{writes_none, writes_trans}
use Rattle.invoke.specs.Parking.{object_word, woken_blocks}
use Rattle.invoke.proofs.Waking.{below_none, below_all, woken_below, nobody_woken, still_domain, one_woken, blocks_more}
use Rattle.invoke.proofs.parking.wake.Goals as goal

pub loop-slot-init : goal.loop-slot-init
loop-slot-init g c = record {
  woken = below_none c.object_word-word.result (domains (kernel_of (g.T.Store.memory c.args.store.now)));
  lives_same = refl;
  others = writes_none (kernel_of (g.T.Store.memory c.args.store.now));
  rows = c.requires.rows;
  good = c.requires.good;
  blocks = no_block;
  kept = search (g.met.T.Store.keeps_same, rules);
}

pub wake_in-requires-clause-domain : goal.wake_in-requires-clause-domain
wake_in-requires-clause-domain g c =
    still_domain c.object_word-word.result c.loop-slot.slot (kernel_of (g.T.Store.memory c.args.store.now)) (kernel_of (g.T.Store.memory c.loop-slot.store)) (kernel_of (g.T.Store.memory c.loop-slot.store))
    c.requires.in_slots c.loop-slot.invariant.others c.loop-slot.invariant.woken

pub loop-slot-preserved : goal.loop-slot-preserved
loop-slot-preserved g c =
    let first = kernel_of (g.T.Store.memory c.args.store.now) in
    let old = kernel_of (g.T.Store.memory c.loop-slot.store) in
    let new = kernel_of (g.T.Store.memory c.wake_in.new.store) in
    record {
      woken = one_woken c.object_word-word.result c.loop-slot.slot first old new c.requires.in_slots c.loop-slot.invariant.others c.loop-slot.invariant.woken c.wake_in.ensures.woken;
      lives_same = c.wake_in.ensures.lives ∙ c.loop-slot.invariant.lives_same;
      others = writes_trans first old new c.loop-slot.invariant.others c.wake_in.ensures.others;
      rows = c.wake_in.ensures.rows;
      good = c.wake_in.ensures.good;
      blocks = blocks_more c.object_word-word.result c.loop-slot.slot first old new c.requires.in_slots c.loop-slot.invariant.others c.loop-slot.invariant.woken
          (g.T.Store.blocks c.args.store.now) (g.T.Store.blocks c.loop-slot.store) (g.T.Store.blocks c.wake_in.new.store) c.loop-slot.invariant.blocks c.wake_in.ensures.blocks;
      kept = g.met.T.Store.keeps_trans c.args.store.now c.loop-slot.store c.wake_in.new.store c.loop-slot.invariant.kept c.wake_in.ensures.keeps;
    }

pub returns-clause-woken : goal.returns-clause-woken
returns-clause-woken g c =
    let ended = c.loop-slot-test.false in
    let first = kernel_of (g.T.Store.memory c.args.store.now) in
    c.loop-slot.invariant.woken
    ∙ ap (λ n. woken_below c.object_word-word.result n (domains first)) (let all : c.loop-slot.slot ≡ 64 = omega arith in all)
    ∙ below_all c.object_word-word.result first c.requires.in_slots
    ∙ ap (λ n. all_woken n (domains first)) c.object_word-word.ensures

pub returns-clause-nobody : goal.returns-clause-nobody
returns-clause-nobody g c = λ root.
    nobody_woken (object_word c.args.on) (domains (kernel_of (g.T.Store.memory c.args.store.now))) (domains (kernel_of (g.T.Store.memory c.loop-slot.store))) (returns-clause-woken g c) root

pub returns-clause-blocks : goal.returns-clause-blocks
returns-clause-blocks g c =
    let ended = c.loop-slot-test.false in
    let first = kernel_of (g.T.Store.memory c.args.store.now) in
    subst (λ n. ChangesBlocks (g.T.Store.blocks c.args.store.now) (g.T.Store.blocks c.loop-slot.store) (woken_blocks first n 64)) c.object_word-word.ensures
    (subst (λ n. ChangesBlocks (g.T.Store.blocks c.args.store.now) (g.T.Store.blocks c.loop-slot.store) (woken_blocks first c.object_word-word.result n)) (let all : c.loop-slot.slot ≡ 64 = omega arith in all) c.loop-slot.invariant.blocks)
