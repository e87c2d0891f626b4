use Rattle.std.proofs.Common.{arith}
use Rattle.kernel_tables.specs.Kernel.{kernel_of}
use Rattle.seg_tree.proofs.Copying.{may_copy_now, copies_next, no_change_copying, rest_beside}
use Rattle.seg_tree.proofs.BlockCounts.{all_at_most, none_beside, more_beside}
use Rattle.seg_tree.proofs.steps.copy_keys.Goals as goal

pub copy_key-requires-clause-may : goal.copy_key-requires-clause-may
copy_key-requires-clause-may g c =
    let first = kernel_of (g.T.Store.memory c.args.store.now) in
    may_copy_now first (kernel_of (g.T.Store.memory c.loop-digit.store)) c.args.from.0 c.args.to.0 c.loop-digit.digit c.loop-digit-test.true c.requires.may c.loop-digit.invariant.copied

pub loop-digit-init : goal.loop-digit-init
loop-digit-init g c = record {
  copied = no_change_copying (kernel_of (g.T.Store.memory c.args.store.now)) c.args.from.0 c.args.to.0;
  good = c.requires.good;
  blocks = none_beside;
  kept = g.met.T.Store.keeps_same c.args.store.now;
}

pub loop-digit-preserved : goal.loop-digit-preserved
loop-digit-preserved g c =
    let first = kernel_of (g.T.Store.memory c.args.store.now) in
    let mid = kernel_of (g.T.Store.memory c.loop-digit.store) in
    let new = kernel_of (g.T.Store.memory c.copy_key.new.store) in
    record {
      copied = copies_next first mid new c.args.from.0 c.args.to.0 c.loop-digit.digit c.loop-digit-test.true c.requires.may c.loop-digit.invariant.copied c.copy_key.ensures.copied;
      good = c.copy_key.ensures.good;
      blocks = more_beside c.loop-digit.invariant.blocks
          (rest_beside first mid c.args.to.0 1 (g.T.Store.blocks c.loop-digit.store) (g.T.Store.blocks c.copy_key.new.store) c.loop-digit.invariant.copied.steps.rest c.copy_key.ensures.blocks);
      kept = g.met.T.Store.keeps_trans c.args.store.now c.loop-digit.store c.copy_key.new.store c.loop-digit.invariant.kept c.copy_key.ensures.keeps;
    }

pub returns-clause-blocks : goal.returns-clause-blocks
returns-clause-blocks g c = all_at_most 17 (omega arith) c.loop-digit.invariant.blocks
