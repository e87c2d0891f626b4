use Rattle.std.proofs.Common.{arith, rules}
use Rattle.kernel_tables.specs.Kernel.{kernel_of}
use Rattle.kernel_tables.proofs.BlockLaws.{no_block}
use Rattle.domain.proofs.Kept.{keys-pages}
use Rattle.domain.proofs.Writing.{same_block}
use Rattle.domain.proofs.Clearing.{clears_none, clears_more}
use Rattle.domain.proofs.ends.clear_row.Goals as goal

pub loop-place-init : goal.loop-place-init
loop-place-init g c = record {
  cleared = clears_none (kernel_of (g.T.Store.memory c.args.store.now)) c.args.node.0;
  mine = c.requires.mine;
  good = c.requires.good;
  blocks = no_block;
  kept = search (g.met.T.Store.keeps_same, rules);
}

pub loop-place-preserved : goal.loop-place-preserved
loop-place-preserved g c =
    let old = kernel_of (g.T.Store.memory c.args.store.now) in
    let mid = kernel_of (g.T.Store.memory c.loop-place.store) in
    let less = c.loop-place-test.true in
    record {
      cleared = clears_more old mid (kernel_of (g.T.Store.memory c.put_row.new.store)) c.args.node.0 c.loop-place.place
          c.requires.mine (omega arith) c.requires.quiet c.loop-place.invariant.cleared c.put_row.ensures.put;
      mine = c.put_row.ensures.mine;
      good = c.put_row.ensures.good;
      blocks = same_block old.pages mid.pages c.args.node.0 (keys-pages old mid c.loop-place.invariant.cleared.rest) c.loop-place.invariant.blocks c.put_row.ensures.blocks;
      kept = g.met.T.Store.keeps_trans c.args.store.now c.loop-place.store c.put_row.new.store c.loop-place.invariant.kept c.put_row.ensures.keeps;
    }
