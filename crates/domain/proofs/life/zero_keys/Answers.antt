use Rattle.kernel_tables.proofs.BlockLaws.{no_block}
use Rattle.domain.proofs.Kept.{keys-pages}
use Rattle.domain.proofs.Writing.{same_block}
use Rattle.std.proofs.Common.{arith, rules}
use Rattle.kernel_tables.specs.Kernel.{kernel_of}
use Rattle.kernel_tables.specs.Rows.{domain_rows}
use Rattle.domain.proofs.Filling.{fills_none, fills_zero}
use Rattle.domain.proofs.life.zero_keys.Goals as goal

pub loop-place-init : goal.loop-place-init
loop-place-init g c = record {
  filled = fills_none (kernel_of (g.T.Store.memory c.args.store.now)) c.args.node.0 c.args.from;
  mine = c.requires.mine;
  good = c.requires.good;
  blocks = no_block;
  kept = search (g.met.T.Store.keeps_same, rules);
}

pub loop-place-preserved : goal.loop-place-preserved
loop-place-preserved g c =
    let old = kernel_of (g.T.Store.memory c.args.store.now) in
    let mid = kernel_of (g.T.Store.memory c.loop-place.store) in
    let less = c.loop-place-test.true in
    let end = c.requires.end in
    record {
      filled = fills_zero old mid (kernel_of (g.T.Store.memory c.put_row.new.store)) c.args.node.0 c.args.from c.loop-place.place (domain_rows old c.args.node.0)
          c.requires.mine (omega arith) (omega arith) (c.requires.nulls c.loop-place.place (omega arith)) c.loop-place.invariant.filled c.put_row.ensures.put;
      mine = c.put_row.ensures.mine;
      good = c.put_row.ensures.good;
      blocks = same_block old.pages mid.pages c.args.node.0 (keys-pages old mid c.loop-place.invariant.filled.rest) c.loop-place.invariant.blocks c.put_row.ensures.blocks;
      kept = g.met.T.Store.keeps_trans c.args.store.now c.loop-place.store c.put_row.new.store c.loop-place.invariant.kept c.put_row.ensures.keeps;
    }
