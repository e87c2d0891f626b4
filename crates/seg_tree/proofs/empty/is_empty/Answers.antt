use Rattle.std.proofs.Common.{◌+◌, ◌*◌, arith}
use Rattle.kernel_tables.specs.Kernel.{kernel_of}
use Rattle.kernel_tables.specs.Rows.{key_table}
use Rattle.seg_tree.proofs.Emptiness.{nulls_more, filled_more}
use Rattle.seg_tree.proofs.empty.is_empty.Goals as goal

pub loop-digit-init : goal.loop-digit-init
loop-digit-init g c = record {
  empty = λ e d less. absurd (omega arith);
  filled = λ e. cc;
}

pub loop-digit-preserved : goal.loop-digit-preserved
loop-digit-preserved g c = record {
  empty = λ e. nulls_more (λ d. key_table (kernel_of (g.T.Store.memory c.args.store.now)).keys (16 * c.args.node.0 + d)) c.loop-digit.digit c.loop-digit.empty c.is_null.result c.both-empty.result c.spelled_key.result
      c.loop-digit.invariant.empty c.is_null.ensures.null c.spelled_key.ensures c.both-empty.ensures e;
  filled = λ e. filled_more (λ d. key_table (kernel_of (g.T.Store.memory c.args.store.now)).keys (16 * c.args.node.0 + d)) c.loop-digit.digit c.loop-digit.empty c.is_null.result c.both-empty.result c.spelled_key.result
      c.loop-digit.invariant.filled c.is_null.ensures.other c.spelled_key.ensures c.both-empty.ensures e;
}

pub returns-clause-empty : goal.returns-clause-empty
returns-clause-empty g c e d less =
    let ended = c.loop-digit-test.false in
    c.loop-digit.invariant.empty e d (omega arith)

pub returns-clause-filled : goal.returns-clause-filled
returns-clause-filled g c e =
    let some = c.loop-digit.invariant.filled e in
    let below = some.1 in
    (some.0, omega arith, some.2)
