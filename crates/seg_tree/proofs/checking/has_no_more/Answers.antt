use Rattle.std.proofs.Common.{◌≡◌, ◌+◌, ◌*◌, true, false, arith}
use Rattle.kernel_tables.specs.Kernel.{kernel_of}
use Rattle.kernel_tables.specs.Rows.{key_table}
use Rattle.seg_tree.proofs.Emptiness.{nulls_more, filled_more}
use Rattle.seg_tree.proofs.checking.has_no_more.Goals as goal

pub loop-digit-init : goal.loop-digit-init
loop-digit-init g c = record { told = λ e d less. absurd (omega arith); otherwise = λ e. (let wrong : true ≡ false = e in cc) }

pub loop-digit-preserved : goal.loop-digit-preserved
loop-digit-preserved g c =
    let keys = key_table (kernel_of (g.T.Store.memory c.args.store.now)).keys in
    record {
      told = λ e. nulls_more (λ d. keys (16 * c.args.root.0 + (8 + d))) c.loop-digit.digit c.loop-digit.nulls c.is_null.result c.both-nulls.result c.spelled_key.result
          c.loop-digit.invariant.told c.is_null.ensures.null c.spelled_key.ensures c.both-nulls.ensures e;
      otherwise = λ e. filled_more (λ d. keys (16 * c.args.root.0 + (8 + d))) c.loop-digit.digit c.loop-digit.nulls c.is_null.result c.both-nulls.result c.spelled_key.result
          c.loop-digit.invariant.otherwise c.is_null.ensures.other c.spelled_key.ensures c.both-nulls.ensures e;
    }

pub returns-clause-nulls : goal.returns-clause-nulls
returns-clause-nulls g c e d less =
    let ended = c.loop-digit-test.false in
    c.loop-digit.invariant.told e d (omega arith)

pub returns-clause-otherwise : goal.returns-clause-otherwise
returns-clause-otherwise g c e =
    let some = c.loop-digit.invariant.otherwise e in
    let below = some.1 in
    (some.0, omega arith, some.2)
