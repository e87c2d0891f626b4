use Rattle.std.proofs.Common.{◌≡◌, ◌+◌, ◌*◌, true, false, arith}
use Rattle.kernel_tables.specs.Kernel.{kernel_of}
use Rattle.kernel_tables.specs.Rows.{key_table}
use Rattle.seg_tree.proofs.Forms.{parts_more, no_parts_more, place_in_range}
use Rattle.seg_tree.proofs.checking.has_parts.Goals as goal

pub loop-digit-init : goal.loop-digit-init
loop-digit-init g c = record { told = λ e d less. absurd (omega arith); otherwise = λ e. (let wrong : true ≡ false = e in cc) }

pub loop-digit-preserved : goal.loop-digit-preserved
loop-digit-preserved g c =
    let keys = key_table (kernel_of (g.T.Store.memory c.args.store.now)).keys in
    record {
      told = λ e. parts_more keys (λ d. keys (16 * c.args.root.0 + d)) 5 c.loop-digit.digit c.loop-digit.parts c.is_part.result c.both-parts.result c.spelled_key.result
          c.loop-digit.invariant.told c.is_part.ensures.part c.spelled_key.ensures c.both-parts.ensures e;
      otherwise = λ e. no_parts_more keys (λ d. keys (16 * c.args.root.0 + d)) 5 c.loop-digit.digit c.loop-digit.parts c.is_part.result c.both-parts.result c.spelled_key.result
          c.loop-digit.invariant.otherwise c.is_part.ensures.otherwise c.spelled_key.ensures c.both-parts.ensures e;
    }

pub returns-clause-parts : goal.returns-clause-parts
returns-clause-parts g c e d less =
    let ended = c.loop-digit-test.false in
    c.loop-digit.invariant.told e d (omega arith)

pub returns-clause-otherwise : goal.returns-clause-otherwise
returns-clause-otherwise g c e =
    let some = c.loop-digit.invariant.otherwise e in
    let below = some.1 in
    (some.0, omega arith, some.2)

pub is_part-requires-clause-node : goal.is_part-requires-clause-node
is_part-requires-clause-node g c node h =
    let kernel = kernel_of (g.T.Store.memory c.args.store.now) in
    place_in_range (key_table kernel.keys) kernel.nodes c.requires.in_range c.spelled_key.result (16 * c.args.root.0 + c.loop-digit.digit) node c.spelled_key.ensures h
