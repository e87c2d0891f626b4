use Rattle.std.proofs.Common.{◌≡◌, ◌-◌, true, false, arith, rules}
use Rattle.kernel_tables.specs.Kernel.{kernel_of}
use Rattle.kernel_tables.specs.Rows.{key_table}
use Rattle.forest.specs.Walks.{key_below}
use Rattle.seg_tree.proofs.Forms.{parts_more, no_parts_more, part_zero, part_leaf, part_node, no_part_below, no_part_broken, no_part_unfit, named_in_range}
use Rattle.seg_tree.proofs.checking.+is_part.Goals as goal

pub returns-then-height-eq0-clause-part : goal.returns-then-height-eq0-clause-part
returns-then-height-eq0-clause-part g t c e = part_zero (key_table (kernel_of (g.T.Store.memory c.args.store.now)).keys) c.args.height c.args.key c.if-height-eq0.true

pub returns-then-height-eq0-clause-otherwise : goal.returns-then-height-eq0-clause-otherwise
returns-then-height-eq0-clause-otherwise g t c e = (let wrong : true ≡ false = e in cc)

pub returns-then-is_leaf-clause-part : goal.returns-then-is_leaf-clause-part
returns-then-is_leaf-clause-part g t c e = part_leaf (key_table (kernel_of (g.T.Store.memory c.args.store.now)).keys) c.args.height c.args.key c.if-height-eq0.false (c.is_leaf.ensures.leaf c.if-is_leaf.true) (c.fits_under.ensures.fits e)

pub returns-then-is_leaf-clause-otherwise : goal.returns-then-is_leaf-clause-otherwise
returns-then-is_leaf-clause-otherwise g t c e = no_part_unfit (key_table (kernel_of (g.T.Store.memory c.args.store.now)).keys) c.args.height c.args.key c.if-height-eq0.false (c.fits_under.ensures.otherwise e)

pub is_broken-requires : goal.is_broken-requires
is_broken-requires g t c = c.requires.node

pub returns-then-is_broken-clause-part : goal.returns-then-is_broken-clause-part
returns-then-is_broken-clause-part g t c e = (let wrong : false ≡ true = e in cc)

pub returns-then-is_broken-clause-otherwise : goal.returns-then-is_broken-clause-otherwise
returns-then-is_broken-clause-otherwise g t c e = no_part_broken (key_table (kernel_of (g.T.Store.memory c.args.store.now)).keys) c.args.height c.args.key c.if-height-eq0.false (c.is_broken.ensures.broken c.if-is_broken.true)

pub spelled_below-requires-clause-node : goal.spelled_below-requires-clause-node
spelled_below-requires-clause-node g t c = c.requires.node

pub is_part-requires : goal.is_part-requires
is_part-requires g t c κs within =
    let some = c.if-height-eq0.false in
    let kernel = kernel_of (g.T.Store.memory c.args.store.now) in
    (search rules, (within, (c.requires.in_range, λ node h. named_in_range (key_table kernel.keys) kernel.nodes c.requires.in_range c.args.key c.spelled_below.result c.loop-digit.digit node c.spelled_below.ensures h)))

pub loop-digit-init : goal.loop-digit-init
loop-digit-init g t c = record { parts = λ e d less. absurd (omega arith); otherwise = λ e. (let wrong : true ≡ false = e in cc) }

pub loop-digit-preserved : goal.loop-digit-preserved
loop-digit-preserved g t c =
    let keys = key_table (kernel_of (g.T.Store.memory c.args.store.now)).keys in
    record {
      parts = λ e. parts_more keys (λ d. key_below keys c.args.key d) (c.args.height - 1) c.loop-digit.digit c.loop-digit.parts c.is_part.result c.both-parts.result c.spelled_below.result
          c.loop-digit.invariant.parts c.is_part.ensures.part c.spelled_below.ensures c.both-parts.ensures e;
      otherwise = λ e. no_parts_more keys (λ d. key_below keys c.args.key d) (c.args.height - 1) c.loop-digit.digit c.loop-digit.parts c.is_part.result c.both-parts.result c.spelled_below.result
          c.loop-digit.invariant.otherwise c.is_part.ensures.otherwise c.spelled_below.ensures c.both-parts.ensures e;
    }

pub returns-clause-part : goal.returns-clause-part
returns-clause-part g t c e =
    let ended = c.loop-digit-test.false in
    part_node (key_table (kernel_of (g.T.Store.memory c.args.store.now)).keys) c.args.height c.args.key c.if-height-eq0.false (c.is_broken.ensures.whole c.if-is_broken.false) (λ d less. c.loop-digit.invariant.parts e d (omega arith))

pub returns-clause-otherwise : goal.returns-clause-otherwise
returns-clause-otherwise g t c e =
    let some = c.loop-digit.invariant.otherwise e in
    let below = some.1 in
    let node = c.is_leaf.ensures.node c.if-is_leaf.false in
    no_part_below (key_table (kernel_of (g.T.Store.memory c.args.store.now)).keys) c.args.height c.args.key c.if-height-eq0.false node.0 node.1 (some.0, omega arith, some.2)
