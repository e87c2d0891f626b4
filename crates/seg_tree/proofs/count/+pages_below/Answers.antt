use Rattle.std.proofs.Common.{◌≡◌, ◌-◌, arith, rules}
use Rattle.kernel_tables.specs.Kernel.{kernel_of}
use Rattle.forest.specs.Walks.{key_below}
use Rattle.forest.specs.Mapped.{pages_below}
use Rattle.kernel_forest.specs.Trees.{forest_of}
use Rattle.seg_tree.proofs.Counting.{below_few, sum_few, none_so_far, one_more_part, pages_told, pages_leaf, pages_parts, below_owned}
use Rattle.seg_tree.proofs.count.+pages_below.Goals as goal

pub returns-then-levels-eq0 : goal.returns-then-levels-eq0
returns-then-levels-eq0 g t c =
    let keys = (forest_of (kernel_of (g.T.Store.memory c.args.store.now))).keys in
    pages_leaf keys c.args.key c.args.levels c.page_number.result c.if-levels-eq0.true (c.page_number.ensures keys)

pub pages_below-pages-requires : goal.pages_below-pages-requires
pages_below-pages-requires g t c κs within =
    let some = c.if-levels-eq0.false in
    let few = c.requires.few in (
      search rules,
      (
        within,
        (
          c.requires.good,
          (
            c.requires.sound,
            (
              (λ node h. below_owned (forest_of (kernel_of (g.T.Store.memory c.args.store.now))) c.requires.sound c.args.key c.key_below-below.result c.loop-digit.digit node c.key_below-below.ensures h),
              omega arith,
            ),
          ),
        ),
      ),
    )

pub overflow_add-pages : goal.overflow_add-pages
overflow_add-pages g t c =
    let few = c.requires.few in
    let here = below_few (forest_of (kernel_of (g.T.Store.memory c.args.store.now))).keys c.key_below-below.result (c.args.levels - 1) (omega arith) in
    let before = sum_few (λ digit. pages_below (forest_of (kernel_of (g.T.Store.memory c.args.store.now))).keys (key_below (forest_of (kernel_of (g.T.Store.memory c.args.store.now))).keys c.args.key digit) (c.args.levels - 1)) c.loop-digit.digit
    (λ digit. below_few (forest_of (kernel_of (g.T.Store.memory c.args.store.now))).keys (key_below (forest_of (kernel_of (g.T.Store.memory c.args.store.now))).keys c.args.key digit) (c.args.levels - 1) (omega arith)) in
    let so_far = c.loop-digit.invariant in
    let result = c.pages_below-pages.ensures in
    let less = c.loop-digit-test.true in
    omega arith

pub loop-digit-init : goal.loop-digit-init
loop-digit-init g t c =
    let keys = (forest_of (kernel_of (g.T.Store.memory c.args.store.now))).keys in
    none_so_far (λ digit. pages_below keys (key_below keys c.args.key digit) (c.args.levels - 1))

pub loop-digit-preserved : goal.loop-digit-preserved
loop-digit-preserved g t c =
    let keys = (forest_of (kernel_of (g.T.Store.memory c.args.store.now))).keys in
    one_more_part (λ digit. pages_below keys (key_below keys c.args.key digit) (c.args.levels - 1)) c.loop-digit.digit c.loop-digit.pages c.pages_below-pages.result c.loop-digit.invariant
    (pages_told keys c.key_below-below.result (key_below keys c.args.key c.loop-digit.digit) (c.args.levels - 1) c.pages_below-pages.result c.key_below-below.ensures c.pages_below-pages.ensures)

pub returns : goal.returns
returns g t c =
    let some = c.if-levels-eq0.false in
    let less = c.loop-digit-test.false in
    let end : c.loop-digit.digit ≡ 16 = omega arith in
    pages_parts (forest_of (kernel_of (g.T.Store.memory c.args.store.now))).keys c.args.key c.args.levels c.loop-digit.digit c.loop-digit.pages c.if-levels-eq0.false end c.loop-digit.invariant
