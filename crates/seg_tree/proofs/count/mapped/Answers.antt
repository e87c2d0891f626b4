use Rattle.std.proofs.Common.{◌≡◌, arith}
use Rattle.kernel_tables.specs.Kernel.{kernel_of}
use Rattle.unix_model.specs.Tables.{at}
use Rattle.forest.specs.Walks.{place_of}
use Rattle.forest.specs.Mapped.{pages_below}
use Rattle.kernel_forest.specs.Trees.{forest_of}
use Rattle.seg_tree.proofs.Counting.{below_few, sum_few, none_so_far, one_more_part, pages_told, mapped_parts, place_owned}
use Rattle.seg_tree.proofs.count.mapped.Goals as goal

pub tree_key-requires-clause-owned : goal.tree_key-requires-clause-owned
tree_key-requires-clause-owned g c = c.requires.space.owned

pub pages_below-pages-requires-clause-sound : goal.pages_below-pages-requires-clause-sound
pages_below-pages-requires-clause-sound g c = c.requires.trees.1.held.sound

pub pages_below-pages-requires-clause-owned : goal.pages_below-pages-requires-clause-owned
pages_below-pages-requires-clause-owned g c node h =
    place_owned (forest_of (kernel_of (g.T.Store.memory c.args.store.now))) c.requires.trees.1.held.sound c.tree_key.result (place_of c.args.space.0.0 c.loop-digit.digit) node c.tree_key.ensures h

pub overflow_add-pages : goal.overflow_add-pages
overflow_add-pages g c =
    let here = below_few (forest_of (kernel_of (g.T.Store.memory c.args.store.now))).keys c.tree_key.result 4 (omega arith) in
    let before = sum_few (λ digit. pages_below (forest_of (kernel_of (g.T.Store.memory c.args.store.now))).keys (at (forest_of (kernel_of (g.T.Store.memory c.args.store.now))).keys (place_of c.args.space.0.0 digit)) 4) c.loop-digit.digit
    (λ digit. below_few (forest_of (kernel_of (g.T.Store.memory c.args.store.now))).keys (at (forest_of (kernel_of (g.T.Store.memory c.args.store.now))).keys (place_of c.args.space.0.0 digit)) 4 (omega arith)) in
    let so_far = c.loop-digit.invariant in
    let result = c.pages_below-pages.ensures in
    let less = c.loop-digit-test.true in
    omega arith

pub loop-digit-init : goal.loop-digit-init
loop-digit-init g c =
    let keys = (forest_of (kernel_of (g.T.Store.memory c.args.store.now))).keys in
    none_so_far (λ digit. pages_below keys (at keys (place_of c.args.space.0.0 digit)) 4)

pub loop-digit-preserved : goal.loop-digit-preserved
loop-digit-preserved g c =
    let keys = (forest_of (kernel_of (g.T.Store.memory c.args.store.now))).keys in
    one_more_part (λ digit. pages_below keys (at keys (place_of c.args.space.0.0 digit)) 4) c.loop-digit.digit c.loop-digit.pages c.pages_below-pages.result c.loop-digit.invariant
    (pages_told keys c.tree_key.result (at keys (place_of c.args.space.0.0 c.loop-digit.digit)) 4 c.pages_below-pages.result c.tree_key.ensures c.pages_below-pages.ensures)

pub returns : goal.returns
returns g c =
    let less = c.loop-digit-test.false in
    let end : c.loop-digit.digit ≡ 8 = omega arith in
    mapped_parts (forest_of (kernel_of (g.T.Store.memory c.args.store.now))).keys c.args.space.0.0 c.loop-digit.digit c.loop-digit.pages end c.loop-digit.invariant
