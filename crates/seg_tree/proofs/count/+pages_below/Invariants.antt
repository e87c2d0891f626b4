use Rattle.std.proofs.Common.{◌≡◌, ◌-◌}
use Rattle.kernel_tables.specs.Kernel.{kernel_of}
use Rattle.unix_model.specs.Tables.{sum_below}
use Rattle.forest.specs.Walks.{key_below}
use Rattle.forest.specs.Mapped.{pages_below}
use Rattle.kernel_forest.specs.Trees.{forest_of}
use Rattle.seg_tree.proofs.count.+pages_below.Given as goal

abbrev pub decreases-pages_below : goal.decreases-pages_below
decreases-pages_below g l = l.levels

-- the pages below so many digits
abbrev pub invariant-loop-digit : goal.invariant-loop-digit
invariant-loop-digit g l =
    l.pages ≡ sum_below (λ digit. pages_below (forest_of (kernel_of (g.T.Store.memory l.store))).keys (key_below (forest_of (kernel_of (g.T.Store.memory l.store))).keys l.key digit) (l.levels - 1)) l.digit
