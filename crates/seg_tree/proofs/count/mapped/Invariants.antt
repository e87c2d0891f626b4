use Rattle.std.proofs.Common.{◌≡◌}
use Rattle.kernel_tables.specs.Kernel.{kernel_of}
use Rattle.unix_model.specs.Tables.{at, sum_below}
use Rattle.forest.specs.Walks.{place_of}
use Rattle.forest.specs.Mapped.{pages_below}
use Rattle.kernel_forest.specs.Trees.{forest_of}
use Rattle.seg_tree.proofs.count.mapped.Given as goal

-- the pages below so many parts of the root
abbrev pub invariant-loop-digit : goal.invariant-loop-digit
invariant-loop-digit g l =
    l.pages ≡ sum_below (λ digit. pages_below (forest_of (kernel_of (g.T.Store.memory l.store))).keys (at (forest_of (kernel_of (g.T.Store.memory l.store))).keys (place_of l.space.0.0 digit)) 4) l.digit
