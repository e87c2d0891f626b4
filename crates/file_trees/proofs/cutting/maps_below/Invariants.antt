use Rattle.std.proofs.Common.{◌≡◌, ℕ, ◌<◌, None}
use Rattle.kernel_tables.specs.Kernel.{kernel_of}
use Rattle.forest.specs.Walks.{map_of}
use Rattle.kernel_forest.specs.Trees.{forest_of}
use Rattle.file_trees.proofs.cutting.maps_below.Given as goal

-- no page is mapped so far
abbrev pub invariant-loop-page : goal.invariant-loop-page
invariant-loop-page g l = (number : ℕ) → number < l.page → map_of (forest_of (kernel_of (g.T.Store.memory l.store))).keys l.tree.0.0 number ≡ None
