-- Ways in a space that are its own, so that nothing has to be copied on them.
use Rattle.std.specs.Prelude.{◌≢◌, ℕ, IsSome, []}
use Rattle.kernel_tables.specs.Kernel.{Kernel}
use Rattle.forest.specs.Forest.{IsSpace, OwnWay, node_way}
use Rattle.forest.specs.Walks.{map_of}
use Rattle.kernel_forest.specs.Trees.{forest_of}

-- the way to a page number of a space is its own: a node stands at each level below the root, and each is counted once
abbrev pub HasOwnWay : Kernel → (space page : ℕ) → Type 0
HasOwnWay kernel space page = OwnWay (forest_of kernel) space (node_way page)

-- each way in any space that was its own is so still
abbrev pub KeepsWays : (old new : Kernel) → Type 0
KeepsWays old new = (space page : ℕ) → IsSpace (forest_of old) [] space → HasOwnWay old space page → HasOwnWay new space page

-- likewise in any space but this one
abbrev pub KeepsOtherWays : (old new : Kernel) → ℕ → Type 0
KeepsOtherWays old new but = (space page : ℕ) → IsSpace (forest_of old) [] space → space ≢ but → HasOwnWay old space page → HasOwnWay new space page

-- in this space the way to each page number that maps something still
abbrev pub KeepsMappedWays : (old new : Kernel) → ℕ → Type 0
KeepsMappedWays old new space = (page : ℕ) → IsSome (map_of (forest_of new).keys space page) → HasOwnWay old space page → HasOwnWay new space page
