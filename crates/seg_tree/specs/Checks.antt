-- What is asked of a store whose trees are checked.
use Rattle.std.specs.Prelude.{◌≡◌, ◌<◌, ℕ, Some}
use Rattle.kernel_tables.specs.Kernel.{Kernel}
use Rattle.kernel_tables.specs.Rows.{key_table}
use Rattle.forest.specs.Objects.{NodeObject, named}

-- each Segment key, whatever node it stands in, names a node of the store
abbrev pub NodesInRange : Kernel → Type 0
NodesInRange kernel = (place node : ℕ) → named (key_table kernel.keys place) ≡ Some (NodeObject node) → node < kernel.nodes
