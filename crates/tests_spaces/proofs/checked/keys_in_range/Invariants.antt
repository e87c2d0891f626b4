use Rattle.std.proofs.Common.{◌≡◌, ◌<◌, ℕ, Some}
use Rattle.kernel_tables.specs.Kernel.{kernel_of}
use Rattle.kernel_tables.specs.Rows.{key_table}
use Rattle.forest.specs.Objects.{NodeObject, named}
use Rattle.tests_spaces.proofs.checked.keys_in_range.Given as goal

-- the keys so far are in range
abbrev pub invariant-loop-place : goal.invariant-loop-place
invariant-loop-place g l =
    (place node : ℕ) → place < l.place → named (key_table (kernel_of (g.T.Store.memory l.store)).keys place) ≡ Some (NodeObject node) → node < (kernel_of (g.T.Store.memory l.store)).nodes
