use Rattle.std.proofs.Common.{◌<◌, ℕ}
use Rattle.kernel_tables.specs.Kernel.{kernel_of}
use Rattle.kernel_tables.specs.Rows.{key_table}
use Rattle.domain.specs.Checks.{KeyInRange}
use Rattle.tests_domain.proofs.checked.keys_in_range.Given as goal

-- the keys so far are in range
abbrev pub invariant-loop-place : goal.invariant-loop-place
invariant-loop-place g l = (place : ℕ) → place < l.place → KeyInRange (kernel_of (g.T.Store.memory l.store)).nodes (key_table (kernel_of (g.T.Store.memory l.store)).keys place)
