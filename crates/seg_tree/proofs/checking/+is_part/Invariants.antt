use Rattle.std.proofs.Common.{◌≡◌, ◌-◌, ◌<◌, ℕ, true, false}
use Rattle.kernel_tables.specs.Kernel.{kernel_of}
use Rattle.kernel_tables.specs.Rows.{key_table}
use Rattle.forest.specs.Walks.{key_below}
use Rattle.forest.specs.Calls.{IsPart}
use Rattle.seg_tree.proofs.checking.+is_part.Given as goal

abbrev pub decreases-is_part : goal.decreases-is_part
decreases-is_part g l = l.height

-- the parts at so many digits
abbrev pub invariant-loop-digit : goal.invariant-loop-digit
invariant-loop-digit g l = record {
  parts : l.parts ≡ true → (d : ℕ) → d < l.digit → IsPart (key_table (kernel_of (g.T.Store.memory l.store)).keys) (l.height - 1) (key_below (key_table (kernel_of (g.T.Store.memory l.store)).keys) l.key d);
  otherwise : l.parts ≡ false → (d : ℕ) × (d < l.digit) × (IsPart (key_table (kernel_of (g.T.Store.memory l.store)).keys) (l.height - 1) (key_below (key_table (kernel_of (g.T.Store.memory l.store)).keys) l.key d) → ⊥);
}
