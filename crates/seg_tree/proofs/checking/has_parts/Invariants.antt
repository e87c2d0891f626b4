use Rattle.std.proofs.Common.{◌≡◌, ◌+◌, ◌*◌, ◌<◌, ℕ, true, false}
use Rattle.kernel_tables.specs.Kernel.{kernel_of}
use Rattle.kernel_tables.specs.Rows.{key_table}
use Rattle.forest.specs.Calls.{IsPart}
use Rattle.seg_tree.proofs.checking.has_parts.Given as goal

-- so many keys
abbrev pub invariant-loop-digit : goal.invariant-loop-digit
invariant-loop-digit g l = record {
  told : l.parts ≡ true → (d : ℕ) → d < l.digit → IsPart (key_table (kernel_of (g.T.Store.memory l.store)).keys) 5 (key_table (kernel_of (g.T.Store.memory l.store)).keys (16 * l.root.0 + d));
  otherwise : l.parts ≡ false → (d : ℕ) × (d < l.digit) × (IsPart (key_table (kernel_of (g.T.Store.memory l.store)).keys) 5 (key_table (kernel_of (g.T.Store.memory l.store)).keys (16 * l.root.0 + d)) → ⊥);
}
