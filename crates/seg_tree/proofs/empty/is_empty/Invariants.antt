use Rattle.std.proofs.Common.{◌≡◌, ◌≢◌, ◌<◌, ◌+◌, ◌*◌, ℕ, true, false}
use Rattle.kn_base.specs.declared.key.Key.TheVariants.{Null}
use Rattle.kernel_tables.specs.Kernel.{kernel_of}
use Rattle.kernel_tables.specs.Rows.{key_table}
use Rattle.seg_tree.proofs.empty.is_empty.Given as goal

-- the keys at so many places
abbrev pub invariant-loop-digit : goal.invariant-loop-digit
invariant-loop-digit g l = record {
  empty : l.empty ≡ true → (digit : ℕ) → digit < l.digit → key_table (kernel_of (g.T.Store.memory l.store)).keys (16 * l.node.0 + digit) ≡ Null;
  filled : l.empty ≡ false → (digit : ℕ) × (digit < l.digit) × (key_table (kernel_of (g.T.Store.memory l.store)).keys (16 * l.node.0 + digit) ≢ Null);
}
