use Rattle.std.proofs.Common.{◌≡◌, ◌+◌, ◌*◌, ◌<◌, ℕ, true, false}
use Rattle.kn_base.specs.declared.key.Key.TheVariants.{Null}
use Rattle.kernel_tables.specs.Kernel.{kernel_of}
use Rattle.kernel_tables.specs.Rows.{key_table}
use Rattle.seg_tree.proofs.checking.has_no_more.Given as goal

-- so many keys
abbrev pub invariant-loop-digit : goal.invariant-loop-digit
invariant-loop-digit g l = record {
  told : l.nulls ≡ true → (d : ℕ) → d < l.digit → key_table (kernel_of (g.T.Store.memory l.store)).keys (16 * l.root.0 + (8 + d)) ≡ Null;
  otherwise : l.nulls ≡ false → (d : ℕ) × (d < l.digit) × (key_table (kernel_of (g.T.Store.memory l.store)).keys (16 * l.root.0 + (8 + d)) ≡ Null → ⊥);
}
