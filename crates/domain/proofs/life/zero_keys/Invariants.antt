use Rattle.std.proofs.Common.{[], ◌∷◌, ◌≡◌, true}
use Rattle.kernel_tables.specs.Kernel.{kernel_of}
use Rattle.kernel_tables.specs.Rows.{domain_rows, entry_at, of_domain}
use Rattle.kernel_tables.specs.Blocks.{ChangesBlocks, key_block}
use Rattle.space_bank.specs.Bank.{BankGood}
use Rattle.domain.specs.Life.{Fills, with_zeros}
use Rattle.domain.proofs.life.zero_keys.Given as goal

abbrev pub invariant-loop-place : goal.invariant-loop-place
invariant-loop-place g l = record {
  filled : Fills (kernel_of (g.T.Store.memory l.fn.store)) (kernel_of (g.T.Store.memory l.store)) l.node.0 (with_zeros (domain_rows (kernel_of (g.T.Store.memory l.fn.store)) l.node.0) l.from l.place) [];
  mine : of_domain (entry_at (kernel_of (g.T.Store.memory l.store)).node_entries l.node.0) ≡ true;
  good : BankGood (kernel_of (g.T.Store.memory l.store));
  blocks : ChangesBlocks (g.T.Store.blocks l.fn.store) (g.T.Store.blocks l.store) (key_block (kernel_of (g.T.Store.memory l.fn.store)).pages l.node.0 ∷ []);
  kept : g.T.Store.keeps l.fn.store l.store;
}
