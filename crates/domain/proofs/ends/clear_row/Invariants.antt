use Rattle.std.proofs.Common.{[], ◌∷◌, ◌≡◌, true}
use Rattle.kernel_tables.specs.Kernel.{kernel_of}
use Rattle.kernel_tables.specs.Rows.{entry_at, of_domain}
use Rattle.kernel_tables.specs.Blocks.{ChangesBlocks, key_block}
use Rattle.space_bank.specs.Bank.{BankGood}
use Rattle.domain.specs.Ends.{Clears}
use Rattle.domain.proofs.ends.clear_row.Given as goal

abbrev pub invariant-loop-place : goal.invariant-loop-place
invariant-loop-place g l = record {
  cleared : Clears (kernel_of (g.T.Store.memory l.fn.store)) (kernel_of (g.T.Store.memory l.store)) l.node.0 l.place;
  mine : of_domain (entry_at (kernel_of (g.T.Store.memory l.store)).node_entries l.node.0) ≡ true;
  good : BankGood (kernel_of (g.T.Store.memory l.store));
  blocks : ChangesBlocks (g.T.Store.blocks l.fn.store) (g.T.Store.blocks l.store) (key_block (kernel_of (g.T.Store.memory l.fn.store)).pages l.node.0 ∷ []);
  kept : g.T.Store.keeps l.fn.store l.store;
}
