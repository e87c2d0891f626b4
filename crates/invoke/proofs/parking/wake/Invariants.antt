use Rattle.std.proofs.Common.{◌≡◌}
use Rattle.kernel_tables.specs.Kernel.{kernel_of}
use Rattle.kernel_tables.specs.Rows.{domain_rows}
use Rattle.kernel_tables.specs.Blocks.{ChangesBlocks}
use Rattle.space_bank.specs.Bank.{BankGood}
use Rattle.domain.specs.Domains.{domains, lives}
use Rattle.domain.specs.Rules.{RowsGood}
use Rattle.domain.specs.Sets.{WritesNumbers}
use Rattle.invoke.specs.Parking.{woken_blocks}
use Rattle.invoke.proofs.Waking.{woken_below}
use Rattle.invoke.proofs.parking.wake.Given as goal

abbrev pub invariant-loop-slot : goal.invariant-loop-slot
invariant-loop-slot g l = record {
  woken : domains (kernel_of (g.T.Store.memory l.store)) ≡ woken_below l.word l.slot (domains (kernel_of (g.T.Store.memory l.fn.store)));
  lives_same : lives (kernel_of (g.T.Store.memory l.store)) ≡ lives (kernel_of (g.T.Store.memory l.fn.store));
  others : WritesNumbers (kernel_of (g.T.Store.memory l.fn.store)) (kernel_of (g.T.Store.memory l.store));
  rows : RowsGood (domain_rows (kernel_of (g.T.Store.memory l.store)));
  good : BankGood (kernel_of (g.T.Store.memory l.store));
  blocks : ChangesBlocks (g.T.Store.blocks l.fn.store) (g.T.Store.blocks l.store) (woken_blocks (kernel_of (g.T.Store.memory l.fn.store)) l.word l.slot);
  kept : g.T.Store.keeps l.fn.store l.store;
}
