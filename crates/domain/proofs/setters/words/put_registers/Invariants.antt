use Rattle.std.proofs.Common.{◌∷◌, []}
use Rattle.kernel_tables.specs.Kernel.{kernel_of}
use Rattle.kernel_tables.specs.Rows.{domain_rows}
use Rattle.kernel_tables.specs.Blocks.{ChangesBlocks, key_block}
use Rattle.space_bank.specs.Bank.{BankGood}
use Rattle.domain.specs.Domains.{words_by}
use Rattle.domain.specs.Rules.{RowsGood, NamedAt}
use Rattle.domain.specs.Sets.{WritesNumbers, HoldsWords}
use Rattle.domain.proofs.setters.words.put_registers.Given as goal

abbrev pub invariant-loop-place : goal.invariant-loop-place
invariant-loop-place g l = record {
  so_far : HoldsWords (domain_rows (kernel_of (g.T.Store.memory l.fn.store))) (domain_rows (kernel_of (g.T.Store.memory l.store))) l.node.0 (words_by l.regs) l.place;
  rows : RowsGood (domain_rows (kernel_of (g.T.Store.memory l.store)));
  named : NamedAt (domain_rows (kernel_of (g.T.Store.memory l.store))) 3 l.node.0;
  others : WritesNumbers (kernel_of (g.T.Store.memory l.fn.store)) (kernel_of (g.T.Store.memory l.store));
  good : BankGood (kernel_of (g.T.Store.memory l.store));
  blocks : ChangesBlocks (g.T.Store.blocks l.fn.store) (g.T.Store.blocks l.store) (key_block (kernel_of (g.T.Store.memory l.fn.store)).pages l.node.0 ∷ []);
  kept : g.T.Store.keeps l.fn.store l.store;
}
