use Rattle.std.proofs.Common.{◌≤◌}
use Rattle.kernel_tables.specs.Kernel.{kernel_of}
use Rattle.space_bank.specs.Bank.{BankGood}
use Rattle.file_trees.specs.Cuts.{CutsTree}
use Rattle.file_trees.proofs.cutting.cut_pages.Given as goal

-- the pages so far are taken out
abbrev pub invariant-loop-page : goal.invariant-loop-page
invariant-loop-page g l =
    record {
      low : l.first ≤ l.page;
      cut : CutsTree (kernel_of (g.T.Store.memory l.initial.store)) (kernel_of (g.T.Store.memory l.store)) l.tree.0.0 l.first l.page;
      good : BankGood (kernel_of (g.T.Store.memory l.store));
      keeps : g.T.Store.keeps l.initial.store l.store;
    }
