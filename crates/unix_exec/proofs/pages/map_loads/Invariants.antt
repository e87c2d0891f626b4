use Rattle.kernel_tables.specs.Kernel.{kernel_of}
use Rattle.space_bank.specs.Bank.{BankGood}
use Rattle.unix_exec.specs.Plans.{MapsPlan}
use Rattle.unix_exec.proofs.pages.map_loads.Given as goal

-- the pages so far are mapped
abbrev pub invariant-loop-page : goal.invariant-loop-page
invariant-loop-page g l = record {
  maps : MapsPlan (kernel_of (g.T.Store.memory l.initial.store)) (kernel_of (g.T.Store.memory l.store)) l.space.0.0 l.loads l.page;
  good : BankGood (kernel_of (g.T.Store.memory l.store));
  keeps : g.T.Store.keeps l.initial.store l.store;
}
