use Rattle.kernel_tables.specs.Kernel.{kernel_of}
use Rattle.space_bank.specs.Bank.{BankGood}
use Rattle.unix_exec.specs.Seals.{SealsPlan}
use Rattle.unix_exec.proofs.seal.seal_loads.Given as goal

-- the pages so far are sealed
abbrev pub invariant-loop-page : goal.invariant-loop-page
invariant-loop-page g l = record {
  seals : SealsPlan (kernel_of (g.T.Store.memory l.initial.store)) (kernel_of (g.T.Store.memory l.store)) l.space.0.0 l.loads l.page;
  good : BankGood (kernel_of (g.T.Store.memory l.store));
  keeps : g.T.Store.keeps l.initial.store l.store;
}
