use Rattle.kernel_tables.specs.Kernel.{kernel_of}
use Rattle.space_bank.specs.Bank.{BankGood}
use Rattle.space_bank.specs.Shares.{NoneNamed}
use Rattle.tests_kernel.proofs.bank.give_all_nodes_back.Given as goal

-- the bank stays good, and nothing is named
abbrev pub invariant-loop-n : goal.invariant-loop-n
invariant-loop-n g l = record {
  good : BankGood (kernel_of (g.T.Store.memory l.store));
  unnamed : NoneNamed (kernel_of (g.T.Store.memory l.store)).keys;
}
