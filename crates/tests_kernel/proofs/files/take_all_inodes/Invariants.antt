use Rattle.kernel_tables.specs.Kernel.{kernel_of, Sized}
use Rattle.file_tables.specs.Rows.{InodesGood}
use Rattle.tests_kernel.proofs.files.take_all_inodes.Given as goal

-- the table stays good
abbrev pub invariant-loop-number : goal.invariant-loop-number
invariant-loop-number g l = record {
  sized : Sized (kernel_of (g.T.Store.memory l.store));
  good : InodesGood (kernel_of (g.T.Store.memory l.store)).inodes;
}
