use Rattle.kernel_tables.specs.Kernel.{kernel_of, Sized}
use Rattle.file_tables.specs.Rows.{DescriptionsGood}
use Rattle.tests_kernel.proofs.files.take_all_descriptions.Given as goal

-- the table stays good
abbrev pub invariant-loop-number : goal.invariant-loop-number
invariant-loop-number g l = record {
  sized : Sized (kernel_of (g.T.Store.memory l.store));
  good : DescriptionsGood (kernel_of (g.T.Store.memory l.store)).descriptions;
}
