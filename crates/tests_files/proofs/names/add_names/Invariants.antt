use Rattle.kernel_tables.specs.Kernel.{kernel_of}
use Rattle.file_trees.specs.Good.{FilesGood}
use Rattle.tests_files.proofs.names.add_names.Given as goal

abbrev pub invariant-loop-number : goal.invariant-loop-number
invariant-loop-number g l = FilesGood (kernel_of (g.T.Store.memory l.store))
