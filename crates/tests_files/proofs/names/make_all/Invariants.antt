use Rattle.kernel_tables.specs.Kernel.{kernel_of}
use Rattle.file_trees.specs.Good.{FilesGood}
use Rattle.tests_files.proofs.names.make_all.Given as goal

abbrev pub invariant-loop-row : goal.invariant-loop-row
invariant-loop-row g l = FilesGood (kernel_of (g.T.Store.memory l.store))
