use Rattle.kernel_tables.specs.Kernel.{kernel_of}
use Rattle.file_trees.specs.Good.{FilesGood}
use Rattle.tests_files.proofs.room.refuse_all.Given as goal

abbrev pub invariant-loop-at : goal.invariant-loop-at
invariant-loop-at g l = FilesGood (kernel_of (g.T.Store.memory l.store))
