use Rattle.kernel_tables.specs.Kernel.{kernel_of}
use Rattle.file_trees.specs.Good.{FilesGood}
use Rattle.tests_files.proofs.walk.walks.Given as goal

abbrev pub invariant-loop-round : goal.invariant-loop-round
invariant-loop-round g l = FilesGood (kernel_of (g.T.Store.memory l.store))
