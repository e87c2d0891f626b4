use Rattle.kernel_tables.specs.declared.inode.Inode.{Inode}
use Rattle.kernel_tables.specs.Kernel.{kernel_of}
use Rattle.file_trees.specs.Good.{FilesGood}
use Rattle.file_domain.specs.Good.{IsFileAt}
use Rattle.bench_files.proofs.rounds.write_pieces.Given as goal

abbrev pub invariant-loop-round : goal.invariant-loop-round
invariant-loop-round g l = record {
  good : FilesGood (kernel_of (g.T.Store.memory l.store));
  file : (inode : Inode) × IsFileAt (kernel_of (g.T.Store.memory l.store)) l.file inode;
}
