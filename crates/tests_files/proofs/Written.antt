-- A file that was written or cut, or whose call was refused.
use Rattle.std.proofs.Common.{ℕ, sym, subst}
use Rattle.std.specs.Prelude.{Result, Ok, Err}
use Rattle.kernel_tables.specs.declared.inode.Inode.{Inode}
use Rattle.kernel_tables.specs.Kernel.{Kernel}
use Rattle.unix_model.specs.declared.calls.Errno.{Errno}
use Rattle.unix_model.specs.State.{Unix}
use Rattle.file_domain.specs.Cutting.{LeavesBy}
use Rattle.file_domain.specs.Effects.{WritesBy}
use Rattle.file_trees.specs.Good.{FilesGood}
use Rattle.file_domain.specs.Good.{IsFileAt}

pub file_written : (line : Result Unix Errno) (old new : Kernel) (number count : ℕ) (inode : Inode) (result : Result ℕ Errno)
    → FilesGood old → IsFileAt old number inode → WritesBy line old new number inode count result
    → FilesGood new × ((now : Inode) × IsFileAt new number now)
file_written line old new number count inode (Ok answer) good file writes = (writes.2.good, (writes.2.now, writes.2.file))
file_written line old new number count inode (Err errno) good file writes =
    (subst FilesGood (sym writes.1) good, (inode, subst (λ (k : Kernel). IsFileAt k number inode) (sym writes.1) file))

pub file_cut : (line : Result Unix Errno) (old new : Kernel) (number : ℕ) (inode : Inode) (result : Result (Unit {0}) Errno)
    → FilesGood old → LeavesBy line old new number inode result → FilesGood new
file_cut line old new number inode (Ok done) good leaves = leaves.1.good
file_cut line old new number inode (Err errno) good leaves = subst FilesGood (sym leaves.1) good
