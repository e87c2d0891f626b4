use Rattle.std.proofs.Common.{◌≡◌, IfSome}
use Rattle.std.specs.Prelude.{is_none, ◌&&◌, nat_le}
use Rattle.unix_model.specs.Tables.{at, least_below}
use Rattle.flat_files.specs.FilesView.{files_of}
use Rattle.flat_files.specs.FreeNumber.{IsFreeNumber}
use Rattle.flat_files.proofs.files.Files.free_inode.Given as goal

abbrev pub invariant-loop-number : goal.invariant-loop-number
invariant-loop-number l = record {
  least : l.least ≡ least_below (λ n. nat_le 2 n && is_none (at (files_of l.self).inodes n)) l.number;
  free : IfSome l.least (IsFreeNumber (files_of l.self).inodes);
}
