use Rattle.std.proofs.Common.{◌≡◌, ◌≤◌, ◌*◌}
use Rattle.std.specs.List.{count_by}
use Rattle.unix_model.specs.Files.{entry_names, places_of}
use Rattle.unix_model.specs.Tables.{at, sum_below}
use Rattle.flat_files.specs.FilesView.{files_of}
use Rattle.flat_files.proofs.files.Files.links.Given as goal

abbrev pub invariant-loop-number : goal.invariant-loop-number
invariant-loop-number l = record {
  sum : l.links ≡ sum_below (λ n. count_by (entry_names l.inode) (places_of (at (files_of l.self).inodes n))) l.number;
  few : l.links ≤ 1024 * l.number;
}
