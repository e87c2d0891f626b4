use Rattle.std.proofs.Common.{◌≡◌, ◌<◌, IfSome}
use Rattle.std.specs.Prelude.{is_none}
use Rattle.unix_model.specs.Tables.{at, least_below}
use Rattle.flat_files.specs.FilesView.{files_of}
use Rattle.flat_files.proofs.files.Files.free_description.Given as goal

abbrev pub invariant-loop-number : goal.invariant-loop-number
invariant-loop-number l = record {
  least : l.least ≡ least_below (λ n. is_none (at (files_of l.self).descriptions n)) l.number;
  below : IfSome l.least (λ number. number < 2048);
}
