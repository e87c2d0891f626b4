use Rattle.std.proofs.Common.{◌≡◌}
use Rattle.unix_model.specs.Files.{writes_inode}
use Rattle.unix_model.specs.Tables.{at, any_below}
use Rattle.flat_files.specs.FilesView.{files_of}
use Rattle.flat_files.proofs.files.Files.has_writer.Given as goal

abbrev pub invariant-loop-number : goal.invariant-loop-number
invariant-loop-number l = l.found ≡ any_below (λ n. writes_inode l.inode (at (files_of l.self).descriptions n)) l.number
