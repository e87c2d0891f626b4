use Rattle.std.proofs.Common.{◌≡◌}
use Rattle.unix_model.specs.Files.{is_within}
use Rattle.flat_files.specs.FilesView.{files_of}
use Rattle.flat_files.proofs.files.Files.is_within.Given as goal

-- from here on as from the start
abbrev pub invariant-loop-steps : goal.invariant-loop-steps
invariant-loop-steps l =
    is_within (files_of l.self).inodes l.outer l.steps l.place ≡ is_within (files_of l.self).inodes l.outer 1024 l.directory

abbrev pub decreases-loop-steps : goal.decreases-loop-steps
decreases-loop-steps l = l.steps
