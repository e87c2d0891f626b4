use Rattle.std.proofs.Common.{◌≡◌, length}
use Rattle.std.specs.List.{slice_split}
use Rattle.unix_model.specs.Paths.{is_slash, start_spot, walked_from}
use Rattle.flat_files.specs.FilesView.{files_of}
use Rattle.flat_files.specs.SpotView.{walk_of}
use Rattle.flat_files.proofs.WalkSteps.{walk_rest}
use Rattle.flat_files.proofs.files.Files.walk_parts.Given as goal

-- so far, and the rest
abbrev pub invariant-loop-end : goal.invariant-loop-end
invariant-loop-end l =
    walk_rest (files_of l.self) (walk_of l.found) (slice_split is_slash l.rest) ≡ walked_from (files_of l.self) (start_spot l.start) (slice_split is_slash l.path)

abbrev pub decreases-loop-end : goal.decreases-loop-end
decreases-loop-end l = length l.rest
