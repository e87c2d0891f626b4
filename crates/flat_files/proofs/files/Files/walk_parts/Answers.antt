use Rattle.std.proofs.Common.{◌+◌, List, ℕ, Result, take, drop, ap, sym, ◌∙◌}
use Rattle.std.specs.List.{slice_split}
use Rattle.unix_model.specs.declared.calls.Errno.{Errno}
use Rattle.unix_model.specs.Files.{Files}
use Rattle.unix_model.specs.Paths.{Spot, is_slash}
use Rattle.flat_files.specs.FilesView.{files_of}
use Rattle.flat_files.specs.SpotView.{after_part, walk_of}
use Rattle.flat_files.proofs.WalkSteps.{walk_rest, rest-step, rest-last}
use Rattle.flat_files.proofs.files.Files.walk_parts.Goals as goal

pub loop-end-preserved : goal.loop-end-preserved
loop-end-preserved c =
    let Parts : Type 0 = List (List ℕ) in
    let files : Files = files_of c.args.self.now in
    let found : Result Spot Errno = walk_of c.loop-end.found in
    let next : Parts = slice_split is_slash (drop (c.in-Some.end + 1) c.loop-end.rest.now) in
    ap (λ (walk : Result Spot Errno). walk_rest files walk (slice_split is_slash c.after_slash-rest.result.now)) c.stepped-found.ensures
    ∙ (ap (λ (bytes : List ℕ). walk_rest files (after_part files found (take c.in-Some.end c.loop-end.rest.now)) (slice_split is_slash bytes)) c.after_slash-rest.ensures
    ∙ (sym (rest-step files found (take c.in-Some.end c.loop-end.rest.now) next)
    ∙ (ap (walk_rest files found) (sym c.in-Some.ensures.1) ∙ c.loop-end.invariant)))

pub returns-in-None : goal.returns-in-None
returns-in-None c =
    let files : Files = files_of c.args.self.now in
    let found : Result Spot Errno = walk_of c.loop-end.found in
    c.stepped.ensures
    ∙ (sym (rest-last files found c.loop-end.rest.now) ∙ (ap (walk_rest files found) (sym c.in-None.ensures) ∙ c.loop-end.invariant))
