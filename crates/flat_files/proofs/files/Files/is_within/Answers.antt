use Rattle.std.proofs.Common.{◌≡◌, ℕ, ap, sym, arith, ◌∙◌}
use Rattle.unix_model.specs.Files.{is_within}
use Rattle.flat_files.specs.FilesView.{files_of}
use Rattle.flat_files.proofs.ParentLaws.{within-end}
use Rattle.flat_files.proofs.files.Files.is_within.Goals as goal

pub returns : goal.returns
returns c =
    let ended : c.loop-steps.steps ≡ 0 = omega arith in
    sym (within-end (files_of c.args.self.now).inodes c.args.outer c.loop-steps.place)
    ∙ (ap (λ (steps : ℕ). is_within (files_of c.args.self.now).inodes c.args.outer steps c.loop-steps.place) (sym ended)
    ∙ c.loop-steps.invariant)
