use Rattle.std.proofs.Common.{List, ℕ, refl, sym, ap, ◌∙◌}
use Rattle.std.specs.Prelude.{option_map}
use Rattle.std.specs.Borrow.{Bor}
use Rattle.flat_unix.specs.FlatView.{unix_of}
use Rattle.flat_bundle.proofs.StoreLaws.{no_program}
use Rattle.flat_bundle.proofs.booting.start.Goals as goal

pub returns-in-None-clause-loads : goal.returns-in-None-clause-loads
returns-in-None-clause-loads c =
    (no_program (unix_of c.args.flat) (sym c.file_bytes.ensures ∙ ap (option_map (λ (bytes : Bor (List ℕ)). bytes.now)) c.in-None.is), refl, refl)
