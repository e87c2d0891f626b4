use Rattle.std.proofs.Common.{◌≡◌, ℕ, ◌<◌, false, get_or}
use Rattle.unix_model.specs.Paths.{is_slash}
use Rattle.bundle.specs.Paths.{is_nul}
use Rattle.bundle.proofs.paths.name_end.Given as goal

abbrev pub invariant-loop-i : goal.invariant-loop-i
invariant-loop-i l = record {
  no_slash : (k : ℕ) → k < l.i → is_slash (get_or l.bytes k 0) ≡ false;
  no_nul : (k : ℕ) → k < l.i → is_nul (get_or l.bytes k 0) ≡ false;
}
