use Rattle.std.proofs.Common.{◌≡◌, ℕ, ◌<◌, true, None, get_or}
use Rattle.std.specs.Prelude.{is_some}
use Rattle.flat_files.proofs.entries.first_hole.Given as goal

abbrev pub invariant-loop-i : goal.invariant-loop-i
invariant-loop-i l = (k : ℕ) → k < l.i → is_some (get_or l.places k None) ≡ true
