use Rattle.std.proofs.Common.{◌≡◌, ℕ, ◌<◌, false, None, get_or}
use Rattle.std.specs.Prelude.{is_some}
use Rattle.unix_model.specs.Files.{place_inode}
use Rattle.flat_files.specs.EntryView.{place_of}
use Rattle.flat_files.proofs.entries.first_place.Given as goal

abbrev pub invariant-loop-i : goal.invariant-loop-i
invariant-loop-i l = (k : ℕ) → k < l.i → is_some (place_inode l.name (place_of (get_or l.places k None))) ≡ false
