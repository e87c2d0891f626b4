use Rattle.std.proofs.Common.{◌≡◌, ℕ, None, vec_len, get_or}
use Rattle.flat_files.proofs.places.free_places.Given as goal

abbrev pub invariant-loop : goal.invariant-loop
invariant-loop g l = (vec_len l.places ≡ l.counter) × ((k : ℕ) → get_or l.places.items k None ≡ None)
