-- What a sink that tells holds after a put that failed.
use Rattle.std.proofs.Common.{◌≡◌, List, ℕ, ◌++◌}
use Rattle.std.specs.Prelude.{Option, Some}
use Rattle.kn_io.specs.Sink.{GrewByPrefix}

-- What is told is what was told before, and then a front of the bytes.
pub told-by_prefix : {S : Type 0} (grew : S → List ℕ → S → Type 0) (told : S → Option (List ℕ)) →
    ((a b : S) (x t : List ℕ) → told a ≡ Some t → grew a x b → told b ≡ Some (t ++ x)) →
    (old new : S) (bytes before : List ℕ) → told old ≡ Some before → GrewByPrefix grew old bytes new →
    (front : List ℕ) × (rest : List ℕ) × (front ++ rest ≡ bytes) × (told new ≡ Some (before ++ front))
unfolding GrewByPrefix
told-by_prefix grew told law old new bytes before telling part =
    (part.0, part.1, part.2, law old new part.0 before telling part.3)
