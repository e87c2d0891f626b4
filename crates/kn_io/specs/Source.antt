-- What a source gives.
use Rattle.std.specs.Prelude.{◌≡◌, ℕ, List, [], ◌∷◌, ◌++◌, Option, Some, None, Result, Ok, Err, option_map}
use Rattle.kn_io.specs.declared.failures.Failed.{Failed}

-- These bytes were taken: where it is told, what was left is these bytes and then what is left now.
abbrev pub Takes : Option (List ℕ) → List ℕ → Option (List ℕ) → Type 0
Takes old bytes new = old ≡ option_map (λ rest. bytes ++ rest) new

-- Where it is told, nothing is left.
abbrev pub IsAtEnd : Option (List ℕ) → Type 0
IsAtEnd left = (bytes : List ℕ) → left ≡ Some bytes → bytes ≡ []

-- What a source answers takes that byte, or it is at its end, or it failed; without a byte, what is left stays.
abbrev pub Gives : Option (List ℕ) → Result (Option ℕ) Failed → Option (List ℕ) → Type 0
Gives old (Ok (Some byte)) new = Takes old (byte ∷ []) new
Gives old (Ok None) new = (new ≡ old) × IsAtEnd old
Gives old (Err _) new = new ≡ old
