-- What stands between slashes.
use Rattle.std.proofs.Common.{◌≡◌, ℕ, zero, suc, ◌+◌, ◌<◌, List, [], ◌∷◌, length, take, drop, get_or, true, false, refl, ap, arith}
use Rattle.std.specs.List.{slice_split, onto_first}
use Rattle.unix_model.specs.Paths.{is_slash}

-- a path up to its first slash
pub split-first : (bytes : List ℕ) (i : ℕ) → i < length bytes → ((k : ℕ) → k < i → is_slash (get_or bytes k 0) ≡ false) → is_slash (get_or bytes i 0) ≡ true
    → slice_split is_slash bytes ≡ take i bytes ∷ slice_split is_slash (drop (i + 1) bytes)
split-first [] i inside none here = absurd (omega arith)
split-first (byte ∷ bytes) zero inside none here = rw here refl
split-first (byte ∷ bytes) (suc i) inside none here =
    let first : is_slash byte ≡ false = none 0 (omega arith) in
    let less : i < length bytes = omega arith in
    let next : suc i + 1 ≡ suc (i + 1) = omega arith in
    rw (first, next) (ap (onto_first byte) (split-first bytes i less (λ k below. none (suc k) (omega arith)) here))

pub split-none : (bytes : List ℕ) → ((k : ℕ) → k < length bytes → is_slash (get_or bytes k 0) ≡ false) → slice_split is_slash bytes ≡ bytes ∷ []
split-none [] none = refl
split-none (byte ∷ bytes) none =
    let first : is_slash byte ≡ false = none 0 (omega arith) in
    rw first (ap (onto_first byte) (split-none bytes (λ k below. none (suc k) (omega arith))))

pub ruleset slashes = (split-first, split-none)
