-- The places of a directory that are listed, one place at a time.
use Rattle.std.proofs.Common.{◌≡◌, ℕ, zero, suc, ◌+◌, ◌-◌, ◌<◌, ◌≤◌, Option, Some, None, List, [], ◌∷◌, ◌++◌, refl, arith, drop, take, length, replicate}
use Rattle.std.proofs.lemmas.List.{take_all}
use Rattle.unix_model.specs.FileCalls.{entry_bytes, listed_bytes, looked_at}
use Rattle.unix_model.specs.Files.{Entry}

pub listed-none : (n : ℕ) (places : List (Option Entry)) → 0 < n → listed_bytes n (None ∷ places) ≡ listed_bytes n places
listed-none zero places room = absurd (omega arith)
listed-none (suc n) places room = refl

pub listed-some : (n : ℕ) (entry : Entry) (places : List (Option Entry)) → 0 < n → listed_bytes n (Some entry ∷ places) ≡ entry_bytes entry ++ listed_bytes (n - 1) places
listed-some zero entry places room = absurd (omega arith)
listed-some (suc n) entry places room = let less : suc n - 1 ≡ n = omega arith in rw less refl

pub listed-full : (places : List (Option Entry)) → listed_bytes 0 places ≡ []
listed-full places = refl

pub listed-end : (n : ℕ) → listed_bytes n [] ≡ []
listed-end zero = refl
listed-end (suc n) = refl

pub looked-none : (n : ℕ) (places : List (Option Entry)) → 0 < n → looked_at n (None ∷ places) ≡ looked_at n places + 1
looked-none zero places room = absurd (omega arith)
looked-none (suc n) places room = refl

pub looked-some : (n : ℕ) (entry : Entry) (places : List (Option Entry)) → 0 < n → looked_at n (Some entry ∷ places) ≡ looked_at (n - 1) places + 1
looked-some zero entry places room = absurd (omega arith)
looked-some (suc n) entry places room = let less : suc n - 1 ≡ n = omega arith in rw less refl

pub looked-end : (n : ℕ) → looked_at n [] ≡ 0
looked-end zero = refl
looked-end (suc n) = refl

pub ruleset places = (listed-none, listed-some, listed-full, looked-none, looked-some)

pub drop-past : {A : Type 0} (xs : List A) (n : ℕ) → length xs ≤ n → drop n xs ≡ []
drop-past [] zero past = refl
drop-past [] (suc n) past = refl
drop-past (x ∷ xs) zero past = absurd (omega arith)
drop-past (x ∷ xs) (suc n) past = let rest : length xs ≤ n = omega arith in drop-past xs n rest

pub zeros-more : (bytes : List ℕ) (n : ℕ) → take (length bytes + n) bytes ++ replicate (length bytes + n - length bytes) 0 ≡ bytes ++ replicate n 0
zeros-more bytes n =
    let more : length bytes + n - length bytes ≡ n = omega arith in
    rw (take_all (length bytes + n) bytes (omega arith), more) refl

pub ruleset zeros = (zeros-more)
