-- What stands before the first space.
use Rattle.std.proofs.Common.{◌≡◌, ℕ, zero, suc, ◌<◌, ◌≤◌, List, [], ◌∷◌, length, take, get_or, Some, None, true, false, arith}
use Rattle.std.specs.List.{list_any, position, position_or_len}
use Rattle.std.proofs.lemmas.Bool.{or_parts}
use Rattle.std.proofs.lemmas.Bool.Decides.{nat_tests}
use Rattle.std.proofs.lemmas.List.{get_or-take, length-take-le}
use Rattle.std.proofs.lemmas.List.Quantifiers.{position-Some}
use Rattle.std.proofs.lemmas.List.Sums.{position_or_len_is}
use Rattle.bundle.specs.EntryLines.{is_space}

-- it has none
pub no_space : (text : List ℕ) (at : ℕ) → position is_space text ≡ Some at → position is_space (take at text) ≡ None
no_space text at found =
    let space = position-Some is_space text at 0 found in
    let within : at ≤ length text = omega (arith, space.0) in
    let count : length (take at text) ≡ at = length-take-le at text within in
    let whole : position_or_len is_space (take at text) ≡ length (take at text) =
    position_or_len_is is_space (take at text) (length (take at text)) 0 (omega arith)
    (λ k below. rw (get_or-take at text k 0 (omega (arith, below, count))) (space.2 k (omega (arith, below, count))))
    (λ less. absurd (omega (arith, less))) in
    rw whole (grind (arith, nat_tests))

-- ---- from the end

before-false : (text : List ℕ) (at k : ℕ) → list_any is_space (take at text) ≡ false → k < at → k < length text → is_space (get_or text k 0) ≡ false
before-false [] at k none below inside = absurd (omega (arith, inside))
before-false (byte ∷ bytes) zero k none below inside = absurd (omega (arith, below))
before-false (byte ∷ bytes) (suc at) zero none below inside = (or_parts (is_space byte) (list_any is_space (take at bytes)) none).0
before-false (byte ∷ bytes) (suc at) (suc k) none below inside =
    before-false bytes at k (or_parts (is_space byte) (list_any is_space (take at bytes)) none).1 (omega (arith, below)) (omega (arith, inside))

-- the last space is the first where none comes before it
pub first-is : (text : List ℕ) (at : ℕ) → at < length text → is_space (get_or text at 0) ≡ true → list_any is_space (take at text) ≡ false → position is_space text ≡ Some at
first-is text at inside here none =
    let place : position_or_len is_space text ≡ at =
    position_or_len_is is_space text at 0 (omega (arith, inside)) (λ k below. before-false text at k none below (omega (arith, below, inside))) (λ less. here) in
    rw place (grind (arith, nat_tests, inside))

-- there is none
pub none-there : (text : List ℕ) → ((k : ℕ) → k < length text → is_space (get_or text k 0) ≡ false) → position is_space text ≡ None
none-there text none =
    let whole : position_or_len is_space text ≡ length text =
    position_or_len_is is_space text (length text) 0 (omega arith) none (λ less. absurd (omega (arith, less))) in
    rw whole (grind (arith, nat_tests))
