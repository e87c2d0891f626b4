-- A place at which a key is written spells one, and the others as before.
use Rattle.std.proofs.Common.{◌≡◌, ◌<◌, ◌+◌, ℕ, Option, Some, None, IsSome, List, length, get_or, set, refl, arith, ⊎_elim}
use Rattle.std.proofs.lemmas.List.{get_or-set_same, get_or-set_other}
use Rattle.std.proofs.lemmas.Bool.{cases_eq}
use Rattle.kn_base.specs.declared.key.Key.{Key}

at_written : (keys : List (Option Key)) (k : ℕ) (key : Key) → k < length keys → IsSome (get_or (set keys k (Some key)) k None)
at_written keys k key h = rw (get_or-set_same keys k (Some key) None h) refl

-- a key written at any place
pub spelled_set : (keys : List (Option Key)) (n k : ℕ) (key : Key) → k < length keys → ((place : ℕ) → place < n → IsSome (get_or keys place None)) → (place : ℕ) → place < n → IsSome (get_or (set keys k (Some key)) place None)
spelled_set keys n k key h all place low =
    ⊎_elim
    (λ (same : place ≡ k). rw same (at_written keys k key h))
    (λ (other : place ≡ k → ⊥). rw (get_or-set_other keys k place (Some key) None other) (all place low))
    (cases_eq place k)

-- a key written at the next place
pub spelled_more : (keys : List (Option Key)) (n k : ℕ) (key : Key) → n ≡ k → k < length keys → ((place : ℕ) → place < n → IsSome (get_or keys place None)) → (place : ℕ) → place < n + 1 → IsSome (get_or (set keys k (Some key)) place None)
spelled_more keys n k key e h all place low =
    ⊎_elim
    (λ (same : place ≡ k). rw same (at_written keys k key h))
    (λ (other : place ≡ k → ⊥).
    rw (get_or-set_other keys k place (Some key) None other) (all place (omega arith)))
    (cases_eq place k)
