-- Lists of optional things as tables.
use Rattle.std.proofs.Common.{◌≡◌, ◌≢◌, ℕ, zero, suc, ◌<◌, Option, Some, None, List, [], ◌∷◌, ◌++◌, length, get_or, set, arith, refl, ap, ◌∙◌, inl, inr, get_or-set_same, get_or-set_other}
use Rattle.std.proofs.Math.Path.{fun_ext}
use Rattle.std.proofs.lemmas.Bool.Decides.{eqb_tells}
use Rattle.std.specs.List.{AllZip}
use Rattle.std.specs.Prelude.{option_map, ◌==◌, if◌then◌else◌}
use Rattle.unix_model.specs.Tables.{with_at, nothing}

-- one element changed, at a place
place-set : {A B : Type 0} (f : A → B) (xs : List (Option A)) (n k : ℕ) (x : Option A) → n < length xs
    → option_map f (get_or (set xs n x) k None) ≡ (if k == n then option_map f x else option_map f (get_or xs k None))
place-set f xs n k x inside = elim (eqb_tells k n) as (λ _. option_map f (get_or (set xs n x) k None) ≡ (if k == n then option_map f x else option_map f (get_or xs k None))) [
  | inl same ↦ rw same.0 (rw same.1 (rw get_or-set_same refl))
  | inr apart ↦ let other : k ≢ n = apart.1 in rw apart.0 (rw get_or-set_other refl)
]

-- one element changed
pub table-set : {A B : Type 0} (f : A → B) (xs : List (Option A)) (n : ℕ) (x : Option A) → n < length xs
    → (λ k. option_map f (get_or (set xs n x) k None)) ≡ with_at (λ k. option_map f (get_or xs k None)) n (option_map f x)
unfolding with_at
table-set f xs n x inside = fun_ext (λ k. place-set f xs n k x inside)

-- what is read in a list doesn't depend on what would be read past its end
pub other-default : {A : Type 0} (xs : List A) (i : ℕ) (d e : A) → i < length xs → get_or xs i d ≡ get_or xs i e
other-default [] i d e inside = absurd (omega arith)
other-default (x ∷ xs) zero d e inside = refl
other-default (x ∷ xs) (suc i) d e inside = let less : i < length xs = omega arith in other-default xs i d e less

-- one element changed by g
pub table-changed : {A B : Type 0} (f : A → B) (g : B → B) (xs : List (Option A)) (n : ℕ) (old new : Option A) → n < length xs
    → old ≡ get_or xs n old → option_map f new ≡ option_map g (option_map f old)
    → (λ k. option_map f (get_or (set xs n new) k None)) ≡ with_at (λ k. option_map f (get_or xs k None)) n (option_map g (option_map f (get_or xs n None)))
table-changed {A = A} f g xs n old new inside there changed =
    table-set f xs n new inside
    ∙ ap (with_at (λ k. option_map f (get_or xs k None)) n) (changed ∙ ap (λ (held : Option A). option_map g (option_map f held)) (there ∙ other-default xs n old None inside))

-- nothing at all
pub table-none : {A B : Type 0} (f : A → B) (xs : List (Option A)) → ((k : ℕ) → get_or xs k None ≡ None)
    → (λ k. option_map f (get_or xs k None)) ≡ nothing
unfolding nothing
table-none f xs free = fun_ext (λ k. ap (option_map f) (free k))

pub ruleset tables = (table-set, table-none)

-- one free place more
pub free-push : {A : Type 0} (xs : List (Option A)) (k : ℕ) → get_or xs k None ≡ None → get_or (xs ++ None ∷ []) k None ≡ None
free-push [] zero free = refl
free-push [] (suc k) free = refl
free-push (x ∷ xs) zero free = free
free-push (x ∷ xs) (suc k) free = free-push xs k free

pub free-nothing : {A : Type 0} (k : ℕ) → get_or {A = Option A} [] k None ≡ None
free-nothing k = refl

pub ruleset places = (free-push, free-nothing)

-- places that were copied, one by one
place-copied : {A B : Type 0} (f : A → B) (R : Option A → Option A → Type 0) (old new : Option A)
    → ((x y : A) → R (Some x) (Some y) → f y ≡ f x) → ((x : A) → R (Some x) None → ⊥) → ((y : A) → R None (Some y) → ⊥)
    → R old new → option_map f new ≡ option_map f old
place-copied f R None None both lost made copied = refl
place-copied f R None (Some y) both lost made copied = absurd (made y copied)
place-copied f R (Some x) None both lost made copied = absurd (lost x copied)
place-copied {B = B} f R (Some x) (Some y) both lost made copied = ap (λ (z : B). Some z) (both x y copied)

pub table-copied : {A B : Type 0} (f : A → B) (R : Option A → Option A → Type 0) (xs ys : List (Option A))
    → ((x y : A) → R (Some x) (Some y) → f y ≡ f x) → ((x : A) → R (Some x) None → ⊥) → ((y : A) → R None (Some y) → ⊥)
    → AllZip R xs ys → (k : ℕ) → option_map f (get_or ys k None) ≡ option_map f (get_or xs k None)
table-copied f R [] [] both lost made copied k = refl
table-copied f R [] (y ∷ ys) both lost made copied k = absurd copied
table-copied f R (x ∷ xs) [] both lost made copied k = absurd copied
table-copied f R (x ∷ xs) (y ∷ ys) both lost made copied zero = place-copied f R x y both lost made copied.0
table-copied f R (x ∷ xs) (y ∷ ys) both lost made copied (suc k) = table-copied f R xs ys both lost made copied.1 k
