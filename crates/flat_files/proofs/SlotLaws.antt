-- A list of optional things as a table.
use Rattle.std.proofs.Common.{◌≡◌, ◌≢◌, ℕ, zero, suc, ◌+◌, ◌<◌, ◌≤◌, Bool, Option, None, List, [], ◌∷◌, ◌++◌, length, get_or, set, arith, refl, ap, inl, inr, get_or-set_same, get_or-set_other}
use Rattle.std.proofs.Math.Path.{fun_ext}
use Rattle.std.proofs.lemmas.Bool.{cases_Bool, le-ltb, lt-ltb, ltb-false}
use Rattle.std.proofs.lemmas.Bool.Decides.{eqb_tells, nat_tests}
use Rattle.std.specs.List.{list_any}
use Rattle.std.specs.Prelude.{◌||◌, map, option_map, ◌==◌, nat_lt, if◌then◌else◌}
use Rattle.unix_model.specs.Tables.{at, with_at, nothing}

-- one element changed, at a place
place-set : {A B : Type 0} (f : A → B) (xs : List (Option A)) (n k : ℕ) (x : Option A) → n < length xs
    → option_map f (get_or (set xs n x) k None) ≡ (if k == n then option_map f x else option_map f (get_or xs k None))
place-set f xs n k x inside = elim (eqb_tells k n) as (λ _. option_map f (get_or (set xs n x) k None) ≡ (if k == n then option_map f x else option_map f (get_or xs k None))) [
  | inl same ↦ rw same.0 (rw same.1 (rw get_or-set_same refl))
  | inr apart ↦ let other : k ≢ n = apart.1 in rw apart.0 (rw get_or-set_other refl)
]

-- one element changed
pub table-set : {A B : Type 0} (f : A → B) (xs : List (Option A)) (n : ℕ) (x : Option A) → n < length xs
    → (λ k. option_map f (get_or (set xs n x) k None)) ≡ with_at (λ k. option_map f (get_or xs k None)) n (option_map f x)
unfolding with_at
table-set f xs n x inside = fun_ext (λ k. place-set f xs n k x inside)

-- nothing at all
pub table-none : {A B : Type 0} (f : A → B) (xs : List (Option A)) → ((k : ℕ) → get_or xs k None ≡ None)
    → (λ k. option_map f (get_or xs k None)) ≡ nothing
unfolding nothing
table-none f xs free = fun_ext (λ k. ap (option_map f) (free k))

-- one free place more
pub free-push : {A : Type 0} (xs : List (Option A)) (k : ℕ) → get_or xs k None ≡ None → get_or (xs ++ None ∷ []) k None ≡ None
free-push [] zero free = refl
free-push [] (suc k) free = refl
free-push (x ∷ xs) zero free = free
free-push (x ∷ xs) (suc k) free = free-push xs k free

pub free-nothing : {A : Type 0} (k : ℕ) → get_or {A = Option A} [] k None ≡ None
free-nothing k = refl

-- a test of mapped elements
pub list_any-mapped : {A B : Type 0} (test : B → Bool) (f : A → B) (xs : List A) → list_any test (map f xs) ≡ list_any (λ x. test (f x)) xs
list_any-mapped test f [] = refl
list_any-mapped test f (x ∷ xs) = ap (λ rest. test (f x) || rest) (list_any-mapped test f xs)

pub ruleset places = (free-push, free-nothing, list_any-mapped)

-- the table with what it has below a number changed by f
unfoldable pub changed_below : {X : Type 0} → (X → X) → (ℕ → Option X) → ℕ → ℕ → Option X
changed_below f table n = λ k. if nat_lt k n then option_map f (table k) else table k

pub changed_below-zero : {X : Type 0} (f : X → X) (table : ℕ → Option X) → changed_below f table 0 ≡ table
unfolding changed_below
changed_below-zero f table = fun_ext (λ k. grind (arith, nat_tests))

-- one place more
changed_at : {X : Type 0} (f : X → X) (table : ℕ → Option X) (n k : ℕ)
    → (if k == n then option_map f (if nat_lt n n then option_map f (table n) else table n) else (if nat_lt k n then option_map f (table k) else table k))
    ≡ (if nat_lt k (n + 1) then option_map f (table k) else table k)
changed_at f table n k = elim (eqb_tells k n) as (λ _. (if k == n then option_map f (if nat_lt n n then option_map f (table n) else table n) else (if nat_lt k n then option_map f (table k) else table k)) ≡ (if nat_lt k (n + 1) then option_map f (table k) else table k)) [
  | inl same ↦ rw same.0 (rw same.1 (rw (le-ltb n n (omega arith), lt-ltb n (n + 1) (omega arith)) refl))
  | inr apart ↦ rw apart.0 (grind (arith, nat_tests, apart.1))
]

pub changed_below-step : {X : Type 0} (f : X → X) (table : ℕ → Option X) (n : ℕ)
    → with_at (changed_below f table n) n (option_map f (at (changed_below f table n) n)) ≡ changed_below f table (n + 1)
unfolding changed_below with_at at
changed_below-step f table n = fun_ext (λ k. changed_at f table n k)

-- all places, where there is nothing from n on
changed_all_at : {X : Type 0} (f : X → X) (table : ℕ → Option X) (n k : ℕ) → ((k : ℕ) → n ≤ k → table k ≡ None)
    → (if nat_lt k n then option_map f (table k) else table k) ≡ option_map f (table k)
changed_all_at f table n k beyond = elim (cases_Bool (nat_lt k n)) as (λ _. (if nat_lt k n then option_map f (table k) else table k) ≡ option_map f (table k)) [
  | inl below ↦ rw below refl
  | inr above ↦ rw above (rw (beyond k (ltb-false k n above)) refl)
]

pub changed_below-all : {X : Type 0} (f : X → X) (table : ℕ → Option X) (n : ℕ) → ((k : ℕ) → n ≤ k → table k ≡ None)
    → changed_below f table n ≡ (λ k. option_map f (at table k))
unfolding changed_below at
changed_below-all f table n beyond = fun_ext (λ k. changed_all_at f table n k beyond)

pub ruleset slots = (table-set, table-none, changed_below-zero, changed_below-step)

-- mapping keeps the length
pub length-mapped : {A B : Type 0} (f : A → B) (xs : List A) → length (map f xs) ≡ length xs
length-mapped f [] = refl
length-mapped f (x ∷ xs) = ap suc (length-mapped f xs)

pub ruleset lengths = (length-mapped)
