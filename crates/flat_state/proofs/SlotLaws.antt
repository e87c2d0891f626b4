-- A list of optional things as a table.
use Rattle.std.proofs.Common.{◌≡◌, ℕ, ◌+◌, ◌≤◌, Option, None, arith, refl, inl, inr}
use Rattle.std.proofs.Math.Path.{fun_ext}
use Rattle.std.proofs.lemmas.Bool.{cases_Bool, le-ltb, lt-ltb, ltb-false}
use Rattle.std.proofs.lemmas.Bool.Decides.{eqb_tells, nat_tests}
use Rattle.std.specs.Prelude.{option_map, ◌==◌, nat_lt, if◌then◌else◌}
use Rattle.unix_model.specs.Tables.{at, with_at}

-- the table with what it has below a number changed by f
unfoldable pub changed_below : {X : Type 0} → (X → X) → (ℕ → Option X) → ℕ → ℕ → Option X
changed_below f table n = λ k. if nat_lt k n then option_map f (table k) else table k

pub changed_below-zero : {X : Type 0} (f : X → X) (table : ℕ → Option X) → changed_below f table 0 ≡ table
unfolding changed_below
changed_below-zero f table = fun_ext (λ k. grind (arith, nat_tests))

-- one place more
changed_at : {X : Type 0} (f : X → X) (table : ℕ → Option X) (n k : ℕ)
    → (if k == n then option_map f (if nat_lt n n then option_map f (table n) else table n) else (if nat_lt k n then option_map f (table k) else table k))
    ≡ (if nat_lt k (n + 1) then option_map f (table k) else table k)
changed_at f table n k = elim (eqb_tells k n) as (λ _. (if k == n then option_map f (if nat_lt n n then option_map f (table n) else table n) else (if nat_lt k n then option_map f (table k) else table k)) ≡ (if nat_lt k (n + 1) then option_map f (table k) else table k)) [
  | inl same ↦ rw same.0 (rw same.1 (rw (le-ltb n n (omega arith), lt-ltb n (n + 1) (omega arith)) refl))
  | inr apart ↦ rw apart.0 (grind (arith, nat_tests, apart.1))
]

pub changed_below-step : {X : Type 0} (f : X → X) (table : ℕ → Option X) (n : ℕ)
    → with_at (changed_below f table n) n (option_map f (at (changed_below f table n) n)) ≡ changed_below f table (n + 1)
unfolding changed_below with_at at
changed_below-step f table n = fun_ext (λ k. changed_at f table n k)

-- all places, where there is nothing from n on
changed_all_at : {X : Type 0} (f : X → X) (table : ℕ → Option X) (n k : ℕ) → ((k : ℕ) → n ≤ k → table k ≡ None)
    → (if nat_lt k n then option_map f (table k) else table k) ≡ option_map f (table k)
changed_all_at f table n k beyond = elim (cases_Bool (nat_lt k n)) as (λ _. (if nat_lt k n then option_map f (table k) else table k) ≡ option_map f (table k)) [
  | inl below ↦ rw below refl
  | inr above ↦ rw above (rw (beyond k (ltb-false k n above)) refl)
]

pub changed_below-all : {X : Type 0} (f : X → X) (table : ℕ → Option X) (n : ℕ) → ((k : ℕ) → n ≤ k → table k ≡ None)
    → changed_below f table n ≡ (λ k. option_map f (at table k))
unfolding changed_below at
changed_below-all f table n beyond = fun_ext (λ k. changed_all_at f table n k beyond)

pub ruleset slots = (changed_below-zero, changed_below-step)
