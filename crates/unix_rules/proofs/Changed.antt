-- What a table that was changed at one place has.
use Rattle.std.proofs.Common.{◌≡◌, ◌≢◌, ◌⊎◌, ℕ, Option, Some, None, sym, ap, ◌∙◌, inl, inr}
use Rattle.std.proofs.lemmas.Bool.Decides.{eqb_tells}
use Rattle.unix_model.specs.Tables.{at, with_at}
use Rattle.unix_model.proofs.TableLaws.{at-with_at, at-with_at-other}
use Rattle.unix_laws.proofs.Basics.{some-differ, some-same}

-- what was put, or what was there
pub put-reads : {X : Type 0} (table : ℕ → Option X) (place n : ℕ) (x y : X) → at (with_at table place (Some x)) n ≡ Some y → ((n ≡ place) × (x ≡ y)) ⊎ ((n ≢ place) × (at table n ≡ Some y))
put-reads table place n x y e = elim (eqb_tells n place) as (λ _. ((n ≡ place) × (x ≡ y)) ⊎ ((n ≢ place) × (at table n ≡ Some y))) [
  | inl same ↦ inl (same.1, some-same x y (sym (at-with_at table place (Some x)) ∙ ap (at (with_at table place (Some x))) (sym same.1) ∙ e))
  | inr apart ↦ inr (apart.1, sym (at-with_at-other table place n (Some x) apart.1) ∙ e)
]

pub cut-reads : {X : Type 0} (table : ℕ → Option X) (place n : ℕ) (y : X) → at (with_at table place None) n ≡ Some y → (n ≢ place) × (at table n ≡ Some y)
cut-reads table place n y e = elim (eqb_tells n place) as (λ _. (n ≢ place) × (at table n ≡ Some y)) [
  | inl same ↦ some-differ y (sym (at-with_at table place None) ∙ ap (at (with_at table place None)) (sym same.1) ∙ e)
  | inr apart ↦ (apart.1, sym (at-with_at-other table place n None apart.1) ∙ e)
]

-- a number by what it has
pub apart-by : {X : Type 0} (table : ℕ → Option X) (n m : ℕ) (x : X) → at table n ≡ Some x → at table m ≡ None → n ≢ m
apart-by table n m x there free same = some-differ x (sym free ∙ ap (at table) (sym same) ∙ there)

pub here : {X : Type 0} (table : ℕ → Option X) (n m : ℕ) (x : Option X) → n ≡ m → at (with_at table m x) n ≡ x
here table n m x same = ap (at (with_at table m x)) same ∙ at-with_at table m x
