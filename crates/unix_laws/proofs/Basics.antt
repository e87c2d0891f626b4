-- What tests and options tell.
use Rattle.std.proofs.Common.{◌≡◌, ◌≢◌, ℕ, Bool, true, false, Option, Some, None, refl, sym, ap, ◌∙◌, inl, inr}
use Rattle.std.proofs.lemmas.Bool.Decides.{eqb_tells}
use Rattle.std.specs.Prelude.{◌==◌, ◌&&◌, is_none, not}

pub true-false : true ≡ false → ⊥
true-false e = cc

pub some-differ : {X : Type 0} {P : Type 0} (x : X) → None ≡ Some x → P
some-differ x e = absurd (cc)

pub some-same : {X : Type 0} (x y : X) → Some x ≡ Some y → x ≡ y
some-same x y e = cc

pub none-is : {X : Type 0} (found : Option X) → is_none found ≡ true → found ≡ None
none-is None e = refl
none-is (Some x) e = cc

pub and-both : (first second : Bool) → (first && second) ≡ true → (first ≡ true) × (second ≡ true)
and-both true second e = (refl, e)
and-both false second e = cc

-- two numbers by their test
pub same-of : (i j : ℕ) → i == j ≡ true → i ≡ j
same-of i j e = elim (eqb_tells i j) as (λ _. i ≡ j) [
  | inl same ↦ same.1
  | inr apart ↦ absurd (true-false (sym e ∙ apart.0))
]

pub apart-of : (i j : ℕ) → i == j ≡ false → i ≢ j
apart-of i j e = elim (eqb_tells i j) as (λ _. i ≢ j) [
  | inl same ↦ absurd (true-false (sym same.0 ∙ e))
  | inr apart ↦ apart.1
]

pub apart-is : (i j : ℕ) → i ≢ j → i == j ≡ false
apart-is i j e = elim (eqb_tells i j) as (λ _. i == j ≡ false) [
  | inl same ↦ absurd (e same.1)
  | inr apart ↦ apart.0
]

pub not-apart : (i j : ℕ) → not (i == j) ≡ true → i ≢ j
not-apart i j e = elim (eqb_tells i j) as (λ _. i ≢ j) [
  | inl same ↦ absurd (true-false (sym e ∙ ap not same.0))
  | inr apart ↦ apart.1
]
