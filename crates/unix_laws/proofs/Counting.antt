-- Counts over tables: what a least number tells, and sums over the numbers below a limit.
use Rattle.std.proofs.Common.{◌≡◌, ◌≢◌, ℕ, zero, suc, ◌+◌, ◌*◌, ◌<◌, ◌≤◌, Bool, true, false, Option, Some, None, arith, refl, sym, ap, ◌∙◌, inl, inr, mul-suc}
use Rattle.std.proofs.lemmas.Bool.{cases_Bool}
use Rattle.std.proofs.lemmas.Bool.Decides.{eqb_tells}
use Rattle.std.specs.Prelude.{◌||◌, ◌==◌, if◌then◌else◌}
use Rattle.unix_model.specs.Tables.{any_below, least_below, option_or, sum_below}
use Rattle.unix_model.proofs.CountLaws.{one_if}
use Rattle.unix_model.proofs.RoomLaws.{sum-few, sum-one}

-- ---- the least number of a test, and whether there is one

-- a number below the limit of which the test holds
pub record Passes (test : ℕ → Bool) (limit n : ℕ) : Type 0 where
  pub below : n < limit
  pub holds : test n ≡ true

at-end : (test : ℕ → Bool) (last n : ℕ) (holds : Bool) → test last ≡ holds → (if holds then Some last else None) ≡ Some n → Passes test (suc last) n
at-end test last n true is e =
    let same : last ≡ n = cc in
    record { below = omega (arith, same); holds = ap test (sym same) ∙ is }
at-end test last n false is e = cc

before-end : (test : ℕ → Bool) (last n : ℕ) (found : Option ℕ) → ((k : ℕ) → found ≡ Some k → Passes test last k) → option_or found (if test last then Some last else None) ≡ Some n
    → Passes test (suc last) n
before-end test last n (Some k) rest e =
    let same : k ≡ n = cc in
    let passes : Passes test last k = rest k refl in
    record { below = omega (arith, same, passes.below); holds = ap test (sym same) ∙ passes.holds }
before-end test last n None rest e = at-end test last n (test last) refl e

pub least-passes : (test : ℕ → Bool) (limit n : ℕ) → least_below test limit ≡ Some n → Passes test limit n
unfolding least_below
least-passes test zero n e = cc
least-passes test (suc last) n e = before-end test last n (least_below test last) (λ k f. least-passes test last k f) e

some-none : {P : Type 0} (n : ℕ) → Some n ≡ None → P
some-none n e = absurd (cc)

or-right : (first second : Bool) → second ≡ true → (first || second) ≡ true
or-right true second e = refl
or-right false second e = e

abbrev NoneAtEnd : (ℕ → Bool) → ℕ → Option ℕ → Type 0
NoneAtEnd test last found = (found ≡ None) × (test last ≡ false)

none-end : (test : ℕ → Bool) (last : ℕ) (found : Option ℕ) → option_or found (if test last then Some last else None) ≡ None → NoneAtEnd test last found
none-end test last (Some k) e = cc
none-end test last None e = elim (cases_Bool (test last)) as (λ _. NoneAtEnd test last None) [
  | inl holds ↦ some-none last (rw holds at e)
  | inr fails ↦ (refl, fails)
]

pub none-passes : (test : ℕ → Bool) (limit : ℕ) → least_below test limit ≡ None → (k : ℕ) → k < limit → test k ≡ false
unfolding least_below
none-passes test zero e k below = absurd (omega arith)
none-passes test (suc last) e k below =
    let both : (least_below test last ≡ None) × (test last ≡ false) = none-end test last (least_below test last) e in
    elim (eqb_tells k last) as (λ _. test k ≡ false) [
      | inl same ↦ ap test same.1 ∙ both.1
      | inr apart ↦ none-passes test last both.0 k (omega (arith, apart.1))
    ]

-- a test that holds somewhere
pub any-passes : (test : ℕ → Bool) (limit : ℕ) → any_below test limit ≡ true → (n : ℕ) × Passes test limit n
unfolding any_below
any-passes test zero e = cc
any-passes test (suc last) e = elim (cases_Bool (any_below test last)) as (λ _. (n : ℕ) × Passes test (suc last) n) [
  | inl below ↦ let found : (n : ℕ) × Passes test last n = any-passes test last below in (found.0, record { below = omega (arith, found.1.below); holds = found.1.holds })
  | inr above ↦ (last, record { below = omega arith; holds = rw above at e })
]

pub passes-any : (test : ℕ → Bool) (limit n : ℕ) → n < limit → test n ≡ true → any_below test limit ≡ true
unfolding any_below
passes-any test zero n below holds = absurd (omega arith)
passes-any test (suc last) n below holds = elim (eqb_tells n last) as (λ _. (any_below test last || test last) ≡ true) [
  | inl same ↦ let here : test last ≡ true = ap test (sym same.1) ∙ holds in or-right (any_below test last) (test last) here
  | inr apart ↦ rw (passes-any test last n (omega (arith, apart.1)) holds) refl
]

-- ---- sums

pub one-few : (test : Bool) → one_if test ≤ 1
one-few true = omega arith
one-few false = omega arith

pub sum-zero : (limit : ℕ) → sum_below (λ k. 0) limit ≡ 0
unfolding sum_below
sum-zero zero = refl
sum-zero (suc last) = omega (arith, sum-zero last)

pub sum-less : (f g : ℕ → ℕ) (limit : ℕ) → ((k : ℕ) → k < limit → f k ≤ g k) → sum_below f limit ≤ sum_below g limit
unfolding sum_below
sum-less f g zero less = omega arith
sum-less f g (suc last) less = omega (arith, sum-less f g last (λ k below. less k (omega arith)), less last (omega arith))

pub sum-plus : (f g : ℕ → ℕ) (limit : ℕ) → sum_below (λ k. f k + g k) limit ≡ sum_below f limit + sum_below g limit
unfolding sum_below
sum-plus f g zero = refl
sum-plus f g (suc last) = omega (arith, sum-plus f g last)

-- by rows and by columns
pub sum-swap : (f : ℕ → ℕ → ℕ) (rows columns : ℕ) → sum_below (λ a. sum_below (λ b. f a b) columns) rows ≡ sum_below (λ b. sum_below (λ a. f a b) rows) columns
unfolding sum_below
sum-swap f zero columns = sym (sum-zero columns)
sum-swap f (suc last) columns = omega (arith, sum-swap f last columns, sum-plus (λ b. sum_below (λ a. f a b) last) (λ b. f last b) columns)

-- one that is below the most
pub sum-spare : (f : ℕ → ℕ) (most n limit : ℕ) → n < limit → ((k : ℕ) → f k ≤ most) → sum_below f limit + most ≤ most * limit + f n
unfolding sum_below
sum-spare f most n zero below each = absurd (omega arith)
sum-spare f most n (suc last) below each = elim (eqb_tells n last) as (λ _. (sum_below f last + f last) + most ≤ most * suc last + f n) [
  | inl same ↦ omega (arith, ap f same.1, sum-few f most last each, mul-suc most last)
  | inr apart ↦ let less : n < last = omega (arith, apart.1) in omega (arith, sum-spare f most n last less each, each last, mul-suc most last)
]

-- two of a sum
pub sum-two : (f : ℕ → ℕ) (i j limit : ℕ) → i < limit → j < limit → i ≢ j → f i + f j ≤ sum_below f limit
unfolding sum_below
sum-two f i j zero first second apart = absurd (omega arith)
sum-two f i j (suc last) first second apart = elim (eqb_tells i last) as (λ _. f i + f j ≤ sum_below f last + f last) [
  | inl here ↦ let less : j < last = omega (arith, here.1) in omega (arith, ap f here.1, sum-one f j last less)
  | inr other ↦
      let less : i < last = omega (arith, other.1) in
      elim (eqb_tells j last) as (λ _. f i + f j ≤ sum_below f last + f last) [
        | inl here ↦ omega (arith, ap f here.1, sum-one f i last less)
        | inr rest ↦ let less_too : j < last = omega (arith, rest.1) in omega (arith, sum-two f i j last less less_too apart)
      ]
]

-- at least one each, and at least one each but one
pub sum-all : (f : ℕ → ℕ) (limit : ℕ) → ((k : ℕ) → k < limit → 1 ≤ f k) → limit ≤ sum_below f limit
unfolding sum_below
sum-all f zero each = omega arith
sum-all f (suc last) each = omega (arith, sum-all f last (λ k below. each k (omega arith)), each last (omega arith))

pub sum-all-but : (f : ℕ → ℕ) (but limit : ℕ) → ((k : ℕ) → k < limit → k ≢ but → 1 ≤ f k) → limit ≤ sum_below f limit + 1
unfolding sum_below
sum-all-but f but zero each = omega arith
sum-all-but f but (suc last) each = elim (eqb_tells last but) as (λ _. suc last ≤ (sum_below f last + f last) + 1) [
  | inl same ↦ let rest : last ≤ sum_below f last = sum-all f last (λ k below. each k (omega arith) (λ e. absurd (omega (arith, same.1, e)))) in omega (arith, rest)
  | inr apart ↦ omega (arith, sum-all-but f but last (λ k below other. each k (omega arith) other), each last (omega arith) apart.1)
]

-- one number is met once at most
single-past : (n limit : ℕ) → limit ≤ n → sum_below (λ k. one_if (n == k)) limit ≡ 0
unfolding sum_below
single-past n zero past = refl
single-past n (suc last) past =
    elim (eqb_tells n last) as (λ _. sum_below (λ k. one_if (n == k)) last + one_if (n == last) ≡ 0) [
      | inl same ↦ absurd (omega (arith, same.1))
      | inr apart ↦ omega (arith, ap one_if apart.0, single-past n last (omega arith))
    ]

pub sum-single : (n limit : ℕ) → sum_below (λ k. one_if (n == k)) limit ≤ 1
unfolding sum_below
sum-single n zero = omega arith
sum-single n (suc last) =
    elim (eqb_tells n last) as (λ _. sum_below (λ k. one_if (n == k)) last + one_if (n == last) ≤ 1) [
      | inl same ↦ let past : last ≤ n = omega (arith, same.1) in omega (arith, ap one_if same.0, single-past n last past)
      | inr apart ↦ omega (arith, ap one_if apart.0, sum-single n last)
    ]
