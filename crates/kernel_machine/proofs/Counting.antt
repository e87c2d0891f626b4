-- Counts below a limit, and counts of what is covered.
use Rattle.std.proofs.Common.{◌≡◌, ℕ, zero, suc, ◌+◌, ◌*◌, ◌<◌, ◌≤◌, Bool, true, false, Option, Some, None, List, [], ◌∷◌, length, get_or, arith, refl, sym, ap, subst, ◌∙◌, inl, inr, ⊎_elim, ◌||◌, ◌==◌}
use Rattle.std.specs.List.{sum_by}
use Rattle.std.proofs.lemmas.Bool.{cases_Bool, eqb-true, or_left, or_right}
use Rattle.std.proofs.lemmas.Bool.Decides.{eqb_tells}
use Rattle.std.proofs.lemmas.List.Sums.{sum_by-cons}
use Rattle.unix_model.specs.Tables.{any_below, count_below, sum_below}
use Rattle.unix_model.proofs.CountLaws.{one_if}

-- one that is there makes it hold of some one
pub any-at : (test : ℕ → Bool) (limit n : ℕ) → n < limit → test n ≡ true → any_below test limit ≡ true
unfolding any_below
any-at test zero n below holds = absurd (omega arith)
any-at test (suc last) n below holds = elim (eqb_tells n last) as (λ _. (any_below test last || test last) ≡ true) [
  | inl same ↦ or_right (any_below test last) (test last) (ap test (sym same.1) ∙ holds)
  | inr apart ↦ or_left (any_below test last) (test last) (any-at test last n (omega (arith, apart.1)) holds)
]

if-less : (a b : Bool) → (a ≡ true → b ≡ true) → one_if a ≤ one_if b
if-less true b h = let e : b ≡ true = h refl in rw e (omega arith)
if-less false b h = omega arith

-- a test that is true more often counts more
pub count-less : (one two : ℕ → Bool) (limit : ℕ) → ((n : ℕ) → n < limit → one n ≡ true → two n ≡ true) → count_below one limit ≤ count_below two limit
unfolding count_below
count-less one two zero h = omega arith
count-less one two (suc last) h = omega (arith, count-less one two last (λ n below. h n (omega arith)), if-less (one last) (two last) (h last (omega arith)))

pub count-never : (test : ℕ → Bool) (limit : ℕ) → ((n : ℕ) → n < limit → test n ≡ false) → count_below test limit ≡ 0
unfolding count_below
count-never test zero never = refl
count-never test (suc last) never = let here : test last ≡ false = never last (omega arith) in rw here (omega (arith, count-never test last (λ n below. never n (omega arith))))

or-less : (a b : Bool) → one_if (a || b) ≤ one_if a + one_if b
or-less true b = omega arith
or-less false b = omega arith

-- two tests together
pub count-or : (one two : ℕ → Bool) (limit : ℕ) → count_below (λ n. one n || two n) limit ≤ count_below one limit + count_below two limit
unfolding count_below
count-or one two zero = omega arith
count-or one two (suc last) = omega (arith, count-or one two last, or-less (one last) (two last))

-- several tests together
pub count-any : (hits : ℕ → ℕ → Bool) (limit many : ℕ) → count_below (λ n. any_below (λ i. hits i n) many) limit ≤ sum_below (λ i. count_below (hits i) limit) many
unfolding any_below sum_below
count-any hits limit zero = omega (arith, count-never (λ n. false) limit (λ n below. refl))
count-any hits limit (suc last) = omega (arith, count-any hits limit last, count-or (λ n. any_below (λ i. hits i n) last) (hits last) limit)

pub sum-less : (f g : ℕ → ℕ) (limit : ℕ) → ((k : ℕ) → k < limit → f k ≤ g k) → sum_below f limit ≤ sum_below g limit
unfolding sum_below
sum-less f g zero less = omega arith
sum-less f g (suc last) less = omega (arith, sum-less f g last (λ k below. less k (omega arith)), less last (omega arith))

-- one that is less makes the sum less
pub sum-below-more : (f g : ℕ → ℕ) (limit n : ℕ) → n < limit → f n + 1 ≤ g n → ((k : ℕ) → k < limit → f k ≤ g k) → sum_below f limit + 1 ≤ sum_below g limit
unfolding sum_below
sum-below-more f g zero n below more less = absurd (omega arith)
sum-below-more f g (suc last) n below more less = elim (eqb_tells n last) as (λ _. (sum_below f last + f last) + 1 ≤ sum_below g last + g last) [
  | inl same ↦ let here : f last + 1 ≤ g last = subst (λ m. f m + 1 ≤ g m) same.1 more in omega (arith, sum-less f g last (λ k under. less k (omega arith)))
  | inr apart ↦ omega (arith, sum-below-more f g last n (omega (arith, apart.1)) more (λ k under. less k (omega arith)), less last (omega arith))
]

-- a sum of ones
pub sum-ones : (test : ℕ → Bool) (limit : ℕ) → sum_below (λ k. one_if (test k)) limit ≡ count_below test limit
unfolding sum_below count_below
sum-ones test zero = refl
sum-ones test (suc last) = omega (arith, sum-ones test last)

pub sum-at-most-one : (f : ℕ → ℕ) (limit : ℕ) → ((k : ℕ) → k < limit → f k ≤ 1) → sum_below f limit ≤ limit
unfolding sum_below
sum-at-most-one f zero few = omega arith
sum-at-most-one f (suc last) few = omega (arith, sum-at-most-one f last (λ k below. few k (omega arith)), few last (omega arith))

-- whether a number is the one that is there
abbrev pub is_label : ℕ → Option ℕ → Bool
is_label number None = false
is_label number (Some other) = other == number

-- one number is counted once at most
pub count-one : (first label limit : ℕ) → count_below (λ n. label == first + n) limit ≤ 1
unfolding count_below
count-one first label zero = omega arith
count-one first label (suc last) = ⊎_elim
    (λ (t : (label == first + last) ≡ true).
    let is : label ≡ first + last = eqb-true label (first + last) t in
    let none = count-never (λ n. label == first + n) last
    (λ n below. ⊎_elim (λ (e : (label == first + n) ≡ true). absurd (let other : label ≡ first + n = eqb-true label (first + n) e in omega arith)) (λ (e : (label == first + n) ≡ false). e) (cases_Bool (label == first + n))) in
    rw t (omega arith))
    (λ (t : (label == first + last) ≡ false). rw t (omega (arith, count-one first label last)))
    (cases_Bool (label == first + last))

pub count-label : (first : ℕ) (label : Option ℕ) (limit : ℕ) → count_below (λ n. is_label (first + n) label) limit ≤ 1
count-label first None limit = omega (arith, count-never (λ n. false) limit (λ n below. refl))
count-label first (Some label) limit = count-one first label limit

pub count-named : (label : Option ℕ) (limit : ℕ) → count_below (λ n. is_label n label) limit ≤ 1
count-named label limit =
    let same = count-less (λ n. is_label n label) (λ n. is_label (0 + n) label) limit (λ n below h. let e : 0 + n ≡ n = omega arith in ap (λ m. is_label m label) e ∙ h) in
    omega (arith, count-label 0 label limit)

-- a count from the other end
count-shift : (test : ℕ → Bool) (n : ℕ) → count_below test (suc n) ≡ one_if (test 0) + count_below (λ k. test (suc k)) n
unfolding count_below
count-shift test zero = omega arith
count-shift test (suc n) = omega (arith, count-shift test n)

-- a sum over a list of which the first ones alone count, one each at most
pub sum-list : {X : Type 0} (f : X → ℕ) (xs : List X) (d : X) (test : ℕ → Bool) (count : ℕ) → ((n : ℕ) → n < count → f (get_or xs n d) ≤ one_if (test n))
    → ((n : ℕ) → count ≤ n → n < length xs → f (get_or xs n d) ≡ 0) → sum_by f xs ≤ count_below test count
sum-list f [] d test count few none = omega arith
sum-list f (x ∷ xs) d test zero few none =
    let first : f x ≡ 0 = none 0 (omega arith) (omega arith) in
    let rest = sum-list f xs d (λ n. test (suc n)) zero (λ n below. absurd (omega arith)) (λ n low high. none (suc n) (omega arith) (omega arith)) in
    let zero_rest : count_below (λ n. test (suc n)) 0 ≡ 0 = count-never (λ n. test (suc n)) 0 (λ n below. absurd (omega arith)) in
    omega (arith, sum_by-cons f x xs)
sum-list f (x ∷ xs) d test (suc count) few none =
    let first : f x ≤ one_if (test 0) = few 0 (omega arith) in
    let rest = sum-list f xs d (λ n. test (suc n)) count (λ n below. few (suc n) (omega arith)) (λ n low high. none (suc n) (omega arith) (omega arith)) in
    omega (arith, sum_by-cons f x xs, count-shift test count)

-- ---- sums of fours

pub sum-fours : (test : ℕ → Bool) (limit : ℕ) → sum_below (λ k. 4 * one_if (test k)) limit ≡ 4 * count_below test limit
unfolding sum_below count_below
sum-fours test zero = refl
sum-fours test (suc last) = omega (arith, sum-fours test last)

pub sum-at-most-four : (f : ℕ → ℕ) (limit : ℕ) → ((k : ℕ) → k < limit → f k ≤ 4) → sum_below f limit ≤ 4 * limit
unfolding sum_below
sum-at-most-four f zero few = omega arith
sum-at-most-four f (suc last) few = omega (arith, sum-at-most-four f last (λ k below. few k (omega arith)), few last (omega arith))

pub sum-four-and-three : (f g : ℕ → ℕ) (limit : ℕ) → ((k : ℕ) → k < limit → f k ≤ 4 * g k + 3) → sum_below f limit ≤ 4 * sum_below g limit + 3 * limit
unfolding sum_below
sum-four-and-three f g zero less = omega arith
sum-four-and-three f g (suc last) less = omega (arith, sum-four-and-three f g last (λ k below. less k (omega arith)), less last (omega arith))

pub sum-four-and-one : (f g : ℕ → ℕ) (limit : ℕ) → ((k : ℕ) → k < limit → f k ≤ 4 * g k + 1) → sum_below f limit ≤ 4 * sum_below g limit + limit
unfolding sum_below
sum-four-and-one f g zero less = omega arith
sum-four-and-one f g (suc last) less = omega (arith, sum-four-and-one f g last (λ k below. less k (omega arith)), less last (omega arith))
