-- A directory that comes to another by its parents comes to it by 1,024 of them or fewer: there are no more inodes.
use Rattle.std.proofs.Common.{◌≡◌, ◌≢◌, ℕ, zero, suc, ◌+◌, ◌<◌, ◌≤◌, Option, Bool, true, false, arith, refl, sym, ap, subst, ◌∙◌, inl, inr}
use Rattle.std.proofs.lemmas.Bool.{cases_Bool, cases_lt, eq-eqb}
use Rattle.std.proofs.lemmas.Bool.Decides.{eqb_tells}
use Rattle.std.specs.Prelude.{◌==◌, ◌||◌}
use Rattle.unix_model.specs.Files.{Inode, is_within, parent_of}
use Rattle.unix_model.specs.Tables.{at, count_below}
use Rattle.unix_model.proofs.CountLaws.{one_if, count-few}

-- ---- counts

-- a test that holds wherever another does holds of no fewer
one-more : (a b : Bool) → (a ≡ true → b ≡ true) → one_if a ≤ one_if b
one-more true b holds = rw (holds refl) (omega arith)
one-more false true holds = omega arith
one-more false false holds = omega arith

count-more : (f g : ℕ → Bool) → ((k : ℕ) → f k ≡ true → g k ≡ true) → (limit : ℕ) → count_below f limit ≤ count_below g limit
unfolding count_below
count-more f g within zero = omega arith
count-more f g within (suc limit) = omega (arith, count-more f g within limit, one-more (f limit) (g limit) (within limit))

-- and of more, where it holds of one more
pub count-one_more : (f g : ℕ → Bool) → ((k : ℕ) → f k ≡ true → g k ≡ true) → (n limit : ℕ) → n < limit → f n ≡ false → g n ≡ true
    → count_below f limit + 1 ≤ count_below g limit
unfolding count_below
count-one_more f g within n zero inside not_f is_g = absurd (omega arith)
count-one_more f g within n (suc limit) inside not_f is_g =
    elim (eqb_tells n limit) as (λ _. (count_below f limit + one_if (f limit)) + 1 ≤ count_below g limit + one_if (g limit)) [
      | inl same ↦
          let no : one_if (f limit) ≡ 0 = ap one_if (ap f (sym same.1) ∙ not_f) in
          let yes : one_if (g limit) ≡ 1 = ap one_if (ap g (sym same.1) ∙ is_g) in
          omega (arith, count-more f g within limit, no, yes)
      | inr apart ↦
          let less : n < limit = omega (arith, apart.1) in
          omega (arith, count-one_more f g within n limit less not_f is_g, one-more (f limit) (g limit) (within limit))
    ]

-- ---- steps

or-left : (a b : Bool) → a ≡ true → (a || b) ≡ true
or-left a b e = rw e refl

or-right : (a b : Bool) → b ≡ true → (a || b) ≡ true
or-right true b e = refl
or-right false b e = e

or-more : (a b c : Bool) → (b ≡ true → c ≡ true) → (a || b) ≡ true → (a || c) ≡ true
or-more true b c more e = refl
or-more false b c more e = more e

or-rest : (a b : Bool) → a ≡ false → (a || b) ≡ true → b ≡ true
or-rest true b first e = cc
or-rest false b first e = e

or-not-left : (a b : Bool) → (a || b) ≡ false → a ≡ false
or-not-left true b e = cc
or-not-left false b e = refl

or-not-right : (a b : Bool) → (a || b) ≡ false → b ≡ false
or-not-right true b e = cc
or-not-right false b e = e

module _ (inodes : ℕ → Option Inode) (outer : ℕ) where
  -- one step more is no less
  pub within-more : (steps n : ℕ) → is_within inodes outer steps n ≡ true → is_within inodes outer (suc steps) n ≡ true
  unfolding is_within
  within-more zero n e = or-left (n == outer) (is_within inodes outer zero (parent_of (at inodes n))) e
  within-more (suc steps) n e =
      or-more (n == outer) (is_within inodes outer steps (parent_of (at inodes n))) (is_within inodes outer (suc steps) (parent_of (at inodes n)))
      (within-more steps (parent_of (at inodes n))) e

  pub within-later : (later steps n : ℕ) → steps ≤ later → is_within inodes outer steps n ≡ true → is_within inodes outer later n ≡ true
  within-later zero steps n order e = let same : steps ≡ 0 = omega arith in subst (λ k. is_within inodes outer k n ≡ true) same e
  within-later (suc later) steps n order e =
      elim (eqb_tells steps (suc later)) as (λ _. is_within inodes outer (suc later) n ≡ true) [
        | inl same ↦ subst (λ k. is_within inodes outer k n ≡ true) same.1 e
        | inr apart ↦ let less : steps ≤ later = omega (arith, apart.1) in within-more later n (within-later later steps n less e)
      ]

  -- a directory that needs so many steps stands beside those that need fewer
  needs : ((n : ℕ) → parent_of (at inodes n) < 1024) → (steps n : ℕ) → n < 1024 → is_within inodes outer (suc steps) n ≡ true → is_within inodes outer steps n ≡ false
      → suc (suc steps) ≤ count_below (is_within inodes outer (suc steps)) 1024
  unfolding is_within
  needs inside zero n below holds not_yet =
      let parent = parent_of (at inodes n) in
      let at_outer : (parent == outer) ≡ true = or-rest (n == outer) (parent == outer) not_yet holds in
      let some : count_below (λ k. false) 1024 + 1 ≤ count_below (is_within inodes outer zero) 1024 =
      count-one_more (λ k. false) (is_within inodes outer zero) (λ k e. cc) parent 1024 (inside n) refl at_outer in
      omega (arith, some, count-one_more (is_within inodes outer zero) (is_within inodes outer (suc zero)) (within-more zero) n 1024 below not_yet holds)
  needs inside (suc steps) n below holds not_yet =
      let parent = parent_of (at inodes n) in
      let first : (n == outer) ≡ false = or-not-left (n == outer) (is_within inodes outer steps parent) not_yet in
      let later : is_within inodes outer (suc steps) parent ≡ true = or-rest (n == outer) (is_within inodes outer (suc steps) parent) first holds in
      let earlier : is_within inodes outer steps parent ≡ false = or-not-right (n == outer) (is_within inodes outer steps parent) not_yet in
      omega (
        arith,
        needs inside steps parent (inside n) later earlier,
        count-one_more (is_within inodes outer (suc steps)) (is_within inodes outer (suc (suc steps))) (within-more (suc steps)) n 1024 below not_yet holds,
      )

  late : ((n : ℕ) → parent_of (at inodes n) < 1024) → (steps n : ℕ) → n < 1024 → is_within inodes outer (suc steps) n ≡ true → is_within inodes outer steps n ≡ false
      → is_within inodes outer 1024 n ≡ true
  late inside steps n below e not_yet =
      elim (cases_lt steps 1024) as (λ _. is_within inodes outer 1024 n ≡ true) [
        | inl few ↦ let order : suc steps ≤ 1024 = omega arith in within-later 1024 (suc steps) n order e
        | inr many ↦ absurd (omega (arith, needs inside steps n below e not_yet, count-few (is_within inodes outer (suc steps)) 1024))
      ]

  -- so there are no more steps than inodes
  pub within-few : ((n : ℕ) → parent_of (at inodes n) < 1024) → (steps n : ℕ) → n < 1024 → is_within inodes outer steps n ≡ true → is_within inodes outer 1024 n ≡ true
  within-few inside zero n below e = let order : 0 ≤ 1024 = omega arith in within-later 1024 zero n order e
  within-few inside (suc steps) n below e =
      elim (cases_Bool (is_within inodes outer steps n)) as (λ _. is_within inodes outer 1024 n ≡ true) [
        | inl yet ↦ within-few inside steps n below yet
        | inr not_yet ↦ late inside steps n below e not_yet
      ]

-- ---- one directory gets another parent

-- what isn't found in 1,024 steps is never found
pub never-within : (inodes : ℕ → Option Inode) (outer : ℕ) → ((n : ℕ) → parent_of (at inodes n) < 1024) → (n : ℕ) → n < 1024
    → is_within inodes outer 1024 n ≡ false → (steps : ℕ) → is_within inodes outer steps n ≡ false
never-within inodes outer inside n below far steps =
    elim (cases_Bool (is_within inodes outer steps n)) as (λ _. is_within inodes outer steps n ≡ false) [
      | inl found ↦ let near = within-few inodes outer inside steps n below found in cc
      | inr missed ↦ missed
    ]

-- a directory that comes to another, by parents that are none of them the one that is moved
module _ (inodes after : ℕ → Option Inode) (outer moved : ℕ)
    (others : (n : ℕ) → n ≢ moved → parent_of (at after n) ≡ parent_of (at inodes n)) where
  pub within-beside : (steps n : ℕ) → ((k : ℕ) → is_within inodes moved k n ≡ false) → is_within inodes outer steps n ≡ true → is_within after outer steps n ≡ true
  unfolding is_within
  within-beside zero n free e = e
  within-beside (suc steps) n free e =
      let parent = parent_of (at inodes n) in
      let apart : n ≢ moved = λ same. let here : (n == moved) ≡ true = eq-eqb n moved same in let none = free 0 in cc in
      let parents_free : (k : ℕ) → is_within inodes moved k parent ≡ false = λ k. or-not-right (n == moved) (is_within inodes moved k parent) (free (suc k)) in
      rw (others n apart) (or-more (n == outer) (is_within inodes outer steps parent) (is_within after outer steps parent) (within-beside steps parent parents_free) e)

  step : (later n : ℕ) → is_within after outer later (parent_of (at after n)) ≡ true → is_within after outer (suc later) n ≡ true
  unfolding is_within
  step later n e = or-right (n == outer) (is_within after outer later (parent_of (at after n))) e

  by_parent : (n beyond : ℕ) → is_within after outer beyond (parent_of (at after moved)) ≡ true
      → (later : ℕ) × (is_within after outer later (parent_of (at inodes n)) ≡ true) → (later : ℕ) × (is_within after outer later n ≡ true)
  by_parent n beyond there rest =
      elim (eqb_tells n moved) as (λ _. (later : ℕ) × (is_within after outer later n ≡ true)) [
        | inl same ↦ (suc beyond, step beyond n (subst (λ k. is_within after outer beyond (parent_of (at after k)) ≡ true) (sym same.1) there))
        | inr apart ↦ (suc rest.0, step rest.0 n (subst (λ k. is_within after outer rest.0 k ≡ true) (sym (others n apart.1)) rest.1))
      ]

  -- and any that came to it, where the moved one does
  pub within-moved : (steps n beyond : ℕ) → is_within after outer beyond (parent_of (at after moved)) ≡ true → is_within inodes outer steps n ≡ true
      → (later : ℕ) × (is_within after outer later n ≡ true)
  unfolding is_within
  within-moved zero n beyond there e = (zero, e)
  within-moved (suc steps) n beyond there e =
      elim (cases_Bool (n == outer)) as (λ _. (later : ℕ) × (is_within after outer later n ≡ true)) [
        | inl here ↦ (zero, here)
        | inr on ↦
            by_parent n beyond there
            (within-moved steps (parent_of (at inodes n)) beyond there (or-rest (n == outer) (is_within inodes outer steps (parent_of (at inodes n))) on e))
      ]
