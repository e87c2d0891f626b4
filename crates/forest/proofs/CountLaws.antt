-- Counts: an object that is counted once is named by one place alone.
use Rattle.std.proofs.Common.{◌≡◌, ◌<◌, ◌≤◌, ℕ, zero, suc, Bool, true, Option, Some, None, refl, ap, sym, ◌∙◌, arith, ⊎_elim}
use Rattle.std.proofs.lemmas.Bool.{cases_lt, eq-eqb, eqb-true}
use Rattle.kn_base.specs.declared.key.Key.{Key}
use Rattle.unix_model.specs.Tables.{count_below}
use Rattle.forest.specs.Objects.{Object, PageObject, NodeObject, same_object, is_object, named, names}

pub same_object-same : (a : Object) → same_object a a ≡ true
same_object-same (PageObject a) = eq-eqb a a refl
same_object-same (NodeObject a) = eq-eqb a a refl

pub same_object-true : (a b : Object) → same_object a b ≡ true → a ≡ b
same_object-true (PageObject a) (PageObject b) h = ap PageObject (eqb-true a b h)
same_object-true (NodeObject a) (NodeObject b) h = ap NodeObject (eqb-true a b h)
same_object-true (PageObject a) (NodeObject b) h = cc
same_object-true (NodeObject a) (PageObject b) h = cc

-- the test and the fact
pub is_object-true : (object : Object) (there : Option Object) → is_object object there ≡ true → there ≡ Some object
is_object-true object None h = cc
is_object-true object (Some other) h = ap Some (sym (same_object-true object other h))

pub names-true : (object : Object) (key : Key) → names object key ≡ true → named key ≡ Some object
names-true object key h = is_object-true object (named key) h

pub true-names : (object : Object) (key : Key) → named key ≡ Some object → names object key ≡ true
true-names object key h = ap (is_object object) h ∙ same_object-same object

-- a number that the test holds of is counted
pub counted_one : (test : ℕ → Bool) (n p : ℕ) → p < n → test p ≡ true → 1 ≤ count_below test n
unfolding count_below
counted_one test zero p h t = omega arith
counted_one test (suc n) p h t = ⊎_elim
    (λ (b : p < n). let c = counted_one test n p b t in omega arith)
    (λ (b : n ≤ p). let e : p ≡ n = omega arith in let u : test n ≡ true = ap test (sym e) ∙ t in rw u (omega arith))
    (cases_lt p n)

-- and so are two
pub counted_two : (test : ℕ → Bool) (n p q : ℕ) → p < q → q < n → test p ≡ true → test q ≡ true → 2 ≤ count_below test n
unfolding count_below
counted_two test zero p q h k t u = omega arith
counted_two test (suc n) p q h k t u = ⊎_elim
    (λ (b : q < n). let c = counted_two test n p q h b t u in omega arith)
    (λ (b : n ≤ q). let e : q ≡ n = omega arith in let v : test n ≡ true = ap test (sym e) ∙ u in let c = counted_one test n p (omega arith) t in rw v (omega arith))
    (cases_lt q n)
