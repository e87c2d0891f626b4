-- Raising, lowering, writing, taking and giving keep counts exact.
use Rattle.std.proofs.Common.{◌≡◌, ◌≢◌, ◌<◌, ◌≤◌, ◌+◌, ◌-◌, ◌*◌, ℕ, zero, suc, Bool, true, false, Option, Some, None, List, ◌∷◌, refl, ap, sym, ◌∙◌, arith, if◌then◌else◌, ⊎_elim}
use Rattle.std.specs.Option.{is_some, IsSome}
use Rattle.std.proofs.lemmas.List.Sums.{sum_by-cons}
use Rattle.std.proofs.lemmas.Bool.{cases_lt, cases_Bool}
use Rattle.kn_base.specs.declared.key.Key.{Key}
use Rattle.unix_model.specs.Tables.{at, with_at, count_below}
use Rattle.unix_model.proofs.TableLaws.{at-with_at, at-with_at-other}
use Rattle.forest.specs.Objects.{Object, NodeObject, named, names, same_object, is_object, with_object}
use Rattle.forest.specs.Forest.{Forest, Exact, IsSpace, NobodyNames, namings, in_hand}
use Rattle.forest.specs.Changes.{with_key, counted_more, counted_less, and_outside}
use Rattle.forest.specs.Laws.{RaiseIsExact, LowerIsExact, WriteIsExact, TakeIsExact, GiveIsExact, HandOutIsExact, HandInIsExact}
use Rattle.forest.proofs.CountLaws.{true-names, names-true, same_object-true, same_object-same}

-- one for a fact that holds
abbrev pub bit : Bool → ℕ
bit b = if b then 1 else 0

pub count_same : (f g : ℕ → Bool) (n : ℕ) → ((q : ℕ) → q < n → f q ≡ g q) → count_below f n ≡ count_below g n
unfolding count_below
count_same f g zero h = refl
count_same f g (suc n) h =
    let e = count_same f g n (λ q less. h q (omega arith)) in
    let here : f n ≡ g n = h n (omega arith) in
    rw (e, here) refl

-- two tests that differ at one number at most
pub count_changed : (f g : ℕ → Bool) (n p : ℕ) → p < n → ((q : ℕ) → q ≢ p → f q ≡ g q) → count_below f n + bit (g p) ≡ count_below g n + bit (f p)
unfolding count_below
count_changed f g zero p less h = omega arith
count_changed f g (suc n) p less h = ⊎_elim
    (λ (b : p < n).
    let e = count_changed f g n p b h in
    let here : f n ≡ g n = h n (omega arith) in
    rw here (omega arith))
    (λ (b : n ≤ p).
    let at_p : p ≡ n = omega arith in
    let e = count_same f g n (λ q below. h q (omega arith)) in
    rw (at_p, e) (omega arith))
    (cases_lt p n)

pub in_hand-cons : (key : Key) (hand : List Key) (object : Object) → in_hand (key ∷ hand) object ≡ bit (names object key) + in_hand hand object
unfolding in_hand
in_hand-cons key hand object = sum_by-cons (λ k. bit (names object k)) key hand

pub with_object-here : {X : Type 0} (table : Object → X) (object : Object) (x : X) → with_object table object x object ≡ x
unfolding with_object
with_object-here table object x = rw (same_object-same object) refl

pub count-more : (forest : Forest) (there : Option Object) (object : Object) → (counted_more forest there).count object ≡ forest.count object + bit (is_object object there)
unfolding with_object
count-more forest None object = omega arith
count-more forest (Some other) object = ⊎_elim
    (λ (e : same_object object other ≡ true). let is : object ≡ other = same_object-true object other e in rw e (ap (λ o. forest.count o + 1) (sym is)))
    (λ (e : same_object object other ≡ false). rw e (omega arith))
    (cases_Bool (same_object object other))

pub count-less : (forest : Forest) (there : Option Object) (object : Object) → (counted_less forest there).count object ≡ forest.count object - bit (is_object object there)
unfolding with_object
count-less forest None object = omega arith
count-less forest (Some other) object = ⊎_elim
    (λ (e : same_object object other ≡ true). let is : object ≡ other = same_object-true object other e in rw e (ap (λ o. forest.count o - 1) (sym is)))
    (λ (e : same_object object other ≡ false). rw e (omega arith))
    (cases_Bool (same_object object other))

-- counts alone have changed
pub record SameKeys (old new : Forest) : Type 0 where
  pub owner : new.owner ≡ old.owner
  pub same_namings : (object : Object) → namings new object ≡ namings old object

pub more-same : (forest : Forest) (there : Option Object) → SameKeys forest (counted_more forest there)
unfolding namings
more-same forest None = record { owner = refl; same_namings = λ object. refl }
more-same forest (Some other) = record { owner = refl; same_namings = λ object. refl }

pub less-same : (forest : Forest) (there : Option Object) → SameKeys forest (counted_less forest there)
unfolding namings
less-same forest None = record { owner = refl; same_namings = λ object. refl }
less-same forest (Some other) = record { owner = refl; same_namings = λ object. refl }

pub raise : RaiseIsExact
raise forest outside hand key exact = record {
  counted = λ object owned.
      let same = more-same forest (named key) in
      let was = exact.counted object (ap (λ o. is_some (o object)) (sym same.owner) ∙ owned) in
      let more = count-more forest (named key) object in
      let names_same = same.same_namings object in
      let held = in_hand-cons key hand object in
      omega arith;
}

pub lower : LowerIsExact
lower forest outside hand key exact = record {
  counted = λ object owned.
      let same = less-same forest (named key) in
      let was = exact.counted object (ap (λ o. is_some (o object)) (sym same.owner) ∙ owned) in
      let less = count-less forest (named key) object in
      let names_same = same.same_namings object in
      let held = in_hand-cons key hand object in
      omega arith;
}

pub namings-written : (forest : Forest) (place : ℕ) (key : Key) (object : Object) → place < 16 * forest.nodes
    → namings (with_key forest place key) object + bit (names object (at forest.keys place)) ≡ namings forest object + bit (names object key)
unfolding namings
namings-written forest place key object within =
    let e = count_changed (λ p. names object (at (with_at forest.keys place key) p)) (λ p. names object (at forest.keys p)) (16 * forest.nodes) place within
    (λ q apart. ap (names object) (at-with_at-other forest.keys place q key apart)) in
    let here : names object (at (with_at forest.keys place key) place) ≡ names object key = ap (names object) (at-with_at forest.keys place key) in
    rw here at e

pub write : WriteIsExact
write forest outside hand place key within exact = record {
  counted = λ object owned.
      let was = exact.counted object owned in
      let changed = namings-written forest place key object within in
      let held = in_hand-cons key hand object in
      let held_now = in_hand-cons (at forest.keys place) hand object in
      omega arith;
}

pub not_named : (key : Key) (object : Object) → named key ≢ Some object → names object key ≡ false
not_named key object differs = ⊎_elim
    (λ (e : names object key ≡ true). absurd (differs (names-true object key e)))
    (λ (e : names object key ≡ false). e)
    (cases_Bool (names object key))

none_counted : (f : ℕ → Bool) (n : ℕ) → ((q : ℕ) → f q ≡ false) → count_below f n ≡ 0
unfolding count_below
none_counted f zero h = refl
none_counted f (suc n) h = let e = none_counted f n h in rw (h n) (omega arith)

pub nobody_counted : (forest : Forest) (object : Object) → NobodyNames forest.keys object → namings forest object ≡ 0
unfolding namings
nobody_counted forest object nobody = none_counted (λ place. names object (at forest.keys place)) (16 * forest.nodes)
    (λ place. not_named (at forest.keys place) object (nobody place))

pub take : TakeIsExact
unfolding with_object namings
take forest outside hand key object owner name nobody none_outside none_in_hand exact = record {
  counted = λ other owned.
      let held = in_hand-cons key hand other in
      ⊎_elim
      (λ (e : same_object other object ≡ true).
      let is : other ≡ object = same_object-true other object e in
      let fresh : namings forest other ≡ 0 = ap (namings forest) is ∙ nobody_counted forest object nobody in
      let out : outside other ≡ 0 = ap outside is ∙ none_outside in
      let in_other : in_hand hand other ≡ 0 = ap (in_hand hand) is ∙ none_in_hand in
      let one : names other key ≡ true = true-names other key (name ∙ ap Some (sym is)) in
      rw (e, held, one, out, in_other) (omega arith))
      (λ (e : same_object other object ≡ false).
      let zero_here : names other key ≡ false = ap (is_object other) name ∙ e in
      let was = exact.counted other (rw e at owned) in
      rw (e, held, zero_here) (omega arith))
      (cases_Bool (same_object other object));
}

pub give : GiveIsExact
unfolding with_object namings
give forest outside hand object exact = record {
  counted = λ other owned. ⊎_elim
      (λ (e : same_object other object ≡ true). absurd (let none : false ≡ true = rw e at owned in cc))
      (λ (e : same_object other object ≡ false). rw e (exact.counted other (rw e at owned)))
      (cases_Bool (same_object other object));
}

pub hand_out : HandOutIsExact
unfolding and_outside
hand_out forest outside hand key exact = record {
  counted = λ object owned.
      let was = exact.counted object owned in
      let held = in_hand-cons key hand object in
      omega arith;
}

pub hand_in : HandInIsExact
unfolding and_outside
hand_in forest outside hand key exact = record {
  counted = λ object owned.
      let was = exact.counted object owned in
      let held = in_hand-cons key hand object in
      omega arith;
}

-- a space after a change was one before it
pub spaces_back : (old new : Forest) (outside : Object → ℕ) (old_hand new_hand : List Key)
    → ((object : Object) → 1 ≤ outside object → NobodyNames old.keys object × (in_hand old_hand object ≡ 0))
    → Exact new outside new_hand → ((object : Object) → IsSome (new.owner object) → 1 ≤ new.count object)
    → ((object : Object) → IsSome (new.owner object) → 1 ≤ outside object → IsSome (old.owner object))
    → (space : ℕ) → IsSpace new new_hand space → IsSpace old old_hand space
spaces_back old new outside old_hand new_hand apart exact alive owners space is =
    let living = alive (NodeObject space) is.owned in
    let counted = exact.counted (NodeObject space) is.owned in
    let places = nobody_counted new (NodeObject space) is.unnamed in
    let hand = is.not_in_hand in
    let out : 1 ≤ outside (NodeObject space) = omega arith in
    let parts = apart (NodeObject space) out in
    record { owned = owners (NodeObject space) is.owned out; unnamed = parts.0; not_in_hand = parts.1 }
