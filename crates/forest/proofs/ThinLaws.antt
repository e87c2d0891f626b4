-- What releases leave of keys and counts, and what makes no difference to what holds of a forest.
use Rattle.std.proofs.Common.{◌≡◌, ◌≢◌, ◌≤◌, ◌-◌, inl, inr, ℕ, true, false, Option, Some, None, List, ◌∷◌, refl, ap, sym, subst, ◌∙◌, arith, ⊎_elim}
use Rattle.std.specs.Option.{is_some}
use Rattle.std.proofs.lemmas.Bool.{cases_Bool, cases_eq}
use Rattle.kn_base.specs.declared.key.Key.{Key}
use Rattle.kn_base.specs.declared.key.Key.TheVariants.{Null}
use Rattle.unix_model.specs.Tables.{at, with_at}
use Rattle.unix_model.proofs.TableLaws.{at-with_at, at-with_at-other}
use Rattle.forest.specs.Objects.{Object, PageObject, NodeObject, Owner, same_object, with_object}
use Rattle.forest.specs.Walks.{place_of}
use Rattle.forest.specs.Forest.{Forest, Held, NobodyNames, in_hand}
use Rattle.forest.specs.Changes.{counted_more}
use Rattle.forest.specs.Release.{ReleaseStep, nothing as nothing_step, shared as shared_step, page as page_step, take_out as take_out_step, empty_node as empty_step, Release, done, more, Thins}
use Rattle.forest.specs.Laws.{ReleaseThins, ReleaseTrans, HeldOutside, HeldNothing}
use Rattle.forest.proofs.CountLaws.{same_object-true}
use Rattle.forest.proofs.HeldLaws.{raise_keeps_held}
use Rattle.forest.proofs.CopyLaws.{free_unnamed}

lower_at : (count : Object → ℕ) (object : Object) (x : ℕ) → x ≤ count object → (other : Object) → with_object count object x other ≤ count other
unfolding with_object
lower_at count object x less other = ⊎_elim
    (λ (t : same_object other object ≡ true). let is : other ≡ object = same_object-true other object t in rw t (subst (λ o. x ≤ count o) (sym is) less))
    (λ (t : same_object other object ≡ false). rw t (omega arith))
    (cases_Bool (same_object other object))

step_thins : {old new : Forest} {hand after : List Key} → ReleaseStep old hand new after → Thins old new
step_thins (nothing_step {forest} key none) = record { keys = λ place. inl refl; counts = λ object. omega arith }
step_thins (shared_step {forest} key object name two) = record { keys = λ place. inl refl; counts = lower_at forest.count object (forest.count object - 1) (omega arith) }
step_thins (page_step {forest} key number name one) = record { keys = λ place. inl refl; counts = lower_at forest.count (PageObject number) 0 (omega arith) }
step_thins (take_out_step {forest} key node digit name one below) = record {
  keys = λ place. ⊎_elim
      (λ (t : place ≡ place_of node digit). inr (ap (at (with_at forest.keys (place_of node digit) Null)) t ∙ at-with_at forest.keys (place_of node digit) Null))
      (λ (t : place ≢ place_of node digit). inl (at-with_at-other forest.keys (place_of node digit) place Null t))
      (cases_eq place (place_of node digit));
  counts = λ object. omega arith;
}
step_thins (empty_step {forest} key node name one nulls) = record { keys = λ place. inl refl; counts = lower_at forest.count (NodeObject node) 0 (omega arith) }

pub thins_trans : (a b c : Forest) → Thins a b → Thins b c → Thins a c
thins_trans a b c first second = record {
  keys = λ place. ⊎_elim
      (λ (t : at c.keys place ≡ at b.keys place). ⊎_elim
      (λ (u : at b.keys place ≡ at a.keys place). inl (t ∙ u))
      (λ (u : at b.keys place ≡ Null). inr (t ∙ u))
      (first.keys place))
      (λ (t : at c.keys place ≡ Null). inr t)
      (second.keys place);
  counts = λ object. let x = first.counts object in let y = second.counts object in omega arith;
}

thins : {old new : Forest} {hand after : List Key} → Release old hand new after → Thins old new
thins (done {forest}) = record { keys = λ place. inl refl; counts = λ object. omega arith }
thins (more {old} {next} {new} step rest) = thins_trans old next new (step_thins step) (thins rest)

pub release_thins : ReleaseThins
release_thins old new old_hand new_hand release = thins release

joined : {a b c : Forest} {p q r : List Key} → Release a p b q → Release b q c r → Release a p c r
joined done second = second
joined (more step rest) second = more step (joined rest second)

pub release_trans : ReleaseTrans
release_trans old next new old_hand next_hand new_hand first second = joined first second

pub held_outside : HeldOutside
held_outside forest outside other hand same held = record {
  counts = record {
    sound = held.sound;
    exact = record { counted = λ object owned. let e = held.exact.counted object owned in let s = same object owned in omega arith };
    alive = held.alive;
    gone = held.gone;
    apart = λ object out. go object (forest.owner object) refl out;
  };
  rooted = held.rooted;
}
  where
    go : (object : Object) (owner : Option Owner) → forest.owner object ≡ owner → 1 ≤ other object → NobodyNames forest.keys object × (in_hand hand object ≡ 0)
    go object None e out = (free_unnamed forest held.sound object e, held.gone object e)
    go object (Some owner) e out = held.apart object (let s = same object (ap is_some e) in omega arith)

pub held_nothing : HeldNothing
held_nothing forest outside hand key none held =
    subst (λ f. Held f outside (key ∷ hand)) (ap (counted_more forest) none)
    (raise_keeps_held forest outside hand key held (λ object h. let no : None ≡ Some object = sym none ∙ h in cc))
