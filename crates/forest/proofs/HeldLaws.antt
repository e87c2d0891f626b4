-- All that holds of a forest goes on to hold while objects are taken, and counts and keys change.
use Rattle.std.proofs.Common.{◌≡◌, ◌≢◌, ◌<◌, ◌/◌, ℕ, true, false, Option, Some, None, List, ◌∷◌, refl, ap, sym, ◌∙◌, arith, ⊎_elim}
use Rattle.std.specs.Option.{is_some, IsSome}
use Rattle.std.proofs.lemmas.Bool.{cases_Bool}
use Rattle.kn_base.specs.declared.key.Key.{Key}
use Rattle.forest.specs.Objects.{Object, NodeObject, Owner, named, names, same_object, with_object}
use Rattle.forest.specs.Forest.{Forest, Sound, IsRoot, NobodyNames, in_hand, Counted}
use Rattle.forest.specs.Changes.{raised, counted_more, with_taken, and_outside, IsFree}
use Rattle.forest.specs.Laws.{TakeKeepsHeld, RaiseKeepsHeld, HandOutKeepsHeld, HandInKeepsHeld}
use Rattle.forest.proofs.CountLaws.{same_object-true}
use Rattle.forest.proofs.OwnLaws.{owned_node}
use Rattle.forest.proofs.ExactLaws.{bit, not_named, raise, take, hand_out, hand_in, count-more, with_object-here, spaces_back}
use Rattle.forest.proofs.CopyLaws.{free_unnamed}
use Rattle.forest.proofs.ReleaseLaws.{some_not_none, is_or_not, no_name, last_key, tail_hand}

pub other_object : {X : Type 0} (table : Object → X) (object : Object) (x : X) (other : Object) → other ≢ object → with_object table object x other ≡ table other
unfolding with_object
other_object table object x other differs = ⊎_elim
    (λ (t : same_object other object ≡ true). absurd (differs (same_object-true other object t)))
    (λ (t : same_object other object ≡ false). rw t refl)
    (cases_Bool (same_object other object))

pub not_key : (key : Key) (object other : Object) → named key ≡ Some object → other ≢ object → names other key ≡ false
not_key key object other e differs = not_named key other (λ h.
    let same : Some other ≡ Some object = sym h ∙ e in differs (let is : other ≡ object = cc in is))

take_counted : (forest : Forest) (outside : Object → ℕ) (hand : List Key) (key : Key) (object : Object) (owner : Owner)
    → Counted forest outside hand → named key ≡ Some object → IsFree forest outside hand object
    → ((node : ℕ) → NodeObject node ≡ object → node < forest.nodes)
    → Counted (with_taken forest object owner) outside (key ∷ hand)
take_counted forest outside hand key object owner held e free within =
    let nobody = free_unnamed forest held.sound object free.unowned in
    record {
      sound = record {
        within = λ node some. ⊎_elim
            (λ (t : NodeObject node ≡ object). within node t)
            (λ (t : NodeObject node ≢ object). held.sound.within node (ap is_some (sym (other_object forest.owner object (Some owner) (NodeObject node) t)) ∙ some))
            (is_or_not (NodeObject node) object);
        masked = λ place none. ⊎_elim
            (λ (t : NodeObject (place / 16) ≡ object). absurd (
            let contra : Some owner ≡ None = sym (with_object-here forest.owner object (Some owner)) ∙ ap (with_object forest.owner object (Some owner)) (sym t) ∙ none in cc))
            (λ (t : NodeObject (place / 16) ≢ object). held.sound.masked place (sym (other_object forest.owner object (Some owner) (NodeObject (place / 16)) t) ∙ none))
            (is_or_not (NodeObject (place / 16)) object);
        owned = λ place other h.
            other_object forest.owner object (Some owner) other (λ t. nobody place (h ∙ ap Some t))
            ∙ held.sound.owned place other h
            ∙ sym (other_object forest.owner object (Some owner) (NodeObject (place / 16)) (λ t.
            some_not_none (forest.owner (NodeObject (place / 16))) (owned_node forest held.sound place other h) (ap forest.owner t ∙ free.unowned)));
        heights = held.sound.heights;
        low = held.sound.low;
      };
      exact = take forest outside hand key object owner e nobody free.none_outside free.none_in_hand held.exact;
      alive = λ other some. ⊎_elim
          (λ (t : other ≡ object). let one : with_object forest.count object 1 other ≡ 1 = ap (with_object forest.count object 1) t ∙ with_object-here forest.count object 1 in omega arith)
          (λ (t : other ≢ object). rw (other_object forest.count object 1 other t) (held.alive other (ap is_some (sym (other_object forest.owner object (Some owner) other t)) ∙ some)))
          (is_or_not other object);
      gone = λ other none. ⊎_elim
          (λ (t : other ≡ object). absurd (
          let contra : Some owner ≡ None = sym (with_object-here forest.owner object (Some owner)) ∙ ap (with_object forest.owner object (Some owner)) (sym t) ∙ none in cc))
          (λ (t : other ≢ object). no_name key hand other (not_key key object other e t) ∙ held.gone other (sym (other_object forest.owner object (Some owner) other t) ∙ none))
          (is_or_not other object);
      apart = λ other out.
          let a = held.apart other out in (
            a.0,
            no_name key hand other (not_key key object other e (λ t.
                let none : outside other ≡ 0 = ap outside t ∙ free.none_outside in omega arith)) ∙ a.1,
          );
    }

pub take_keeps_held : TakeKeepsHeld
take_keeps_held forest outside hand key object owner held e free within =
    let now = take_counted forest outside hand key object owner held.counts e free within in
    record {
      counts = now;
      rooted = λ space is. held.rooted space (spaces_back forest (with_taken forest object owner) outside hand (key ∷ hand) held.apart now.exact now.alive
          (λ other some out. ap is_some (sym (other_object forest.owner object (Some owner) other (λ t.
          let none : outside other ≡ 0 = ap outside t ∙ free.none_outside in omega arith))) ∙ some) space is);
    }

-- a key that is in hand in addition
more_hand : (key : Key) (hand : List Key) (object : Object) → (named key ≡ Some object → ⊥) → in_hand hand object ≡ 0 → in_hand (key ∷ hand) object ≡ 0
more_hand key hand object differs none = no_name key hand object (not_named key object differs) ∙ none

pub more_owner : (forest : Forest) (there : Option Object) → (counted_more forest there).owner ≡ forest.owner
more_owner forest None = refl
more_owner forest (Some object) = refl

more_keys : (forest : Forest) (there : Option Object) → Sound forest → Sound (counted_more forest there)
more_keys forest None sound = sound
more_keys forest (Some object) sound = record { within = sound.within; masked = sound.masked; owned = sound.owned; heights = sound.heights; low = sound.low }

more_nobody : (forest : Forest) (there : Option Object) (object : Object) → NobodyNames forest.keys object → NobodyNames (counted_more forest there).keys object
more_nobody forest None object nobody = nobody
more_nobody forest (Some other) object nobody = nobody

raise_counted : (forest : Forest) (outside : Object → ℕ) (hand : List Key) (key : Key) → Counted forest outside hand
    → ((object : Object) → named key ≡ Some object → IsSome (forest.owner object) × (outside object ≡ 0))
    → Counted (raised forest key) outside (key ∷ hand)
raise_counted forest outside hand key held owned =
    record {
      sound = more_keys forest (named key) held.sound;
      exact = raise forest outside hand key held.exact;
      alive = λ object some.
          let was = held.alive object (ap (λ o. is_some (o object)) (sym (more_owner forest (named key))) ∙ some) in
          let count = count-more forest (named key) object in
          omega arith;
      gone = λ object none.
          let was : forest.owner object ≡ None = ap (λ o. o object) (sym (more_owner forest (named key))) ∙ none in
          more_hand key hand object (λ h. some_not_none (forest.owner object) (owned object h).0 was) (held.gone object was);
      apart = λ object out.
          let a = held.apart object out in
          (more_nobody forest (named key) object a.0, more_hand key hand object (λ h. let none = (owned object h).1 in omega arith) a.1);
    }

more_root : (forest : Forest) (there : Option Object) (space : ℕ) → IsRoot forest.keys space → IsRoot (counted_more forest there).keys space
more_root forest None space root = root
more_root forest (Some object) space root = root

pub raise_keeps_held : RaiseKeepsHeld
raise_keeps_held forest outside hand key held owned =
    let now = raise_counted forest outside hand key held.counts owned in
    record {
      counts = now;
      rooted = λ space is. more_root forest (named key) space (held.rooted space (spaces_back forest (raised forest key) outside hand (key ∷ hand) held.apart now.exact now.alive
          (λ object some out. ap (λ o. is_some (o object)) (sym (more_owner forest (named key))) ∙ some) space is));
    }

hand_out_counted : (forest : Forest) (outside : Object → ℕ) (hand : List Key) (key : Key) (object : Object) → Counted forest outside (key ∷ hand)
    → named key ≡ Some object → forest.count object ≡ 1 → Counted forest (and_outside outside key) hand
unfolding and_outside
hand_out_counted forest outside hand key object held e once =
    let last = last_key forest outside key hand held object e once in
    record {
      sound = held.sound;
      exact = hand_out forest outside hand key held.exact;
      alive = held.alive;
      gone = λ other none. tail_hand key hand other (held.gone other none);
      apart = λ other out. ⊎_elim
          (λ (t : other ≡ object). rw t (last.nobody, last.none_in_hand))
          (λ (t : other ≢ object).
          let zero_more : bit (names other key) ≡ 0 = ap bit (not_key key object other e t) in
          let a = held.apart other (omega arith) in
          (a.0, tail_hand key hand other a.1))
          (is_or_not other object);
    }

pub hand_out_keeps_held : HandOutKeepsHeld
hand_out_keeps_held forest outside hand key object held e once root = record {
  counts = hand_out_counted forest outside hand key object held.counts e once;
  rooted = λ space is. ⊎_elim
      (λ (t : NodeObject space ≡ object). root space t)
      (λ (t : NodeObject space ≢ object). held.rooted space (record {
        owned = is.owned;
        unnamed = is.unnamed;
        not_in_hand = no_name key hand (NodeObject space) (not_key key object (NodeObject space) e t) ∙ is.not_in_hand;
      }))
      (is_or_not (NodeObject space) object);
}

hand_in_counted : (forest : Forest) (outside : Object → ℕ) (hand : List Key) (key : Key) (object : Object) → Counted forest (and_outside outside key) hand
    → named key ≡ Some object → outside object ≡ 0 → IsSome (forest.owner object) → Counted forest outside (key ∷ hand)
unfolding and_outside
hand_in_counted forest outside hand key object held e none owned =
    record {
      sound = held.sound;
      exact = hand_in forest outside hand key held.exact;
      alive = held.alive;
      gone = λ other gone. more_hand key hand other
          (λ h. let is : Some other ≡ Some object = sym h ∙ e in
          some_not_none (forest.owner object) owned (ap forest.owner (let same : object ≡ other = cc in same) ∙ gone))
          (held.gone other gone);
      apart = λ other out.
          let a = held.apart other (omega arith) in (
            a.0,
            more_hand key hand other
                (λ h. let is : Some other ≡ Some object = sym h ∙ e in
                let zero_out : outside other ≡ 0 = ap outside (let same : other ≡ object = cc in same) ∙ none in omega arith) a.1,
          );
    }

pub hand_in_keeps_held : HandInKeepsHeld
hand_in_keeps_held forest outside hand key object held e none owned = record {
  counts = hand_in_counted forest outside hand key object held.counts e none owned;
  rooted = λ space is. held.rooted space (record {
    owned = is.owned;
    unnamed = is.unnamed;
    not_in_hand = tail_hand key hand (NodeObject space) is.not_in_hand;
  });
}
