-- Copying a key to a fresh root.
use Rattle.std.proofs.Common.{◌≡◌, ◌<◌, ◌≤◌, ◌/◌, ℕ, Option, Some, None, List, ◌∷◌, refl, ap, sym, ◌∙◌, arith, ⊎_elim}
use Rattle.std.specs.Option.{IsSome}
use Rattle.std.proofs.lemmas.Bool.{cases_lt}
use Rattle.kn_base.specs.declared.key.Key.{Key}
use Rattle.kn_base.specs.declared.key.Key.TheVariants.{Null}
use Rattle.unix_model.specs.Tables.{at}
use Rattle.forest.specs.Objects.{Object, NodeObject, named}
use Rattle.forest.specs.Walks.{place_of}
use Rattle.forest.specs.Forest.{Forest, Held, NobodyNames, in_hand}
use Rattle.forest.specs.Changes.{raised, counted_more, with_key, MayStand, BelongsAt}
use Rattle.forest.specs.Laws.{ShareKeepsHeld}
use Rattle.forest.proofs.ExactLaws.{in_hand-cons}
use Rattle.forest.proofs.OwnLaws.{owned_object}
use Rattle.forest.proofs.ReleaseLaws.{none_or_some, drop_null}
use Rattle.forest.proofs.HeldLaws.{raise_keeps_held, more_owner}
use Rattle.forest.proofs.WriteHeld.{write_keeps_held}

more_same_keys : (forest : Forest) (there : Option Object) → (counted_more forest there).keys ≡ forest.keys
more_same_keys forest None = refl
more_same_keys forest (Some object) = refl

-- what is known where a key is copied
record Sharing (forest : Forest) (outside : Object → ℕ) (hand : List Key) (from fresh digit : ℕ) : Type 0 where
  held : Held forest outside hand
  in_the_hand : 1 ≤ in_hand hand (NodeObject fresh)
  nobody : NobodyNames forest.keys (NodeObject fresh)
  same_owner : forest.owner (NodeObject fresh) ≡ forest.owner (NodeObject (from / 16))
  below : digit < 16
  empty : at forest.keys (place_of fresh digit) ≡ Null

module _ (forest : Forest) (outside : Object → ℕ) (hand : List Key) (from fresh digit : ℕ) (c : Sharing forest outside hand from fresh digit) where
  raised_held : Held (raised forest (at forest.keys from)) outside (at forest.keys from ∷ hand)
  raised_held = raise_keeps_held forest outside hand (at forest.keys from) c.held
      (λ object h. (
        owned_object forest c.held.sound from object h,
        ⊎_elim
            (λ (t : outside object < 1). let none : outside object ≡ 0 = omega arith in none)
            (λ (t : 1 ≤ outside object). absurd ((c.held.apart object t).0 from h))
            (cases_lt (outside object) 1),
      ))

  keys_same : (raised forest (at forest.keys from)).keys ≡ forest.keys
  keys_same = more_same_keys forest (named (at forest.keys from))

  owner_same : (raised forest (at forest.keys from)).owner ≡ forest.owner
  owner_same = more_owner forest (named (at forest.keys from))

  split : place_of fresh digit / 16 ≡ fresh
  split = let below = c.below in omega arith

  fresh_owned : IsSome (forest.owner (NodeObject fresh))
  fresh_owned = none_or_some (forest.owner (NodeObject fresh)) (λ none. let gone = c.held.gone (NodeObject fresh) none in let some = c.in_the_hand in omega arith)

  may : MayStand (raised forest (at forest.keys from)) (at forest.keys from ∷ hand) (place_of fresh digit) (at forest.keys from)
  may = record {
    node_owned = rw (split, owner_same) fresh_owned;
    low = c.held.sound.low from;
    fits = λ upper h. absurd (c.nobody upper (ap (λ keys. named (at keys upper)) (sym keys_same) ∙ h ∙ ap (λ n. Some (NodeObject n)) split));
    not_itself = λ h. c.nobody from (h ∙ ap (λ n. Some (NodeObject n)) split);
    root = λ is. absurd (
        let none = is.not_in_hand in
        let none_fresh : in_hand (at forest.keys from ∷ hand) (NodeObject fresh) ≡ 0 = rw split at none in
        let cons = in_hand-cons (at forest.keys from) hand (NodeObject fresh) in
        let some = c.in_the_hand in
        omega arith);
  }

  belongs : BelongsAt (raised forest (at forest.keys from)) (place_of fresh digit) (at forest.keys from)
  belongs = record {
    same_owner = λ object h.
        ap (λ owner. owner object) owner_same ∙ c.held.sound.owned from object h ∙ sym c.same_owner
        ∙ ap (λ n. forest.owner (NodeObject n)) (sym split) ∙ ap (λ owner. owner (NodeObject (place_of fresh digit / 16))) (sym owner_same);
    heights = λ d d_below. rw keys_same (c.held.sound.heights from d d_below);
  }

  written : Held (with_key (raised forest (at forest.keys from)) (place_of fresh digit) (at forest.keys from)) outside (Null ∷ hand)
  written =
      let null : at (raised forest (at forest.keys from)).keys (place_of fresh digit) ≡ Null = ap (λ keys. at keys (place_of fresh digit)) keys_same ∙ c.empty in
      rw null at (write_keeps_held (raised forest (at forest.keys from)) outside hand (place_of fresh digit) (at forest.keys from) raised_held may belongs)

pub share_keeps_held : ShareKeepsHeld
share_keeps_held forest outside hand from fresh digit held in_the_hand nobody same_owner below empty =
    let c : Sharing forest outside hand from fresh digit = record {
      held = held;
      in_the_hand = in_the_hand;
      nobody = nobody;
      same_owner = same_owner;
      below = below;
      empty = empty;
    } in
    drop_null (with_key (raised forest (at forest.keys from)) (place_of fresh digit) (at forest.keys from)) outside hand (written forest outside hand from fresh digit c)
