-- A key that is written where it may stand.
use Rattle.std.proofs.Common.{◌≡◌, ◌≢◌, ◌<◌, ◌≤◌, ◌/◌, ◌%◌, ℕ, Some, None, List, ◌∷◌, ap, sym, ◌∙◌, arith, ⊎_elim}
use Rattle.std.proofs.lemmas.Bool.{cases_eq}
use Rattle.kn_base.specs.declared.key.Key.{Key}
use Rattle.kn_base.specs.declared.key.Key.TheVariants.{Null, Segment}
use Rattle.unix_model.specs.Tables.{at, with_at}
use Rattle.unix_model.proofs.TableLaws.{at-with_at, at-with_at-other}
use Rattle.forest.specs.Objects.{Object, NodeObject, named}
use Rattle.forest.specs.Walks.{place_of, key_below}
use Rattle.forest.specs.Forest.{Forest, Sound, IsRoot, NobodyNames, FitsBelow, FitsUnder, key_height, in_hand, Counted}
use Rattle.forest.specs.Changes.{with_key, MayStand, BelongsAt}
use Rattle.forest.specs.Laws.{WriteKeepsHeld}
use Rattle.forest.proofs.OwnLaws.{owned_object}
use Rattle.forest.proofs.ExactLaws.{not_named, write}
use Rattle.forest.proofs.ReleaseLaws.{some_not_none, no_name, front, tail_hand}
use Rattle.forest.proofs.ExactLaws.{spaces_back}

-- what stands at a place after a key was written
data Written (keys : ℕ → Key) (place : ℕ) (key : Key) (p : ℕ) : Type 0 where
  here : p ≡ place → at (with_at keys place key) p ≡ key → Written keys place key p
  elsewhere : p ≢ place → at (with_at keys place key) p ≡ at keys p → Written keys place key p

written : (keys : ℕ → Key) (place : ℕ) (key : Key) (p : ℕ) → Written keys place key p
written keys place key p = ⊎_elim
    (λ (t : p ≡ place). here t (ap (at (with_at keys place key)) t ∙ at-with_at keys place key))
    (λ (t : p ≢ place). elsewhere t (at-with_at-other keys place p key t))
    (cases_eq p place)

-- below a key of which both the old key and the written one may stand below
fits_written : (keys : ℕ → Key) (place : ℕ) (key upper : Key) (digit : ℕ) → digit < 16
    → (named upper ≡ Some (NodeObject (place / 16)) → FitsBelow upper key)
    → FitsBelow upper (key_below keys upper digit) → FitsBelow upper (key_below (with_at keys place key) upper digit)
fits_written keys place key (Segment node height) digit below written_fits fits = ⊎_elim
    (λ (t : place_of node.0 digit ≡ place).
    let is : node.0 ≡ place / 16 = omega arith in
    rw (t, at-with_at keys place key) (written_fits (ap (λ n. Some (NodeObject n)) is)))
    (λ (t : place_of node.0 digit ≢ place). rw (at-with_at-other keys place (place_of node.0 digit) key t) fits)
    (cases_eq (place_of node.0 digit) place)
fits_written keys place key _ digit below written_fits fits = tt

write_sound : (forest : Forest) (hand : List Key) (place : ℕ) (key : Key) → Sound forest → MayStand forest hand place key → BelongsAt forest place key
    → Sound (with_key forest place key)
write_sound forest hand place key sound may belongs = record {
  within = sound.within;
  masked = λ p none. masked_at p none (written forest.keys place key p);
  owned = λ p object h. owned_at p object h (written forest.keys place key p);
  heights = λ p digit below. heights_at p digit below (written forest.keys place key p);
  low = λ p. low_at p (written forest.keys place key p);
}
  where
    masked_at : (p : ℕ) → forest.owner (NodeObject (p / 16)) ≡ None → Written forest.keys place key p → at (with_at forest.keys place key) p ≡ Null
    masked_at p none (here t e) = absurd (some_not_none (forest.owner (NodeObject (place / 16))) may.node_owned (ap (λ q. forest.owner (NodeObject (q / 16))) (sym t) ∙ none))
    masked_at p none (elsewhere t e) = e ∙ sound.masked p none

    owned_at : (p : ℕ) (object : Object) → named (at (with_at forest.keys place key) p) ≡ Some object → Written forest.keys place key p
        → forest.owner object ≡ forest.owner (NodeObject (p / 16))
    owned_at p object h (here t e) = belongs.same_owner object (ap named (sym e) ∙ h) ∙ ap (λ q. forest.owner (NodeObject (q / 16))) (sym t)
    owned_at p object h (elsewhere t e) = sound.owned p object (ap named (sym e) ∙ h)

    heights_at : (p digit : ℕ) → digit < 16 → Written forest.keys place key p
        → FitsBelow (at (with_at forest.keys place key) p) (key_below (with_at forest.keys place key) (at (with_at forest.keys place key) p) digit)
    heights_at p digit below (here t e) = rw e (fits_written forest.keys place key key digit below (λ h. absurd (may.not_itself h)) (belongs.heights digit below))
    heights_at p digit below (elsewhere t e) = rw e (fits_written forest.keys place key (at forest.keys p) digit below (may.fits p) (sound.heights p digit below))

    low_at : (p : ℕ) → Written forest.keys place key p → key_height (at (with_at forest.keys place key) p) < 5
    low_at p (here t e) = rw e may.low
    low_at p (elsewhere t e) = rw e (sound.low p)

write_counted : (forest : Forest) (outside : Object → ℕ) (hand : List Key) (place : ℕ) (key : Key)
    → Counted forest outside (key ∷ hand) → MayStand forest (key ∷ hand) place key → BelongsAt forest place key
    → Counted (with_key forest place key) outside (at forest.keys place ∷ hand)
write_counted forest outside hand place key held may belongs =
    let inside = held.sound.within (place / 16) may.node_owned in
    record {
      sound = write_sound forest (key ∷ hand) place key held.sound may belongs;
      exact = write forest outside hand place key (omega arith) held.exact;
      alive = held.alive;
      gone = λ object none.
          no_name (at forest.keys place) hand object (not_named (at forest.keys place) object
          (λ h. some_not_none (forest.owner object) (owned_object forest held.sound place object h) none))
          ∙ tail_hand key hand object (held.gone object none);
      apart = λ object out.
          let a = held.apart object out in (
            λ p h. nobody_at object a.0 a.1 p h (written forest.keys place key p),
            no_name (at forest.keys place) hand object (not_named (at forest.keys place) object (a.0 place)) ∙ tail_hand key hand object a.1,
          );
    }
  where
    nobody_at : (object : Object) → NobodyNames forest.keys object → in_hand (key ∷ hand) object ≡ 0 → (p : ℕ)
        → named (at (with_at forest.keys place key) p) ≡ Some object → Written forest.keys place key p → ⊥
    nobody_at object nobody none p h (here t e) = let some = front key hand object (ap named (sym e) ∙ h) in omega arith
    nobody_at object nobody none p h (elsewhere t e) = nobody p (ap named (sym e) ∙ h)

-- a root stays one
pub written_root : (keys : ℕ → Key) (place : ℕ) (key : Key) (space : ℕ) → IsRoot keys space
    → (place / 16 ≡ space → (place % 16 < 8) × FitsUnder 5 key) → IsRoot (with_at keys place key) space
written_root keys place key space root fits = record {
  parts = λ digit small. parts_at digit small (written keys place key (place_of space digit));
  unused = λ digit large small. unused_at digit large small (written keys place key (place_of space digit));
  keeper = keeper_at (written keys place key (place_of space 15));
}
  where
    parts_at : (digit : ℕ) → digit < 8 → Written keys place key (place_of space digit) → FitsUnder 5 (at (with_at keys place key) (place_of space digit))
    parts_at digit small (here t e) = rw e (fits (omega arith)).1
    parts_at digit small (elsewhere t e) = rw e (root.parts digit small)

    unused_at : (digit : ℕ) → 8 ≤ digit → digit < 15 → Written keys place key (place_of space digit) → at (with_at keys place key) (place_of space digit) ≡ Null
    unused_at digit large small (here t e) = absurd (let low = (fits (omega arith)).0 in omega arith)
    unused_at digit large small (elsewhere t e) = e ∙ root.unused digit large small

    keeper_at : Written keys place key (place_of space 15) → named (at (with_at keys place key) (place_of space 15)) ≡ None
    keeper_at (here t e) = absurd (let low = (fits (omega arith)).0 in omega arith)
    keeper_at (elsewhere t e) = ap named e ∙ root.keeper

pub write_keeps_held : WriteKeepsHeld
write_keeps_held forest outside hand place key held may belongs =
    let now = write_counted forest outside hand place key held.counts may belongs in
    record {
      counts = now;
      rooted = λ space is.
          let was = spaces_back forest (with_key forest place key) outside (key ∷ hand) (at forest.keys place ∷ hand) held.apart now.exact now.alive (λ object some out. some) space is in
          written_root forest.keys place key space (held.rooted space was) (λ t. may.root (rw t was));
    }
