-- What is reached on one way alone is counted once, and so is all above it on the way.
use Rattle.std.proofs.Common.{◌≡◌, ◌≢◌, ◌<◌, ◌≤◌, ◌+◌, ◌*◌, ◌/◌, if◌then◌else◌, ◌==◌, ◌%◌, ℕ, zero, suc, Bool, true, false, Option, Some, None, List, [], ◌∷◌, length, refl, ap, sym, subst, ◌∙◌, arith, ⊎_elim}
use Rattle.std.specs.Option.{IsSome}
use Rattle.std.proofs.lemmas.Bool.{cases_Bool, cases_lt, cases_eq}
use Rattle.unix_model.specs.Tables.{at, count_below}
use Rattle.forest.specs.Objects.{Object, PageObject, NodeObject, named, names}
use Rattle.forest.specs.Walks.{place_of, key_along, space_key, IsWay, page_way, Mapping, mapping_of, map_of, key_at_page}
use Rattle.forest.specs.Forest.{Forest, Held, IsSpace, EndsAt, OwnWay, namings}
use Rattle.forest.specs.Labels.{page_number}
use Rattle.forest.specs.Calls.{IsOwn}
use Rattle.forest.specs.Laws.{OwnHasOwnWay}
use Rattle.forest.proofs.CountLaws.{names-true}
use Rattle.forest.proofs.WalkLaws.{step, Step}
use Rattle.forest.proofs.OwnLaws.{owned_node, owned_object, way_of_page, found_at, mapped_named}
use Rattle.forest.proofs.MapLaws.{node_key}
use Rattle.forest.proofs.CopyLaws.{counted_once}
use Rattle.forest.proofs.ReachLaws.{witness, Reached, named_somewhere, root_reached, reached_from, nothing_in_hand, way_height, nonempty_top, number_of, five_digits, way_is_page, page_key, map_inside}

-- another number that the test holds of
record Another (test : ℕ → Bool) (n p : ℕ) : Type 0 where
  number : ℕ
  holds : test number ≡ true
  apart : number ≢ p

another : (test : ℕ → Bool) (n p : ℕ) → 2 ≤ count_below test n → Another test n p
unfolding count_below
another test zero p h = absurd (omega arith)
another test (suc n) p h = ⊎_elim
    (λ (t : test n ≡ true).
    let less : 1 ≤ count_below test n = (let e : 2 ≤ count_below test n + 1 = rw t at h in omega arith) in
    let w = witness test n less in
    let small = w.below in
    ⊎_elim
    (λ (same : n ≡ p). record { number = w.number; holds = w.holds; apart = λ e. absurd (omega arith) })
    (λ (other : n ≢ p). record { number = n; holds = t; apart = other })
    (cases_eq n p))
    (λ (t : test n ≡ false).
    let less : 2 ≤ count_below test n = (let e : 2 ≤ count_below test n + 0 = rw t at h in omega arith) in
    let a = another test n p less in
    record { number = a.number; holds = a.holds; apart = a.apart })
    (cases_Bool (test n))

-- an object that one space alone reaches, on one way alone
record ReachedAlone (forest : Forest) (space : ℕ) (way : List ℕ) (object : Object) : Type 0 where
  ends : EndsAt forest.keys space way object
  only : (other : ℕ) (other_way : List ℕ) → IsSpace forest [] other → IsWay other_way → EndsAt forest.keys other other_way object
      → (other ≡ space) × (other_way ≡ way)

module _ (forest : Forest) (outside : Object → ℕ) (held : Held forest outside []) (space : ℕ) where
  -- so is the node above it
  alone_above : (digit : ℕ) (way : List ℕ) (object : Object) → digit < 16 → ReachedAlone forest space (digit ∷ way) object
      → (s : Step forest.keys (key_along forest.keys (space_key space) way) digit object) → ReachedAlone forest space way (NodeObject s.node)
  alone_above digit way object below r s = record {
    ends = s.upper_names;
    only = λ other other_way is w ends.
        let there : EndsAt forest.keys other (digit ∷ other_way) object =
        ap named ((node_key forest.keys (key_along forest.keys (space_key other) other_way) s.node ends).below digit) ∙ s.here in
        let same = r.only other (digit ∷ other_way) is (below, w) there in
        (same.0, let e = same.1 in cc);
  }

  node_reached : (node : ℕ) → IsSome (forest.owner (NodeObject node)) → Reached forest (NodeObject node)
  node_reached node owned = reached_from forest held.sound (NodeObject node) (named_somewhere forest held.sound (NodeObject node)) (root_reached forest node owned)

  -- it is counted once: another place that names it would be reached too
  no_other_place : (digit : ℕ) (way : List ℕ) (object : Object) → ReachedAlone forest space (digit ∷ way) object → digit < 16
      → (place : ℕ) → named (at forest.keys place) ≡ Some object
      → (s : Step forest.keys (key_along forest.keys (space_key space) way) digit object) → place ≡ place_of s.node digit
  no_other_place digit way object r below place h s =
      let up = node_reached (place / 16) (owned_node forest held.sound place object h) in
      let split : place_of (place / 16) (place % 16) ≡ place = omega arith in
      let down : EndsAt forest.keys up.space (place % 16 ∷ up.way) object =
      ap named ((node_key forest.keys (key_along forest.keys (space_key up.space) up.way) (place / 16) up.ends).below (place % 16) ∙ ap (at forest.keys) split) ∙ h in
      let same = r.only up.space (place % 16 ∷ up.way) up.is_space (omega arith, up.is_way) down in
      let e0 = same.0 in
      let e1 = same.1 in
      let head : place % 16 ≡ digit = cc in
      let tail : up.way ≡ way = cc in
      let ends : named (key_along forest.keys (space_key space) way) ≡ Some (NodeObject (place / 16)) =
      subst (λ (n : ℕ). named (key_along forest.keys (space_key n) way) ≡ Some (NodeObject (place / 16))) e0
      (subst (λ (w : List ℕ). named (key_along forest.keys (space_key up.space) w) ≡ Some (NodeObject (place / 16))) tail up.ends) in
      let both : Some (NodeObject (place / 16)) ≡ Some (NodeObject s.node) = sym ends ∙ s.upper_names in
      let node : place / 16 ≡ s.node = cc in
      omega arith

  counted_here : (digit : ℕ) (way : List ℕ) (object : Object) → digit < 16 → ReachedAlone forest space (digit ∷ way) object → forest.count object ≡ 1
  unfolding namings
  counted_here digit way object below r =
      let s = step forest.keys (key_along forest.keys (space_key space) way) digit object r.ends in
      let owned = owned_object forest held.sound (place_of s.node digit) object s.here in
      let counted = held.exact.counted object owned in
      let alive = held.alive object owned in
      let hand = nothing_in_hand object in
      ⊎_elim
      (λ (none : outside object < 1).
      ⊎_elim
      (λ (few : namings forest object < 2). omega arith)
      (λ (many : 2 ≤ namings forest object).
      let a = another (λ place. names object (at forest.keys place)) (16 * forest.nodes) (place_of s.node digit) many in
      absurd (a.apart (no_other_place digit way object r below a.number (names-true object (at forest.keys a.number) a.holds) s)))
      (cases_lt (namings forest object) 2))
      (λ (some : 1 ≤ outside object). absurd ((held.apart object some).0 (place_of s.node digit) s.here))
      (cases_lt (outside object) 1)

  own_above : (way : List ℕ) (object : Object) → IsWay way → ReachedAlone forest space way object → OwnWay forest space way
  own_above [] object w r = tt
  own_above (digit ∷ way) object w r =
      let s = step forest.keys (key_along forest.keys (space_key space) way) digit object r.ends in (
        counted_once forest (key_along forest.keys (space_key space) (digit ∷ way)) object r.ends (counted_here digit way object w.0 r),
        own_above way (NodeObject s.node) w.1 (alone_above digit way object w.0 r s),
      )

-- the page that a mapping is of
page_of : (mapping : Option Mapping) (page : ℕ) → page_number mapping ≡ Some page → (found : Mapping) × (mapping ≡ Some found) × (found.page ≡ page)
page_of None page h = cc
page_of (Some found) page h = (found, refl, go (found.page == 0) h)
  where
    go : (none : Bool) → (if none then None else Some found.page) ≡ Some page → found.page ≡ page
    go true e = cc
    go false e = cc

page_alone : (forest : Forest) (outside : Object → ℕ) (space page : ℕ) (found : Mapping) → Held forest outside [] → IsOwn forest space page found
    → ReachedAlone forest space (page_way page) (PageObject found.page)
page_alone forest outside space page found held own =
    let f = found_at forest.keys space page found own.mapped in record {
      ends = mapped_named (key_at_page forest.keys space page) found f.maps own.real;
      only = λ other way is w ends.
          let k = page_key (key_along forest.keys (space_key other) way) found.page ends in
          let height = way_height forest [] held.sound held.rooted other is way w (PageObject found.page) ends in
          let low = k.0 in
          let five : length way ≡ 5 = omega arith in
          let top = nonempty_top forest [] held.rooted other is way w five (PageObject found.page) ends in
          let below = five_digits way w five top in
          let number = way_is_page way w five in
          let there = page_of (mapping_of (key_along forest.keys (space_key other) way)) found.page k.1 in
          let mapped : map_of forest.keys other (number_of way) ≡ Some there.0 =
          map_inside forest.keys other (number_of way) below ∙ ap (λ v. mapping_of (key_along forest.keys (space_key other) v)) number ∙ there.1 in
          let same = own.alone other (number_of way) there.0 is mapped there.2 in
          (same.0, sym number ∙ ap page_way same.1);
    }

pub own_has_own_way : OwnHasOwnWay
own_has_own_way forest outside space page found held is_space own =
    own_above forest outside held space (page_way page) (PageObject found.page) (way_of_page page) (page_alone forest outside space page found held own)
