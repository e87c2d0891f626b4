-- A node that is copied, or put where none stood: counts stay exact, and heights and owners fit.
use Rattle.std.proofs.Common.{◌≡◌, ◌≢◌, ◌<◌, ◌≤◌, ◌+◌, ◌-◌, ◌*◌, ◌/◌, ◌%◌, ℕ, zero, suc, Bool, true, false, Some, None, List, refl, ap, sym, ◌∙◌, arith, ⊎_elim, ◌⊎◌, inl, inr}
use Rattle.std.specs.Option.{is_some, IsSome}
use Rattle.std.proofs.lemmas.Bool.{cases_Bool, cases_eq, cases_lt}
use Rattle.kn_base.specs.declared.key.Key.{Key}
use Rattle.kn_base.specs.declared.key.Key.TheVariants.{Null, Segment}
use Rattle.unix_model.specs.Tables.{at, count_below, sum_below}
use Rattle.unix_model.proofs.TableLaws.{at-with_at, at-with_at-other}
use Rattle.forest.specs.Objects.{Object, NodeObject, Owner, named, names}
use Rattle.forest.specs.Walks.{place_of, key_below}
use Rattle.forest.specs.Forest.{Forest, Sound, Exact, IsSpace, IsRoot, NobodyNames, FitsBelow, FitsUnder, key_height, in_hand, namings, Counted, Held}
use Rattle.forest.specs.Changes.{filled, with_fresh, with_copy, copied_count, IsFree, MayStand}
use Rattle.forest.specs.Laws.{CopyKeepsHeld}
use Rattle.forest.proofs.CountLaws.{same_object-same, names-true, counted_one}
use Rattle.forest.proofs.WalkLaws.{step}
use Rattle.forest.proofs.OwnLaws.{owned_object}
use Rattle.forest.proofs.ExactLaws.{bit, not_named, nobody_counted, with_object-here}
use Rattle.forest.proofs.CopyLaws.{free_unnamed, none_below}
use Rattle.forest.proofs.ReleaseLaws.{some_not_none, is_or_not}
use Rattle.forest.proofs.ExactLaws.{count_same, namings-written, spaces_back}
use Rattle.forest.proofs.MapLaws.{at-filled, at-filled-other}
use Rattle.forest.proofs.MappedLaws.{count_blocks, sum_same}
use Rattle.forest.proofs.HeldLaws.{other_object}

sum_changed : (f g : ℕ → ℕ) (n p : ℕ) → p < n → ((q : ℕ) → q ≢ p → f q ≡ g q) → sum_below f n + g p ≡ sum_below g n + f p
unfolding sum_below
sum_changed f g zero p less h = omega arith
sum_changed f g (suc n) p less h = ⊎_elim
    (λ (b : p < n).
    let e = sum_changed f g n p b h in
    let here : f n ≡ g n = h n (omega arith) in
    rw here (omega arith))
    (λ (b : n ≤ p).
    let at_p : p ≡ n = omega arith in
    let e = sum_same f g n (λ q below. h q (omega arith)) in
    rw (at_p, e) (omega arith))
    (cases_lt p n)

-- a table of which the keys of one node have changed
node_changed : (f g : ℕ → Bool) (nodes node : ℕ) → node < nodes → ((p : ℕ) → p / 16 ≢ node → f p ≡ g p)
    → count_below f (16 * nodes) + count_below (λ d. g (16 * node + d)) 16 ≡ count_below g (16 * nodes) + count_below (λ d. f (16 * node + d)) 16
node_changed f g nodes node within same =
    let order : 16 * nodes ≡ nodes * 16 = omega arith in
    let place : node * 16 ≡ 16 * node = omega arith in
    let changed = sum_changed (λ m. count_below (λ d. f (m * 16 + d)) 16) (λ m. count_below (λ d. g (m * 16 + d)) 16) nodes node within
    (λ m apart. count_same (λ d. f (m * 16 + d)) (λ d. g (m * 16 + d)) 16 (λ d below. same (m * 16 + d) (λ e. apart (omega arith)))) in
    rw (order, count_blocks f 16 nodes, count_blocks g 16 nodes, ← place) changed

namings-filled : (forest : Forest) (content : ℕ → Key) (node : ℕ) (object : Object) → node < forest.nodes
    → ((digit : ℕ) → digit < 16 → named (at forest.keys (place_of node digit)) ≢ Some object)
    → namings (record forest { keys = filled forest.keys node content }) object ≡ namings forest object + count_below (λ digit. names object (content digit)) 16
unfolding namings
namings-filled forest content node object within none =
    let changed = node_changed (λ p. names object (at (filled forest.keys node content) p)) (λ p. names object (at forest.keys p)) forest.nodes node within
    (λ p apart. ap (names object) (at-filled-other forest.keys content node p apart)) in
    let before : count_below (λ d. names object (at forest.keys (16 * node + d))) 16 ≡ 0 =
    none_below (λ d. names object (at forest.keys (16 * node + d))) 16 (λ d below. not_named (at forest.keys (place_of node d)) object (none d below)) in
    let after : count_below (λ d. names object (at (filled forest.keys node content) (16 * node + d))) 16 ≡ count_below (λ digit. names object (content digit)) 16 =
    count_same (λ d. names object (at (filled forest.keys node content) (16 * node + d))) (λ digit. names object (content digit)) 16
    (λ d below. ap (names object) (at-filled forest.keys content node d below)) in
    omega arith

-- what is known where a node is copied
record CopyHere (forest : Forest) (outside : Object → ℕ) (hand : List Key) (place fresh height : ℕ) (owner : Owner) : Type 0 where
  held : Held forest outside hand
  free : IsFree forest outside hand (NodeObject fresh)
  within : fresh < forest.nodes
  node_owner : forest.owner (NodeObject (place / 16)) ≡ Some owner
  may : MayStand forest hand place (Segment (record { 0 = fresh }) height)
  content : (digit : ℕ) → digit < 16 → FitsUnder height (key_below forest.keys (at forest.keys place) digit)
  spare : (object : Object) → named (at forest.keys place) ≡ Some object → 2 ≤ forest.count object

-- what stands at a place after a node was copied
pub data Copied (keys : ℕ → Key) (place fresh height : ℕ) (p : ℕ) : Type 0 where
  here : p ≡ place → at (with_fresh keys place fresh height) p ≡ Segment (record { 0 = fresh }) height → Copied keys place fresh height p
  inside : p / 16 ≡ fresh → p ≢ place → at (with_fresh keys place fresh height) p ≡ key_below keys (at keys place) (p % 16) → Copied keys place fresh height p
  elsewhere : p / 16 ≢ fresh → p ≢ place → at (with_fresh keys place fresh height) p ≡ at keys p → Copied keys place fresh height p

pub copied_at : (keys : ℕ → Key) (place fresh height p : ℕ) → Copied keys place fresh height p
copied_at keys place fresh height p = ⊎_elim
    (λ (t : p ≡ place). here t (ap (at (with_fresh keys place fresh height)) t
    ∙ at-with_at (filled keys fresh (key_below keys (at keys place))) place (Segment (record { 0 = fresh }) height)))
    (λ (t : p ≢ place).
    let kept = at-with_at-other (filled keys fresh (key_below keys (at keys place))) place p (Segment (record { 0 = fresh }) height) t in
    ⊎_elim
    (λ (u : p / 16 ≡ fresh).
    let split : place_of fresh (p % 16) ≡ p = omega arith in
    inside u t (kept ∙ ap (at (filled keys fresh (key_below keys (at keys place)))) (sym split)
    ∙ at-filled keys (key_below keys (at keys place)) fresh (p % 16) (omega arith)))
    (λ (u : p / 16 ≢ fresh). elsewhere u t (kept ∙ at-filled-other keys (key_below keys (at keys place)) fresh p u))
    (cases_eq (p / 16) fresh))
    (cases_eq p place)

-- a key of a copied node stands at some place, or is Null
data Content (keys : ℕ → Key) (key : Key) : Type 0 where
  stands : (q : ℕ) → key ≡ at keys q → Content keys key
  nothing : key ≡ Null → Content keys key

content_of : (keys : ℕ → Key) (upper : Key) (digit : ℕ) → Content keys (key_below keys upper digit)
content_of keys (Segment node height) digit = stands (place_of node.0 digit) refl
content_of keys _ digit = nothing refl

module _ (forest : Forest) (outside : Object → ℕ) (hand : List Key) (place fresh height : ℕ) (owner : Owner)
    (c : CopyHere forest outside hand place fresh height owner) where
  nobody : NobodyNames forest.keys (NodeObject fresh)
  nobody = free_unnamed forest c.held.sound (NodeObject fresh) c.free.unowned

  parent_apart : place / 16 ≢ fresh
  parent_apart e = some_not_none (forest.owner (NodeObject (place / 16))) c.may.node_owned (ap (λ n. forest.owner (NodeObject n)) e ∙ c.free.unowned)

  owner_at : (other : Object) → other ≢ NodeObject fresh → (with_copy forest place fresh height owner).owner other ≡ forest.owner other
  owner_at other differs = other_object forest.owner (NodeObject fresh) (Some owner) other differs

  owner_fresh : (with_copy forest place fresh height owner).owner (NodeObject fresh) ≡ Some owner
  owner_fresh = with_object-here forest.owner (NodeObject fresh) (Some owner)

  node_apart : (n : ℕ) → n ≢ fresh → NodeObject n ≢ NodeObject fresh
  node_apart n differs e = differs (let is : n ≡ fresh = cc in is)

  -- an object that the copied node names is named by a place of the copied node
  content_named : (digit : ℕ) (object : Object) → named (key_below forest.keys (at forest.keys place) digit) ≡ Some object → digit < 16
      → forest.owner object ≡ Some owner
  content_named digit object h below =
      let s = step forest.keys (at forest.keys place) digit object h in
      let split : place_of s.node digit / 16 ≡ s.node = omega arith in
      c.held.sound.owned (place_of s.node digit) object s.here
      ∙ ap (λ n. forest.owner (NodeObject n)) split
      ∙ c.held.sound.owned place (NodeObject s.node) s.upper_names
      ∙ c.node_owner

  not_fresh : (object : Object) → IsSome (forest.owner object) → object ≢ NodeObject fresh
  not_fresh object some e = some_not_none (forest.owner object) some (ap forest.owner e ∙ c.free.unowned)

  fits_copied : (upper : Key) (digit : ℕ) → digit < 16 → named upper ≢ Some (NodeObject fresh)
      → (named upper ≡ Some (NodeObject (place / 16)) → FitsBelow upper (Segment (record { 0 = fresh }) height))
      → FitsBelow upper (key_below forest.keys upper digit)
      → FitsBelow upper (key_below (with_fresh forest.keys place fresh height) upper digit)
  fits_copied (Segment node h) digit below off fits_new fits = go (copied_at forest.keys place fresh height (place_of node.0 digit))
    where
      go : Copied forest.keys place fresh height (place_of node.0 digit) → FitsUnder h (at (with_fresh forest.keys place fresh height) (place_of node.0 digit))
      go (here t e) = rw e (fits_new (ap (λ n. Some (NodeObject n)) (let is : node.0 ≡ place / 16 = omega arith in is)))
      go (inside t u e) = absurd (off (ap (λ n. Some (NodeObject n)) (let is : node.0 ≡ fresh = omega arith in is)))
      go (elsewhere t u e) = rw e fits
  fits_copied _ digit below off fits_new fits = tt

  fits_place : (q digit : ℕ) → digit < 16 → FitsBelow (at forest.keys q) (key_below (with_fresh forest.keys place fresh height) (at forest.keys q) digit)
  fits_place q digit below = fits_copied (at forest.keys q) digit below (nobody q) (c.may.fits q) (c.held.sound.heights q digit below)

  fits_content : (key : Key) → Content forest.keys key → (digit : ℕ) → digit < 16 → FitsBelow key (key_below (with_fresh forest.keys place fresh height) key digit)
  fits_content key (stands q e) digit below = rw e (fits_place q digit below)
  fits_content key (nothing e) digit below = rw e tt

  low_content : (key : Key) → Content forest.keys key → key_height key < 5
  low_content key (stands q e) = rw e (c.held.sound.low q)
  low_content key (nothing e) = rw e (omega arith)

  within_now : (node : ℕ) → IsSome ((with_copy forest place fresh height owner).owner (NodeObject node)) → node < forest.nodes
  within_now node some = ⊎_elim
      (λ (t : node ≡ fresh). rw t c.within)
      (λ (t : node ≢ fresh). c.held.sound.within node (ap is_some (sym (owner_at (NodeObject node) (node_apart node t))) ∙ some))
      (cases_eq node fresh)

  masked_now : (p : ℕ) → (with_copy forest place fresh height owner).owner (NodeObject (p / 16)) ≡ None → Copied forest.keys place fresh height p
      → at (with_fresh forest.keys place fresh height) p ≡ Null
  masked_now p none (here t e) = absurd (some_not_none (forest.owner (NodeObject (place / 16))) c.may.node_owned
      (sym (owner_at (NodeObject (place / 16)) (node_apart (place / 16) parent_apart)) ∙ ap (λ q. (with_copy forest place fresh height owner).owner (NodeObject (q / 16))) (sym t) ∙ none))
  masked_now p none (inside t u e) = absurd (
      let contra : Some owner ≡ None = sym owner_fresh ∙ ap (λ n. (with_copy forest place fresh height owner).owner (NodeObject n)) (sym t) ∙ none in cc)
  masked_now p none (elsewhere t u e) = e ∙ c.held.sound.masked p (sym (owner_at (NodeObject (p / 16)) (node_apart (p / 16) t)) ∙ none)

  owned_now : (p : ℕ) (object : Object) → named (at (with_fresh forest.keys place fresh height) p) ≡ Some object → Copied forest.keys place fresh height p
      → (with_copy forest place fresh height owner).owner object ≡ (with_copy forest place fresh height owner).owner (NodeObject (p / 16))
  owned_now p object h (here t e) =
      let is : object ≡ NodeObject fresh = (let same : Some object ≡ Some (NodeObject fresh) = sym h ∙ ap named e in cc) in
      ap (with_copy forest place fresh height owner).owner is ∙ owner_fresh ∙ sym c.node_owner
      ∙ sym (owner_at (NodeObject (place / 16)) (node_apart (place / 16) parent_apart))
      ∙ ap (λ q. (with_copy forest place fresh height owner).owner (NodeObject (q / 16))) (sym t)
  owned_now p object h (inside t u e) =
      let was = content_named (p % 16) object (ap named (sym e) ∙ h) (omega arith) in
      owner_at object (not_fresh object (ap is_some was)) ∙ was ∙ sym owner_fresh
      ∙ ap (λ n. (with_copy forest place fresh height owner).owner (NodeObject n)) (sym t)
  owned_now p object h (elsewhere t u e) =
      let was = ap named (sym e) ∙ h in
      owner_at object (not_fresh object (owned_object forest c.held.sound p object was))
      ∙ c.held.sound.owned p object was
      ∙ sym (owner_at (NodeObject (p / 16)) (node_apart (p / 16) t))

  heights_now : (p digit : ℕ) → digit < 16 → Copied forest.keys place fresh height p
      → FitsBelow (at (with_fresh forest.keys place fresh height) p) (key_below (with_fresh forest.keys place fresh height) (at (with_fresh forest.keys place fresh height) p) digit)
  heights_now p digit below (here t e) = rw e (new_below digit below (copied_at forest.keys place fresh height (place_of fresh digit)))
    where
      new_below : (digit : ℕ) → digit < 16 → Copied forest.keys place fresh height (place_of fresh digit)
          → FitsUnder height (at (with_fresh forest.keys place fresh height) (place_of fresh digit))
      new_below digit below (here t e) = absurd (parent_apart (omega arith))
      new_below digit below (inside t u e) = rw e (let is : (16 * fresh + digit) % 16 ≡ digit = omega arith in rw is (c.content digit below))
      new_below digit below (elsewhere t u e) = absurd (t (omega arith))
  heights_now p digit below (inside t u e) = rw e (fits_content (key_below forest.keys (at forest.keys place) (p % 16)) (content_of forest.keys (at forest.keys place) (p % 16)) digit below)
  heights_now p digit below (elsewhere t u e) = rw e (fits_place p digit below)

  low_now : (p : ℕ) → Copied forest.keys place fresh height p → key_height (at (with_fresh forest.keys place fresh height) p) < 5
  low_now p (here t e) = rw e c.may.low
  low_now p (inside t u e) = rw e (low_content (key_below forest.keys (at forest.keys place) (p % 16)) (content_of forest.keys (at forest.keys place) (p % 16)))
  low_now p (elsewhere t u e) = rw e (c.held.sound.low p)

  sound_now : Sound (with_copy forest place fresh height owner)
  sound_now = record {
    within = within_now;
    masked = λ p none. masked_now p none (copied_at forest.keys place fresh height p);
    owned = λ p object h. owned_now p object h (copied_at forest.keys place fresh height p);
    heights = λ p digit below. heights_now p digit below (copied_at forest.keys place fresh height p);
    low = λ p. low_now p (copied_at forest.keys place fresh height p);
  }

  own_place_null : (object : Object) (digit : ℕ) → digit < 16 → named (at forest.keys (place_of fresh digit)) ≢ Some object
  own_place_null object digit below h =
      let is : place_of fresh digit / 16 ≡ fresh = omega arith in
      let null : at forest.keys (place_of fresh digit) ≡ Null =
      c.held.sound.masked (place_of fresh digit) (ap (λ n. forest.owner (NodeObject n)) is ∙ c.free.unowned) in
      let contra : None ≡ Some object = ap named (sym null) ∙ h in cc

  place_inside : place < 16 * forest.nodes
  place_inside = let inside = c.held.sound.within (place / 16) c.may.node_owned in omega arith

  namings_now : (object : Object)
      → namings (with_copy forest place fresh height owner) object + bit (names object (at forest.keys place))
      ≡ namings forest object + count_below (λ digit. names object (key_below forest.keys (at forest.keys place) digit)) 16
      + bit (names object (Segment (record { 0 = fresh }) height))
  unfolding namings
  namings_now object =
      let whole : Forest = record forest { keys = filled forest.keys fresh (key_below forest.keys (at forest.keys place)) } in
      let filling = namings-filled forest (key_below forest.keys (at forest.keys place)) fresh object c.within (own_place_null object) in
      let writing = namings-written (record forest { keys = filled forest.keys fresh (key_below forest.keys (at forest.keys place)) }) place
      (Segment (record { 0 = fresh }) height) object place_inside in
      let kept : at (filled forest.keys fresh (key_below forest.keys (at forest.keys place))) place ≡ at forest.keys place =
      at-filled-other forest.keys (key_below forest.keys (at forest.keys place)) fresh place parent_apart in
      let writing_kept = rw kept at writing in
      omega arith

  spare_bit : (object : Object) → 1 ≤ namings forest object ⊎ (bit (names object (at forest.keys place)) ≡ 0)
  unfolding namings
  spare_bit object = ⊎_elim
      (λ (t : names object (at forest.keys place) ≡ true). inl (counted_one (λ p. names object (at forest.keys p)) (16 * forest.nodes) place place_inside t))
      (λ (t : names object (at forest.keys place) ≡ false). inr (ap bit t))
      (cases_Bool (names object (at forest.keys place)))

  bit_small : (b : Bool) → bit b ≤ 1
  bit_small true = omega arith
  bit_small false = omega arith

  fresh_unnamed : bit (names (NodeObject fresh) (at forest.keys place)) ≡ 0
  fresh_unnamed = ap bit (not_named (at forest.keys place) (NodeObject fresh) (nobody place))

  fresh_content : count_below (λ digit. names (NodeObject fresh) (key_below forest.keys (at forest.keys place) digit)) 16 ≡ 0
  fresh_content = none_below (λ digit. names (NodeObject fresh) (key_below forest.keys (at forest.keys place) digit)) 16
      (λ digit below. not_named (key_below forest.keys (at forest.keys place) digit) (NodeObject fresh)
      (λ h. let s = step forest.keys (at forest.keys place) digit (NodeObject fresh) h in nobody (place_of s.node digit) s.here))

  count_other : (object : Object) → object ≢ NodeObject fresh → (with_copy forest place fresh height owner).count object
      ≡ forest.count object - bit (names object (at forest.keys place)) + count_below (λ digit. names object (key_below forest.keys (at forest.keys place) digit)) 16
  unfolding copied_count
  count_other object differs = other_object (copied_count forest place) (NodeObject fresh) 1 object differs

  exact_now : Exact (with_copy forest place fresh height owner) outside hand
  exact_now = record {
    counted = λ object some. ⊎_elim
        (λ (t : object ≡ NodeObject fresh). exact_fresh object t)
        (λ (t : object ≢ NodeObject fresh). exact_other object t some)
        (is_or_not object (NodeObject fresh));
  }
    where
      exact_fresh : (object : Object) → object ≡ NodeObject fresh
          → (with_copy forest place fresh height owner).count object ≡ namings (with_copy forest place fresh height owner) object + outside object + in_hand hand object
      exact_fresh object t = rw t (
          let one = with_object-here (copied_count forest place) (NodeObject fresh) 1 in
          let now = namings_now (NodeObject fresh) in
          let old_places = nobody_counted forest (NodeObject fresh) nobody in
          let unnamed_bit = fresh_unnamed in
          let content = fresh_content in
          let named_bit : bit (names (NodeObject fresh) (Segment (record { 0 = fresh }) height)) ≡ 1 = ap bit (same_object-same (NodeObject fresh)) in
          let out = c.free.none_outside in
          let hand_none = c.free.none_in_hand in
          omega arith)

      exact_other : (object : Object) → object ≢ NodeObject fresh → IsSome ((with_copy forest place fresh height owner).owner object)
          → (with_copy forest place fresh height owner).count object ≡ namings (with_copy forest place fresh height owner) object + outside object + in_hand hand object
      exact_other object t some =
          let was = c.held.exact.counted object (ap is_some (sym (owner_at object t)) ∙ some) in
          let count = count_other object t in
          let now = namings_now object in
          let named_bit : bit (names object (Segment (record { 0 = fresh }) height)) ≡ 0 =
          ap bit (not_named (Segment (record { 0 = fresh }) height) object (λ h. t (let is : object ≡ NodeObject fresh = cc in is))) in
          let small = bit_small (names object (at forest.keys place)) in
          ⊎_elim
          (λ (one : 1 ≤ namings forest object). let is_one = one in omega arith)
          (λ (zero_bit : bit (names object (at forest.keys place)) ≡ 0). let is_zero = zero_bit in omega arith)
          (spare_bit object)

  alive_now : (object : Object) → IsSome ((with_copy forest place fresh height owner).owner object) → 1 ≤ (with_copy forest place fresh height owner).count object
  alive_now object some = ⊎_elim
      (λ (t : object ≡ NodeObject fresh). rw t (let one = with_object-here (copied_count forest place) (NodeObject fresh) 1 in omega arith))
      (λ (t : object ≢ NodeObject fresh).
      let was = c.held.alive object (ap is_some (sym (owner_at object t)) ∙ some) in
      let count = count_other object t in
      let small = bit_small (names object (at forest.keys place)) in
      ⊎_elim
      (λ (u : names object (at forest.keys place) ≡ true).
      let two = c.spare object (names-true object (at forest.keys place) u) in omega arith)
      (λ (u : names object (at forest.keys place) ≡ false). let zero_bit : bit (names object (at forest.keys place)) ≡ 0 = ap bit u in omega arith)
      (cases_Bool (names object (at forest.keys place))))
      (is_or_not object (NodeObject fresh))

  gone_now : (object : Object) → (with_copy forest place fresh height owner).owner object ≡ None → in_hand hand object ≡ 0
  gone_now object none = ⊎_elim
      (λ (t : object ≡ NodeObject fresh). ap (in_hand hand) t ∙ c.free.none_in_hand)
      (λ (t : object ≢ NodeObject fresh). c.held.gone object (sym (owner_at object t) ∙ none))
      (is_or_not object (NodeObject fresh))

  nobody_now : (object : Object) → NobodyNames forest.keys object → object ≢ NodeObject fresh → NobodyNames (with_fresh forest.keys place fresh height) object
  nobody_now object none differs p h = go (copied_at forest.keys place fresh height p)
    where
      go : Copied forest.keys place fresh height p → ⊥
      go (here t e) = differs (let same : Some object ≡ Some (NodeObject fresh) = sym h ∙ ap named e in let is : object ≡ NodeObject fresh = cc in is)
      go (inside t u e) =
          let s = step forest.keys (at forest.keys place) (p % 16) object (ap named (sym e) ∙ h) in
          none (place_of s.node (p % 16)) s.here
      go (elsewhere t u e) = none p (ap named (sym e) ∙ h)

  held_now : Counted (with_copy forest place fresh height owner) outside hand
  held_now = record {
    sound = sound_now;
    exact = exact_now;
    alive = alive_now;
    gone = gone_now;
    apart = λ object out.
        let a = c.held.apart object out in
        (nobody_now object a.0 (λ t. let none : outside object ≡ 0 = ap outside t ∙ c.free.none_outside in omega arith), a.1);
  }

  -- a space is a space before and after
  space_now : (space : ℕ) → IsSpace forest hand space → IsSpace (with_copy forest place fresh height owner) hand space
  space_now space is = record {
    owned = ap is_some (owner_at (NodeObject space) (not_fresh (NodeObject space) is.owned)) ∙ is.owned;
    unnamed = nobody_now (NodeObject space) is.unnamed (not_fresh (NodeObject space) is.owned);
    not_in_hand = is.not_in_hand;
  }

  space_was : (space : ℕ) → IsSpace (with_copy forest place fresh height owner) hand space → IsSpace forest hand space
  space_was = spaces_back forest (with_copy forest place fresh height owner) outside hand hand c.held.apart held_now.exact held_now.alive
      (λ object some out. ap is_some (sym (owner_at object (λ t. let none : outside object ≡ 0 = ap outside t ∙ c.free.none_outside in omega arith))) ∙ some)

  root_now : (space : ℕ) → IsSpace forest hand space → IsRoot (with_fresh forest.keys place fresh height) space
  root_now space is = record {
    parts = λ digit small. parts_at digit small (copied_at forest.keys place fresh height (place_of space digit));
    unused = λ digit large small. unused_at digit large small (copied_at forest.keys place fresh height (place_of space digit));
    keeper = keeper_at (copied_at forest.keys place fresh height (place_of space 15));
  }
    where
      root : IsRoot forest.keys space
      root = c.held.rooted space is

      apart : space ≢ fresh
      apart e = not_fresh (NodeObject space) is.owned (ap NodeObject e)

      at_root : (digit : ℕ) → digit < 16 → place_of space digit ≡ place → (digit < 8) × FitsUnder 5 (Segment (record { 0 = fresh }) height)
      at_root digit below t =
          let is_node : place / 16 ≡ space = omega arith in
          let is_digit : place % 16 ≡ digit = omega arith in
          let fits = c.may.root (rw is_node is) in
          (rw is_digit at fits.0, fits.1)

      parts_at : (digit : ℕ) → digit < 8 → Copied forest.keys place fresh height (place_of space digit) → FitsUnder 5 (at (with_fresh forest.keys place fresh height) (place_of space digit))
      parts_at digit small (here t e) = rw e (at_root digit (omega arith) t).1
      parts_at digit small (inside t u e) = absurd (apart (omega arith))
      parts_at digit small (elsewhere t u e) = rw e (root.parts digit small)

      unused_at : (digit : ℕ) → 8 ≤ digit → digit < 15 → Copied forest.keys place fresh height (place_of space digit) → at (with_fresh forest.keys place fresh height) (place_of space digit) ≡ Null
      unused_at digit large small (here t e) = absurd (let low = (at_root digit (omega arith) t).0 in omega arith)
      unused_at digit large small (inside t u e) = absurd (apart (omega arith))
      unused_at digit large small (elsewhere t u e) = e ∙ root.unused digit large small

      keeper_at : Copied forest.keys place fresh height (place_of space 15) → named (at (with_fresh forest.keys place fresh height) (place_of space 15)) ≡ None
      keeper_at (here t e) = absurd (let low = (at_root 15 (omega arith) t).0 in omega arith)
      keeper_at (inside t u e) = absurd (apart (omega arith))
      keeper_at (elsewhere t u e) = ap named e ∙ root.keeper

pub copy_keeps_held : CopyKeepsHeld
copy_keeps_held forest outside hand place fresh height owner held free within node_owner may content spare =
    let c : CopyHere forest outside hand place fresh height owner = record {
      held = held;
      free = free;
      within = within;
      node_owner = node_owner;
      may = may;
      content = content;
      spare = spare;
    } in (
      record {
        counts = held_now forest outside hand place fresh height owner c;
        rooted = λ space is. root_now forest outside hand place fresh height owner c space (space_was forest outside hand place fresh height owner c space is);
      },
      λ space. (space_now forest outside hand place fresh height owner c space, space_was forest outside hand place fresh height owner c space),
    )
