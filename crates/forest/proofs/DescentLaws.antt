-- Down a way from a root, level by level.
use Rattle.std.proofs.Common.{◌≡◌, ◌≢◌, ◌<◌, ◌≤◌, ◌+◌, ◌-◌, ◌/◌, ◌%◌, ◌^◌, ℕ, suc, Some, None, List, [], ◌∷◌, length, refl, ap, sym, ◌∙◌, arith, ⊎_elim, ◌↔◌, ◌==◌}
use Rattle.std.specs.Option.{is_some, IsSome}
use Rattle.std.proofs.Math.Path.{subst}
use Rattle.std.proofs.lemmas.Bool.{cases_lt, cases_eq}
use Rattle.kn_base.specs.declared.key.Key.{Key}
use Rattle.kn_base.specs.declared.key.Key.TheVariants.{Page, Segment}
use Rattle.unix_model.specs.Tables.{at, with_at}
use Rattle.unix_model.proofs.TableLaws.{at-with_at, at-with_at-other}
use Rattle.forest.proofs.ExactLaws.{not_named, spaces_back}
use Rattle.forest.specs.Objects.{Object, NodeObject, Owner, named}
use Rattle.forest.specs.Walks.{place_of, key_below, key_along, space_key, IsWay, mapping_of, map_of, digits}
use Rattle.forest.specs.Forest.{Forest, IsSpace, OwnWay, CountedOnce, EndsAt, FitsBelow, FitsUnder, key_height, Held, top_digit, node_way}
use Rattle.forest.specs.Changes.{with_copy, with_fresh, filled, with_key, IsFree, MayStand, BelongsAt}
use Rattle.forest.specs.Descent.{MadeOwn, root, kept, copied}
use Rattle.forest.specs.Laws.{MakesWayOwn, PageMayStand, ChangesOnePage}
use Rattle.forest.proofs.WalkLaws.{step}
use Rattle.forest.proofs.OwnLaws.{alone_way}
use Rattle.forest.proofs.MapLaws.{at-filled-other, node_key, fresh_keeps_maps, page_no_node}
use Rattle.forest.proofs.OwnMaps.{way_of_node, length-node_way, page_way-parts, OwnEnd, own_end, short_way, this_way, write_changes_one_map}
use Rattle.forest.proofs.WriteHeld.{write_keeps_held}
use Rattle.forest.proofs.CopyLaws.{free_unnamed, end_owned, counted_once, once, copy_makes_own}
use Rattle.forest.proofs.ReleaseLaws.{some_not_none, no_name, tail_hand}
use Rattle.forest.proofs.ReachLaws.{way_height, way_owner}
use Rattle.forest.proofs.HeldLaws.{other_object}
use Rattle.forest.proofs.CopyHeld.{copy_keeps_held}

-- what is known at the end of an own way, one level above the next node
pub record AtEnd (forest : Forest) (outside : Object → ℕ) (hand : List Key) (space : ℕ) (owner : Owner) (way : List ℕ) : Type 0 where
  pub held : Held forest outside hand
  pub is_space : IsSpace forest hand space
  pub space_owner : forest.owner (NodeObject space) ≡ Some owner
  pub is_way : IsWay way
  pub own : OwnWay forest space way

fits_segment : (key : Key) (fresh low : ℕ) → 0 < low → low + 1 ≡ key_height key → FitsBelow key (Segment (record { 0 = fresh }) low)
fits_segment (Segment node height) fresh low positive next = (positive, next)
fits_segment _ fresh low positive next = tt

-- a key that stands above pages names a node
node_named : (key : Key) (object : Object) → named key ≡ Some object → 1 ≤ key_height key → (node : ℕ) × (named key ≡ Some (NodeObject node))
node_named (Segment node height) object h high = (node.0, refl)
node_named _ object h high = absurd (omega arith)

under_no_page : (height : ℕ) (key : Key) → 2 ≤ height → FitsUnder height key → mapping_of key ≡ None
under_no_page height (Page p w) high fits = absurd (omega arith)
under_no_page height _ high fits = refl

fits_no_page : (upper key : Key) → 2 ≤ key_height upper → FitsBelow upper key → mapping_of key ≡ None
fits_no_page (Segment n h) key high fits = under_no_page h key high fits
fits_no_page _ key high fits = absurd (omega arith)

-- whichever key names the node, it stands at the end of the own way
upper_is : (forest : Forest) (outside : Object → ℕ) (hand : List Key) (space node : ℕ) → Held forest outside hand → IsSpace forest hand space
    → (way : List ℕ) → OwnWay forest space way → EndsAt forest.keys space way (NodeObject node)
    → (upper : ℕ) → named (at forest.keys upper) ≡ Some (NodeObject node) → at forest.keys upper ≡ key_along forest.keys (space_key space) way
upper_is forest outside hand space node held is_space [] own ends upper h = absurd (is_space.unnamed upper (h ∙ sym ends))
upper_is forest outside hand space node held is_space (digit ∷ way) own ends upper h =
    let s = step forest.keys (key_along forest.keys (space_key space) way) digit (NodeObject node) ends in
    let alone = (alone_way forest outside hand held.sound held.exact space (digit ∷ way) own).0 (NodeObject node) ends in
    ap (at forest.keys) (alone upper (place_of s.node digit) h s.here) ∙ sym s.is

module _ (forest : Forest) (outside : Object → ℕ) (hand : List Key) (space : ℕ) (owner : Owner) (way : List ℕ) (c : AtEnd forest outside hand space owner way)
    (node digit fresh : ℕ) (ends : EndsAt forest.keys space way (NodeObject node)) (below : digit < 16) (short : length way < 4)
    (top : top_digit (digit ∷ way) < 8) (free : IsFree forest outside hand (NodeObject fresh)) where
  the_height : key_height (key_along forest.keys (space_key space) way) + length way ≡ 5
  the_height = way_height forest hand c.held.sound c.held.rooted space c.is_space way c.is_way (NodeObject node) ends

  at_place : key_along forest.keys (space_key space) (digit ∷ way) ≡ at forest.keys (place_of node digit)
  at_place = (node_key forest.keys (key_along forest.keys (space_key space) way) node ends).below digit

  the_node : place_of node digit / 16 ≡ node
  the_node = omega arith

  node_is_owned : IsSome (forest.owner (NodeObject node))
  node_is_owned = end_owned forest hand c.held.sound space c.is_space way (NodeObject node) ends

  node_not_fresh : node ≢ fresh
  node_not_fresh e = some_not_none (forest.owner (NodeObject node)) node_is_owned (ap (λ n. forest.owner (NodeObject n)) e ∙ free.unowned)

  root_fits : (w : List ℕ) → EndsAt forest.keys space w (NodeObject node) → top_digit (digit ∷ w) < 8 → IsSpace forest hand node
      → (digit < 8) × FitsUnder 5 (Segment (record { 0 = fresh }) (4 - length w))
  root_fits [] w_ends w_top is = (w_top, (omega arith, omega arith))
  root_fits (d ∷ w) w_ends w_top is =
      let s = step forest.keys (key_along forest.keys (space_key space) w) d (NodeObject node) w_ends in
      absurd (is.unnamed (place_of s.node d) s.here)

  may : MayStand forest hand (place_of node digit) (Segment (record { 0 = fresh }) (4 - length way))
  may = record {
    node_owned = rw the_node node_is_owned;
    low = omega arith;
    fits = λ upper h.
        let is = upper_is forest outside hand space node c.held c.is_space way c.own ends upper (h ∙ ap (λ n. Some (NodeObject n)) the_node) in
        let high = the_height in
        rw is (fits_segment (key_along forest.keys (space_key space) way) fresh (4 - length way) (omega arith) (omega arith));
    not_itself = λ h. node_not_fresh (let same : Some (NodeObject fresh) ≡ Some (NodeObject node) = h ∙ ap (λ n. Some (NodeObject n)) the_node in
        let is : node ≡ fresh = cc in is);
    root = λ is.
        let fits = root_fits way ends top (rw the_node at is) in
        let is_digit : place_of node digit % 16 ≡ digit = omega arith in
        (rw is_digit fits.0, fits.1);
  }

  content : (d : ℕ) → d < 16 → FitsUnder (4 - length way) (key_below forest.keys (at forest.keys (place_of node digit)) d)
  content d d_below = go (at forest.keys (place_of node digit)) refl
    where
      go : (key : Key) → at forest.keys (place_of node digit) ≡ key → FitsUnder (4 - length way) (key_below forest.keys key d)
      go (Segment n height) e =
          let names_it : EndsAt forest.keys space (digit ∷ way) (NodeObject n.0) = ap named (at_place ∙ e) in
          let high = way_height forest hand c.held.sound c.held.rooted space c.is_space (digit ∷ way) (below, c.is_way) (NodeObject n.0) names_it in
          let high_here : height + suc (length way) ≡ 5 = rw (at_place, e) at high in
          let same : height ≡ 4 - length way = omega arith in
          let fits = c.held.sound.heights (place_of node digit) d d_below in
          let fits_here : FitsUnder height (key_below forest.keys (Segment n height) d) = rw e at fits in
          rw same at fits_here
      go _ e = tt

  spare : (CountedOnce forest (key_along forest.keys (space_key space) (digit ∷ way)) → ⊥) → (object : Object)
      → named (at forest.keys (place_of node digit)) ≡ Some object → 2 ≤ forest.count object
  spare shared object h = ⊎_elim
      (λ (small : forest.count object < 2).
      let names_it : EndsAt forest.keys space (digit ∷ way) object = ap named at_place ∙ h in
      let alive = c.held.alive object (end_owned forest hand c.held.sound space c.is_space (digit ∷ way) object names_it) in
      absurd (shared (counted_once forest (key_along forest.keys (space_key space) (digit ∷ way)) object names_it (omega arith))))
      (λ (many : 2 ≤ forest.count object). many)
      (cases_lt (forest.count object) 2)

  end_fits : (w : List ℕ) → IsWay w → EndsAt forest.keys space w (NodeObject node) → top_digit (digit ∷ w) < 8
      → FitsBelow (key_along forest.keys (space_key space) w) (key_below forest.keys (key_along forest.keys (space_key space) w) digit)
  end_fits [] is w_ends w_top = (c.held.rooted space c.is_space).parts digit w_top
  end_fits (d ∷ w) is w_ends w_top =
      let s = step forest.keys (key_along forest.keys (space_key space) w) d (NodeObject node) w_ends in
      rw s.is (c.held.sound.heights (place_of s.node d) digit below)

  no_page : mapping_of (at forest.keys (place_of node digit)) ≡ None
  no_page =
      let high = the_height in
      ap mapping_of (sym at_place) ∙ fits_no_page (key_along forest.keys (space_key space) way) (key_along forest.keys (space_key space) (digit ∷ way)) (omega arith) (end_fits way c.is_way ends top)

  copy_held : fresh < forest.nodes → (CountedOnce forest (key_along forest.keys (space_key space) (digit ∷ way)) → ⊥)
      → Held (with_copy forest (place_of node digit) fresh (4 - length way) owner) outside hand
      × ((other : ℕ) → IsSpace forest hand other ↔ IsSpace (with_copy forest (place_of node digit) fresh (4 - length way) owner) hand other)
  copy_held within shared = copy_keeps_held forest outside hand (place_of node digit) fresh (4 - length way) owner c.held free within
      (ap (λ n. forest.owner (NodeObject n)) the_node ∙ way_owner forest c.held.sound space way c.is_way (NodeObject node) ends ∙ c.space_owner)
      may content (spare shared)

  copy_maps : (other : ℕ) → IsSpace forest hand other
      → map_of (with_fresh forest.keys (place_of node digit) fresh (4 - length way)) other ≡ map_of forest.keys other
  copy_maps other is = fresh_keeps_maps forest.keys (place_of node digit) fresh (4 - length way)
      (free_unnamed forest c.held.sound (NodeObject fresh) free.unowned)
      (λ e. node_not_fresh (sym the_node ∙ e)) no_page other
      (λ e. some_not_none (forest.owner (NodeObject other)) is.owned (ap (λ n. forest.owner (NodeObject n)) e ∙ free.unowned))

  copy_keeper : (other : ℕ) → IsSpace forest hand other
      → at (with_fresh forest.keys (place_of node digit) fresh (4 - length way)) (place_of other 15) ≡ at forest.keys (place_of other 15)
  copy_keeper other is =
      let its_place : place_of other 15 / 16 ≡ other = omega arith in
      at-with_at-other (filled forest.keys fresh (key_below forest.keys (at forest.keys (place_of node digit)))) (place_of node digit) (place_of other 15)
      (Segment (record { 0 = fresh }) (4 - length way))
      (λ t. let same : other ≡ node = omega arith in let fits = root_fits way ends top (subst (IsSpace forest hand) same is) in let low = fits.0 in omega arith)
      ∙ at-filled-other forest.keys (key_below forest.keys (at forest.keys (place_of node digit))) fresh (place_of other 15)
      (λ t. some_not_none (forest.owner (NodeObject other)) is.owned (ap (λ n. forest.owner (NodeObject n)) (sym its_place ∙ t) ∙ free.unowned))

-- what going down a way leaves
pub record Descended (outside : Object → ℕ) (hand : List Key) (space : ℕ) (owner : Owner) (first last : Forest) (way : List ℕ) (taken : ℕ) : Type 0 where
  pub end : AtEnd last outside hand space owner way
  pub node : ℕ
  pub ends : EndsAt last.keys space way (NodeObject node)
  pub spaces : (other : ℕ) → IsSpace first hand other ↔ IsSpace last hand other
  pub maps : (other : ℕ) → IsSpace first hand other → map_of last.keys other ≡ map_of first.keys other
  pub owners : (object : Object) → IsSome (first.owner object) → last.owner object ≡ first.owner object
  pub keepers : (other : ℕ) → IsSpace first hand other → at last.keys (place_of other 15) ≡ at first.keys (place_of other 15)
  pub few : taken ≤ length way
  pub unchanged : OwnWay first space way → (taken ≡ 0) × (last ≡ first)

pub shorter_top : (digit : ℕ) (way : List ℕ) → top_digit (digit ∷ way) < 8 → top_digit way < 8
shorter_top digit [] top = omega arith
shorter_top digit (next ∷ way) top = top

pub descend : (outside : Object → ℕ) (hand : List Key) (space : ℕ) (owner : Owner) {first last : Forest} {way : List ℕ} {taken : ℕ}
    → MadeOwn outside hand space owner first way last taken
    → AtEnd first outside hand space owner [] → IsWay way → length way ≤ 4 → top_digit way < 8
    → Descended outside hand space owner first last way taken
descend outside hand space owner (root {first}) start is_way short top = record {
  end = start;
  node = space;
  ends = refl;
  spaces = λ other. (λ is. is, λ is. is);
  maps = λ other is. refl;
  owners = λ object some. refl;
  keepers = λ other is. refl;
  few = omega arith;
  unchanged = λ own. (refl, refl);
}
descend outside hand space owner (kept {first} {last} {way} {taken} digit above own_here) start is_way short top =
    let d = descend outside hand space owner above start is_way.1 (omega arith) (shorter_top digit way top) in
    let o = once last (key_along last.keys (space_key space) (digit ∷ way)) own_here in
    let e : AtEnd last outside hand space owner (digit ∷ way) = record {
      held = d.end.held;
      is_space = d.end.is_space;
      space_owner = d.end.space_owner;
      is_way = is_way;
      own = (own_here, d.end.own);
    } in
    let height = way_height last hand e.held.sound e.held.rooted space e.is_space (digit ∷ way) is_way o.object o.names_it in
    let n = node_named (key_along last.keys (space_key space) (digit ∷ way)) o.object o.names_it (omega arith) in
    let few = d.few in
    record {
      end = e;
      node = n.0;
      ends = n.1;
      spaces = d.spaces;
      maps = d.maps;
      owners = d.owners;
      keepers = d.keepers;
      few = omega arith;
      unchanged = λ own. d.unchanged own.1;
    }
descend outside hand space owner (copied {first} {last} {way} {taken} digit node fresh above shared ends free within) start is_way short top =
    let d = descend outside hand space owner above start is_way.1 (omega arith) (shorter_top digit way top) in
    let less : length way < 4 = omega arith in
    let held = copy_held last outside hand space owner way d.end node digit fresh ends is_way.0 less top free within shared in
    let maps = copy_maps last outside hand space owner way d.end node digit fresh ends is_way.0 less top free in
    let keeper = copy_keeper last outside hand space owner way d.end node digit fresh ends is_way.0 less top free in
    let own = copy_makes_own last outside hand space node digit fresh (4 - length way) way owner d.end.held.sound d.end.held.exact d.end.is_space free
    is_way.1 is_way.0 d.end.own ends in
    let few = d.few in
    record {
      end = record {
        held = held.0;
        is_space = (held.1 space).0 d.end.is_space;
        space_owner = other_object last.owner (NodeObject fresh) (Some owner) (NodeObject space)
            (λ t. some_not_none (last.owner (NodeObject space)) d.end.is_space.owned (ap last.owner t ∙ free.unowned)) ∙ d.end.space_owner;
        is_way = is_way;
        own = own.0;
      };
      node = fresh;
      ends = own.1;
      spaces = λ other. (λ is. (held.1 other).0 ((d.spaces other).0 is), λ is. (d.spaces other).1 ((held.1 other).1 is));
      maps = λ other is. maps other ((d.spaces other).0 is) ∙ d.maps other is;
      owners = λ object some.
          other_object last.owner (NodeObject fresh) (Some owner) object
          (λ t. some_not_none (first.owner object) some (sym (d.owners object some) ∙ ap last.owner t ∙ free.unowned))
          ∙ d.owners object some;
      keepers = λ other is. keeper other ((d.spaces other).0 is) ∙ d.keepers other is;
      few = omega arith;
      unchanged = λ own_first.
          let same = (d.unchanged own_first.1).1 in
          absurd (shared (subst (λ (f : Forest). CountedOnce f (key_along f.keys (space_key space) (digit ∷ way))) (sym same) own_first.0));
    }

pub makes_way_own : MakesWayOwn
makes_way_own outside hand space owner first last way taken held is_space space_owner is_way short top made =
    let d = descend outside hand space owner made (record { held = held; is_space = is_space; space_owner = space_owner; is_way = tt; own = tt })
    is_way short top in
    record {
      held = d.end.held;
      own = d.end.own;
      node = d.node;
      ends = d.ends;
      spaces = d.spaces;
      maps = d.maps;
      owners = d.owners;
      keepers = d.keepers;
      few = d.few;
      unchanged = d.unchanged;
    }

leaf_low : (key : Key) → FitsUnder 1 key → key_height key < 5
leaf_low (Segment node height) fits = let next = fits.1 in omega arith
leaf_low _ fits = omega arith

pub leaf_names_page : (key : Key) (node : ℕ) → FitsUnder 1 key → named key ≢ Some (NodeObject node)
leaf_names_page (Segment n height) node fits h = let next = fits.1 in let positive = fits.0 in absurd (omega arith)
leaf_names_page (Page p w) node fits h = page_no_node p.0 node (p.0 == 0) h
leaf_names_page _ node fits h = cc

leaf_fits : (upper key : Key) → key_height upper ≡ 1 → FitsUnder 1 key → FitsBelow upper key
leaf_fits (Segment n height) key low fits = rw low fits
leaf_fits _ key low fits = tt

-- a node that a way leads to is no space
not_space : (forest : Forest) (hand : List Key) (space node : ℕ) (way : List ℕ) → 0 < length way → EndsAt forest.keys space way (NodeObject node)
    → IsSpace forest hand node → ⊥
not_space forest hand space node [] long ends is = omega arith
not_space forest hand space node (digit ∷ way) long ends is =
    let s = step forest.keys (key_along forest.keys (space_key space) way) digit (NodeObject node) ends in
    is.unnamed (place_of s.node digit) s.here

pub page_may_stand : PageMayStand
page_may_stand forest outside hand space page node key held is_space own ends fits =
    let split : place_of node (page % 16) / 16 ≡ node = omega arith in
    let height = way_height forest hand held.sound held.rooted space is_space (node_way page) (way_of_node page) (NodeObject node) ends in
    let four = length-node_way page in
    record {
      node_owned = rw split (end_owned forest hand held.sound space is_space (node_way page) (NodeObject node) ends);
      low = leaf_low key fits;
      fits = λ upper h.
          rw (upper_is forest outside hand space node held is_space (node_way page) own ends upper (h ∙ ap (λ n. Some (NodeObject n)) split))
          (leaf_fits (key_along forest.keys (space_key space) (node_way page)) key (omega arith) fits);
      not_itself = leaf_names_page key (place_of node (page % 16) / 16) fits;
      root = λ is. absurd (not_space forest hand space node (node_way page) (omega arith) ends (rw split at is));
    }

page_top : (page : ℕ) → page < 2 ^ 19 → top_digit (node_way page) < 8
unfolding node_way digits
page_top page below = omega arith

-- a way stays own where a key is written below its end
pub own_kept : (forest : Forest) (space node digit : ℕ) (way : List ℕ) (key : Key) → OwnEnd forest.keys space way node → digit < 16
    → (w : List ℕ) → IsWay w → length w ≤ length way → OwnWay forest space w → OwnWay (with_key forest (place_of node digit) key) space w
own_kept forest space node digit way key end below [] is short own = tt
own_kept forest space node digit way key end below (d ∷ w) is short own =
    let o = once forest (key_along forest.keys (space_key space) (d ∷ w)) own.0 in (
      counted_once (with_key forest (place_of node digit) key) (key_along (with_at forest.keys (place_of node digit) key) (space_key space) (d ∷ w)) o.object
          (ap named (short_way forest.keys space node digit way key end below space end.free (d ∷ w) is short) ∙ o.names_it) o.counted,
      own_kept forest space node digit way key end below w is.1 (omega arith) own.1,
    )

leaf_below : (keys : ℕ → Key) (key : Key) (digit : ℕ) → FitsUnder 1 key → FitsBelow key (key_below keys key digit)
leaf_below keys (Segment n height) digit fits = let next = fits.1 in let positive = fits.0 in absurd (omega arith)
leaf_below keys _ digit fits = tt

-- a space stays one where a key that names no node is written
space_written : (forest : Forest) (hand : List Key) (place : ℕ) (key : Key) → FitsUnder 1 key → (space : ℕ)
    → IsSpace forest (key ∷ hand) space → IsSpace (with_key forest place key) (at forest.keys place ∷ hand) space
space_written forest hand place key fits space is = record {
  owned = is.owned;
  unnamed = λ p. ⊎_elim
      (λ (t : p ≡ place) (h : named (at (with_at forest.keys place key) p) ≡ Some (NodeObject space)).
      leaf_names_page key space fits (ap named (sym (at-with_at forest.keys place key)) ∙ ap (λ q. named (at (with_at forest.keys place key) q)) (sym t) ∙ h))
      (λ (t : p ≢ place) (h : named (at (with_at forest.keys place key) p) ≡ Some (NodeObject space)).
      is.unnamed p (ap named (sym (at-with_at-other forest.keys place p key t)) ∙ h))
      (cases_eq p place);
  not_in_hand = no_name (at forest.keys place) hand (NodeObject space) (not_named (at forest.keys place) (NodeObject space) (is.unnamed place))
      ∙ tail_hand key hand (NodeObject space) is.not_in_hand;
}

pub changes_one_page : ChangesOnePage
changes_one_page outside hand space owner first last page node key taken held is_space space_owner below fits key_owner made ends =
    let four = length-node_way page in
    let d = descend outside (key ∷ hand) space owner made (record { held = held; is_space = is_space; space_owner = space_owner; is_way = tt; own = tt })
    (way_of_node page) (omega arith) (page_top page below) in
    let may = page_may_stand last outside (key ∷ hand) space page node key d.end.held d.end.is_space d.end.own ends fits in
    let split : place_of node (page % 16) / 16 ≡ node = omega arith in
    let belongs : BelongsAt last (place_of node (page % 16)) key = record {
      same_owner = λ object h.
          d.owners object (ap is_some (key_owner object h)) ∙ key_owner object h ∙ sym d.end.space_owner
          ∙ sym (way_owner last d.end.held.sound space (node_way page) (way_of_node page) (NodeObject node) ends)
          ∙ ap (λ n. last.owner (NodeObject n)) (sym split);
      heights = λ digit small. leaf_below last.keys key digit fits;
    } in
    let one = write_changes_one_map last outside (key ∷ hand) space page node key d.end.held.sound d.end.held.exact d.end.is_space below d.end.own ends in
    let end = own_end last outside (key ∷ hand) space node (node_way page) d.end.held.sound d.end.held.exact d.end.is_space (way_of_node page) d.end.own ends in
    let few = d.few in
    let written = write_keeps_held last outside hand (place_of node (page % 16)) key d.end.held may belongs in
    let back = λ (other : ℕ) (is : IsSpace (with_key last (place_of node (page % 16)) key) (at last.keys (place_of node (page % 16)) ∷ hand) other).
    spaces_back last (with_key last (place_of node (page % 16)) key) outside (key ∷ hand) (at last.keys (place_of node (page % 16)) ∷ hand) d.end.held.apart written.exact written.alive
    (λ object some out. some) other is in
    record {
      held = written;
      here = one.0 ∙ ap (λ map. with_at map page (mapping_of key)) (d.maps space is_space);
      others = λ other is apart. one.1 other ((d.spaces other).0 is) apart ∙ d.maps other is;
      spaces = λ other is. space_written last hand (place_of node (page % 16)) key fits other ((d.spaces other).0 is);
      roots = λ other is.
          let was = (d.spaces other).1 (back other is) in
          record {
            was = was;
            owner = d.owners (NodeObject other) was.owned;
            keeper = at-with_at-other last.keys (place_of node (page % 16)) (place_of other 15) key
                (λ t. let same : other ≡ node = omega arith in
                not_space last (key ∷ hand) space node (node_way page) (omega arith) ends (subst (IsSpace last (key ∷ hand)) same (back other is)))
                ∙ d.keepers other was;
          };
      few = omega arith;
      own = λ counted.
          let o = once last key counted in
          rw page_way-parts (
            counted_once (with_key last (place_of node (page % 16)) key)
                (key_along (with_at last.keys (place_of node (page % 16)) key) (space_key space) (page % 16 ∷ node_way page)) o.object
                (ap named (this_way last.keys space node (page % 16) (node_way page) key end (omega arith)) ∙ o.names_it) o.counted,
            own_kept last space node (page % 16) (node_way page) key end (omega arith) (node_way page) (way_of_node page) (omega arith) d.end.own,
          );
    }
