-- Each node of a tree below its root stands on the way to a mapped page.
use Rattle.std.proofs.Common.{◌≡◌, ◌≢◌, ℕ, zero, suc, ◌+◌, ◌^◌, ◌<◌, ◌≤◌, ◌==◌, Bool, true, false, Some, None, List, [], ◌∷◌, ◌++◌, length, drop, arith, refl, sym, ap, subst, ◌∙◌, length-append, if◌then◌else◌}
use Rattle.kn_base.specs.declared.key.Key.{Key}
use Rattle.kn_base.specs.declared.key.NodeId.{NodeId}
use Rattle.kn_base.specs.declared.key.Key.TheVariants.{Null, Page, Segment}
use Rattle.unix_model.specs.Tables.{at}
use Rattle.forest.specs.Objects.{Object, PageObject, NodeObject, named}
use Rattle.forest.specs.Forest.{Forest, Sound, Rooted, IsSpace, NoneEmpty, IsFilled, EndsAt, FitsBelow, FitsUnder, key_height, top_digit}
use Rattle.forest.specs.Walks.{Mapping, mapping_of, map_of, key_below, key_along, space_key, place_of, page_way, IsWay}
use Rattle.forest.proofs.ReachLaws.{way_height, way_top, root_fits, number_of, five_digits, way_is_page, map_inside}
use Rattle.forest.proofs.WalkLaws.{step}

-- one way behind another
pub along-append : (keys : ℕ → Key) (top : Key) (lower upper : List ℕ) → key_along keys top (lower ++ upper) ≡ key_along keys (key_along keys top upper) lower
along-append keys top [] upper = refl
along-append keys top (digit ∷ lower) upper = ap (λ key. key_below keys key digit) (along-append keys top lower upper)

pub way-append : (lower upper : List ℕ) → IsWay lower → IsWay upper → IsWay (lower ++ upper)
way-append [] upper first second = second
way-append (digit ∷ lower) upper first second = (first.0, way-append lower upper first.1 second)

pub drop-append : (lower upper : List ℕ) → drop (length lower) (lower ++ upper) ≡ upper
drop-append [] upper = refl
drop-append (digit ∷ lower) upper = drop-append lower upper

pub top-append : (lower : List ℕ) (digit : ℕ) (upper : List ℕ) → top_digit (lower ++ (digit ∷ upper)) ≡ top_digit (digit ∷ upper)
top-append [] digit upper = refl
top-append (other ∷ []) digit upper = refl
top-append (other ∷ next ∷ lower) digit upper = top-append (next ∷ lower) digit upper

-- a way down to a page
pub record Down (keys : ℕ → Key) (top : Key) (height : ℕ) : Type 0 where
  pub way : List ℕ
  pub is_way : IsWay way
  pub long : length way ≡ height
  pub mapping : Mapping
  pub maps : mapping_of (key_along keys top way) ≡ Some mapping

-- a way down, and the step before it
down-on : (keys : ℕ → Key) (node : NodeId) (height low digit : ℕ) → digit < 16 → low + 1 ≡ height → Down keys (at keys (place_of node.0 digit)) low → Down keys (Segment node height) height
down-on keys node height low digit below one d = record {
  way = d.way ++ (digit ∷ []);
  is_way = way-append d.way (digit ∷ []) d.is_way (below, tt);
  long = omega (arith, length-append d.way (digit ∷ []), d.long);
  mapping = d.mapping;
  maps = ap mapping_of (along-append keys (Segment node height) d.way (digit ∷ [])) ∙ d.maps;
}

module _ (forest : Forest) (sound : Sound forest) (filled : NoneEmpty forest.keys) where
  -- below a node that isn't empty, by the key at one of its places
  down-key : (node : NodeId) (height digit : ℕ) → digit < 16 → (key : Key) → at forest.keys (place_of node.0 digit) ≡ key → FitsUnder height key → key ≢ Null
      → ((child : NodeId) (low : ℕ) → at forest.keys (place_of node.0 digit) ≡ Segment child low → 0 < low → low + 1 ≡ height → Down forest.keys (Segment child low) low)
      → Down forest.keys (Segment node height) height
  down-key node height digit below (Page page writable) e fits some rest =
      down-on forest.keys node height 0 digit below (sym fits) (record { way = []; is_way = tt; long = refl; mapping = record { writable = writable; page = page.0 }; maps = ap mapping_of e })
  down-key node height digit below (Segment child low) e fits some rest =
      down-on forest.keys node height low digit below fits.1 (rw e (rest child low e fits.0 fits.1))
  down-key node height digit below Null e fits some rest = absurd (some refl)
  down-key node height digit below _ e fits some rest = absurd fits

  pub down : (fuel place : ℕ) (node : NodeId) (height : ℕ) → at forest.keys place ≡ Segment node height → 0 < height → height ≤ fuel → Down forest.keys (Segment node height) height
  down zero place node height e some enough = absurd (omega arith)
  down (suc fuel) place node height e some enough =
      let there : IsFilled forest.keys node.0 = filled place node.0 (ap named e) in
      let fits : FitsUnder height (at forest.keys (place_of node.0 there.0)) = subst (λ key. FitsBelow key (key_below forest.keys key there.0)) e (sound.heights place there.0 there.1) in
      down-key node height there.0 there.1 (at forest.keys (place_of node.0 there.0)) refl fits there.2
      (λ child low below some_low one. down fuel (place_of node.0 there.0) child low below some_low (omega arith))

-- ---- from the root

page-no-node : {P : Type 0} {node : ℕ} (page : ℕ) (none : Bool) → (if none then None else Some (PageObject page)) ≡ Some (NodeObject node) → P
page-no-node page true e = absurd (cc)
page-no-node page false e = absurd (cc)

nothing-named : {P : Type 0} {object : Object} → None ≡ Some object → P
nothing-named e = absurd (cc)

fitted-some : (height : ℕ) (key : Key) (node : NodeId) (low : ℕ) → FitsUnder height key → key ≡ Segment node low → 0 < low
fitted-some height key node low fits e = (subst (FitsUnder height) e fits).0

fits-some : (upper lower : Key) (above : ℕ) (node : NodeId) (low : ℕ) → named upper ≡ Some (NodeObject above) → FitsBelow upper lower → lower ≡ Segment node low → 0 < low
fits-some (Segment n height) lower above node low h fits e = fitted-some height lower node low fits e
fits-some (Page page writable) lower above node low h fits e = page-no-node page.0 (page.0 == 0) h
fits-some _ lower above node low h fits e = nothing-named h

-- a node on a way from a root has a height
positive : (forest : Forest) (hand : List Key) → Sound forest → Rooted forest hand → (space : ℕ) → IsSpace forest hand space → (digit : ℕ) (way : List ℕ) → IsWay (digit ∷ way)
    → (object : Object) → EndsAt forest.keys space (digit ∷ way) object → (node : NodeId) (low : ℕ) → key_along forest.keys (space_key space) (digit ∷ way) ≡ Segment node low → 0 < low
positive forest hand sound rooted space is_space digit [] w object ends node low e =
    fitted-some 5 (at forest.keys (place_of space digit)) node low (root_fits forest.keys space digit object (rooted space is_space) w.0 ends).1 e
positive forest hand sound rooted space is_space digit (next ∷ way) w object ends node low e =
    let s = step forest.keys (key_along forest.keys (space_key space) (next ∷ way)) digit object ends in
    let t = step forest.keys (key_along forest.keys (space_key space) way) next (NodeObject s.node) s.upper_names in
    let fits : FitsBelow (key_along forest.keys (space_key space) (next ∷ way)) (key_below forest.keys (key_along forest.keys (space_key space) (next ∷ way)) digit) =
    rw t.is (sound.heights (place_of t.node next) digit w.0) in
    fits-some (key_along forest.keys (space_key space) (next ∷ way)) (key_along forest.keys (space_key space) (digit ∷ next ∷ way)) s.node node low s.upper_names fits e

-- a mapped page on whose way a node stands, so many levels above it
pub record OnPage (keys : ℕ → Key) (space node : ℕ) : Type 0 where
  pub number : ℕ
  pub below : number < 2 ^ 19
  pub mapping : Mapping
  pub mapped : map_of keys space number ≡ Some mapping
  pub level : ℕ
  pub low : level < 4
  pub stands : named (key_along keys (space_key space) (drop (suc level) (page_way number))) ≡ Some (NodeObject node)

module _ (forest : Forest) (hand : List Key) (sound : Sound forest) (rooted : Rooted forest hand) (filled : NoneEmpty forest.keys) (space : ℕ) (is_space : IsSpace forest hand space) (digit : ℕ) (way : List ℕ) (is_way : IsWay (digit ∷ way)) (node : ℕ) (ends : EndsAt forest.keys space (digit ∷ way) (NodeObject node)) where
  on-way : (child : NodeId) (height level : ℕ) → key_along forest.keys (space_key space) (digit ∷ way) ≡ Segment child height → suc level ≡ height → height + length (digit ∷ way) ≡ 5
      → Down forest.keys (Segment child height) height → OnPage forest.keys space node
  on-way child height level e one five d =
      let whole = d.way ++ (digit ∷ way) in
      let whole_way : IsWay whole = way-append d.way (digit ∷ way) d.is_way is_way in
      let long : length whole ≡ 5 = omega (arith, length-append d.way (digit ∷ way), d.long) in
      let top : top_digit whole < 8 = rw (top-append d.way digit way) (way_top forest hand rooted space is_space digit way is_way (NodeObject node) ends) in
      let below = five_digits whole whole_way long top in
      let is_page : page_way (number_of whole) ≡ whole = way_is_page whole whole_way long in
      record {
        number = number_of whole;
        below = below;
        mapping = d.mapping;
        mapped =
            map_inside forest.keys space (number_of whole) below
            ∙ ap (λ w. mapping_of (key_along forest.keys (space_key space) w)) is_page
            ∙ ap mapping_of (along-append forest.keys (space_key space) d.way (digit ∷ way))
            ∙ ap (λ key. mapping_of (key_along forest.keys key d.way)) e
            ∙ d.maps;
        level = level;
        low = let h = five in omega arith;
        stands =
            ap (λ w. named (key_along forest.keys (space_key space) (drop (suc level) w))) is_page
            ∙ ap (λ n. named (key_along forest.keys (space_key space) (drop n whole))) (one ∙ sym d.long)
            ∙ ap (λ w. named (key_along forest.keys (space_key space) w)) (drop-append d.way (digit ∷ way))
            ∙ ends;
      }

  from-key : (place : ℕ) (key : Key) → key_along forest.keys (space_key space) (digit ∷ way) ≡ at forest.keys place → at forest.keys place ≡ key → named key ≡ Some (NodeObject node) → OnPage forest.keys space node
  from-key place (Segment child zero) is e names =
      absurd (let some = positive forest hand sound rooted space is_space digit way is_way (NodeObject node) ends child 0 (is ∙ e) in omega arith)
  from-key place (Segment child (suc level)) is e names =
      let high = way_height forest hand sound rooted space is_space (digit ∷ way) is_way (NodeObject node) ends in
      let same : key_height (key_along forest.keys (space_key space) (digit ∷ way)) ≡ suc level = ap key_height (is ∙ e) in
      on-way child (suc level) level (is ∙ e) refl (omega arith) (down forest sound filled (suc level) place child (suc level) e (omega arith) (omega arith))
  from-key place (Page page writable) is e names = page-no-node page.0 (page.0 == 0) names
  from-key place _ is e names = nothing-named names

  pub on-page : OnPage forest.keys space node
  on-page =
      let s = step forest.keys (key_along forest.keys (space_key space) way) digit (NodeObject node) ends in
      from-key (place_of s.node digit) (at forest.keys (place_of s.node digit)) s.is refl s.here
