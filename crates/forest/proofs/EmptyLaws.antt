-- Which nodes may be empty.
use Rattle.std.proofs.Common.{◌≡◌, ◌≢◌, ◌<◌, ◌≤◌, ◌-◌, ◌/◌, ◌%◌, ℕ, Some, None, List, [], length, refl, ap, sym, ◌∙◌, arith, ⊎_elim, zero, suc, ◌==◌}
use Rattle.std.proofs.lemmas.Bool.{cases_eq}
use Rattle.kn_base.specs.declared.key.Key.{Key}
use Rattle.kn_base.specs.declared.key.Key.TheVariants.{Null, Page, Segment}
use Rattle.unix_model.specs.Tables.{at, with_at}
use Rattle.unix_model.proofs.TableLaws.{at-with_at, at-with_at-other}
use Rattle.forest.specs.Objects.{Object, NodeObject, Owner, named}
use Rattle.forest.specs.Walks.{place_of, key_along, space_key, IsWay}
use Rattle.forest.specs.Forest.{FitsUnder, Forest, Sound, top_digit, EndsAt, IsFilled, NoneEmpty, NoneEmptyBut}
use Rattle.forest.specs.Changes.{with_fresh}
use Rattle.forest.specs.Descent.{MadeOwn, root, kept, copied}
use Rattle.forest.specs.Calls.{IsPart}
use Rattle.forest.specs.Laws.{DescentLeavesLastEmpty, WriteFills, TakingAwayEmpties, PruningEmptiesAbove, WriteElsewhereKeepsFilled, SpacesAreWellFormed}
use Rattle.forest.proofs.WalkLaws.{step}
use Rattle.forest.proofs.MapLaws.{page_no_node}
use Rattle.forest.proofs.CopyHeld.{Copied, copied_at, here, inside, elsewhere}
use Rattle.forest.proofs.CopyLaws.{copy_makes_own}
use Rattle.forest.proofs.DescentLaws.{leaf_names_page, AtEnd, descend, shorter_top}

-- a node whose keys have not changed, but for one that is no key of it
pub filled_still : (keys : ℕ → Key) (place : ℕ) (key : Key) (node : ℕ) → node ≢ place / 16 → IsFilled keys node → IsFilled (with_at keys place key) node
filled_still keys place key node apart f =
    let below = f.1 in
    (f.0, f.1, λ e. f.2 (sym (at-with_at-other keys place (place_of node f.0) key (λ t. apart (let is : node ≡ place / 16 = omega arith in is))) ∙ e))

pub write_fills : WriteFills
write_fills keys node digit key but below fits real place m h = ⊎_elim
    (λ (t : place ≡ place_of node digit). absurd (leaf_names_page key m fits
    (ap named (sym (at-with_at keys (place_of node digit) key)) ∙ ap (λ q. named (at (with_at keys (place_of node digit) key) q)) (sym t) ∙ h)))
    (λ (t : place ≢ place_of node digit).
    let was = ap named (sym (at-with_at-other keys (place_of node digit) place key t)) ∙ h in
    ⊎_elim
    (λ (u : m ≡ node). rw u (digit, below, λ e. real (sym (at-with_at keys (place_of node digit) key) ∙ e)))
    (λ (u : m ≢ node). filled_still keys (place_of node digit) key m (λ e. u (let is : m ≡ node = omega arith in is)) (but place m was u))
    (cases_eq m node))
    (cases_eq place (place_of node digit))

-- what names a node after a key was taken away named it before
pub named_before : (keys : ℕ → Key) (taken place m : ℕ) → named (at (with_at keys taken Null) place) ≡ Some (NodeObject m)
    → (place ≢ taken) × (named (at keys place) ≡ Some (NodeObject m))
named_before keys taken place m h = ⊎_elim
    (λ (t : place ≡ taken). absurd (
    let null : None ≡ Some (NodeObject m) = ap named (sym (at-with_at keys taken Null)) ∙ ap (λ q. named (at (with_at keys taken Null) q)) (sym t) ∙ h in cc))
    (λ (t : place ≢ taken). (t, ap named (sym (at-with_at-other keys taken place Null t)) ∙ h))
    (cases_eq place taken)

pub taking_away_empties : TakingAwayEmpties
taking_away_empties keys node digit none below place m h apart =
    let was = named_before keys (place_of node digit) place m h in
    filled_still keys (place_of node digit) Null m (λ e. apart (let is : m ≡ node = omega arith in is)) (none place m was.1)

pub pruning_empties_above : PruningEmptiesAbove
pruning_empties_above keys above digit node but below only place m h apart =
    let was = named_before keys (place_of above digit) place m h in
    filled_still keys (place_of above digit) Null m (λ e. apart (let is : m ≡ above = omega arith in is))
    (but place m was.1 (λ t. was.0 (only place (was.1 ∙ ap (λ n. Some (NodeObject n)) t))))

-- a fresh node at a place of a node that may be empty: now that one isn't, and the fresh one may be
fresh_empty : (keys : ℕ → Key) (node digit fresh height : ℕ) → NoneEmptyBut keys node → digit < 16
    → NoneEmptyBut (with_fresh keys (place_of node digit) fresh height) fresh
fresh_empty keys node digit fresh height but below place m h apart = ⊎_elim
    (λ (u : m ≡ node). rw u (filled_parent (copied_at keys (place_of node digit) fresh height (place_of node digit))))
    (λ (u : m ≢ node). filled_other u (named_in_old u (copied_at keys (place_of node digit) fresh height place)))
    (cases_eq m node)
  where
    filled_parent : Copied keys (place_of node digit) fresh height (place_of node digit) → IsFilled (with_fresh keys (place_of node digit) fresh height) node
    filled_parent (here t e) = (digit, below, λ n. let contra : Segment (record { 0 = fresh }) height ≡ Null = sym e ∙ n in cc)
    filled_parent (inside t u e) = absurd (u refl)
    filled_parent (elsewhere t u e) = absurd (u refl)

    named_in_old : m ≢ node → Copied keys (place_of node digit) fresh height place → IsFilled keys m
    named_in_old u (here t e) = absurd (apart (let same : Some (NodeObject fresh) ≡ Some (NodeObject m) = ap named (sym e) ∙ h in let is : m ≡ fresh = cc in is))
    named_in_old u (inside t v e) =
        let s = step keys (at keys (place_of node digit)) (place % 16) (NodeObject m) (ap named (sym e) ∙ h) in
        but (place_of s.node (place % 16)) m s.here u
    named_in_old u (elsewhere t v e) = but place m (ap named (sym e) ∙ h) u

    filled_other : m ≢ node → IsFilled keys m → IsFilled (with_fresh keys (place_of node digit) fresh height) m
    filled_other u f = at_filled u f (copied_at keys (place_of node digit) fresh height (place_of m f.0))
      where
        at_filled : m ≢ node → (f : IsFilled keys m) → Copied keys (place_of node digit) fresh height (place_of m f.0)
            → IsFilled (with_fresh keys (place_of node digit) fresh height) m
        at_filled u f (here t e) = absurd (u (let small = f.1 in let is : m ≡ node = omega arith in is))
        at_filled u f (inside t v e) = absurd (apart (let small = f.1 in let is : m ≡ fresh = omega arith in is))
        at_filled u f (elsewhere t v e) = (f.0, f.1, λ n. f.2 (sym e ∙ n))

last_empty : (outside : Object → ℕ) (hand : List Key) (space : ℕ) (owner : Owner) {first last : Forest} {way : List ℕ} {taken : ℕ}
    → MadeOwn outside hand space owner first way last taken
    → AtEnd first outside hand space owner [] → IsWay way → length way ≤ 4 → top_digit way < 8 → NoneEmpty first.keys
    → (node : ℕ) → EndsAt last.keys space way (NodeObject node) → NoneEmptyBut last.keys node
last_empty outside hand space owner (root {first}) start is_way short top none node ends place m h apart = none place m h
last_empty outside hand space owner (kept {first} {last} {way} {taken} digit above own_here) start is_way short top none node ends place m h apart =
    let s = step last.keys (key_along last.keys (space_key space) way) digit (NodeObject node) ends in
    ⊎_elim
    (λ (u : m ≡ s.node). rw u (digit, is_way.0, λ n. let contra : None ≡ Some (NodeObject node) = ap named (sym n) ∙ s.here in cc))
    (λ (u : m ≢ s.node). last_empty outside hand space owner above start is_way.1 (omega arith) (shorter_top digit way top) none s.node s.upper_names place m h u)
    (cases_eq m s.node)
last_empty outside hand space owner (copied {first} {last} {way} {taken} digit upper fresh above shared upper_ends free within) start is_way short top none node ends place m h apart =
    let d = descend outside hand space owner above start is_way.1 (omega arith) (shorter_top digit way top) in
    let before = last_empty outside hand space owner above start is_way.1 (omega arith) (shorter_top digit way top) none upper upper_ends in
    let own = copy_makes_own last outside hand space upper digit fresh (4 - length way) way owner d.end.held.sound d.end.held.exact d.end.is_space free
    is_way.1 is_way.0 d.end.own upper_ends in
    let same : Some (NodeObject node) ≡ Some (NodeObject fresh) = sym ends ∙ own.1 in
    let is : node ≡ fresh = cc in
    fresh_empty last.keys upper digit fresh (4 - length way) before is_way.0 place m h (λ e. apart (e ∙ sym is))

pub descent_leaves_last_empty : DescentLeavesLastEmpty
descent_leaves_last_empty outside hand space owner first last way taken node held is_space space_owner is_way short top made ends none =
    last_empty outside hand space owner made (record { held = held; is_space = is_space; space_owner = space_owner; is_way = tt; own = tt })
    is_way short top none node ends

pub write_elsewhere_keeps_filled : WriteElsewhereKeepsFilled
write_elsewhere_keeps_filled keys place key nobody not_itself none key_filled p m h = ⊎_elim
    (λ (t : p ≡ place).
    let key_names : named key ≡ Some (NodeObject m) = ap named (sym (at-with_at keys place key)) ∙ ap (λ q. named (at (with_at keys place key) q)) (sym t) ∙ h in
    filled_still keys place key m (λ u. not_itself (key_names ∙ ap (λ n. Some (NodeObject n)) u)) (key_filled m key_names))
    (λ (t : p ≢ place).
    let was = ap named (sym (at-with_at-other keys place p key t)) ∙ h in
    filled_still keys place key m (λ u. nobody p (was ∙ ap (λ n. Some (NodeObject n)) u)) (none p m was))
    (cases_eq p place)

-- what stands below a key that fits at its place
all_below : (forest : Forest) → Sound forest → NoneEmpty forest.keys → (height place : ℕ) → FitsUnder height (at forest.keys place) → IsPart forest.keys height (at forest.keys place)
all_below forest sound none zero place fits = tt
all_below forest sound none (suc height) place fits =
    (fits, λ node e. (none place node e, λ digit below. all_below forest sound none height (place_of node digit) (next_fits node digit below e (at forest.keys place) refl)))
  where
    next_fits : (node digit : ℕ) → digit < 16 → named (at forest.keys place) ≡ Some (NodeObject node) → (key : Key) → at forest.keys place ≡ key
        → FitsUnder height (at forest.keys (place_of node digit))
    next_fits node digit below e (Segment n low) is =
        let same : n.0 ≡ node = (let s : Some (NodeObject n.0) ≡ Some (NodeObject node) = ap named (sym is) ∙ e in cc) in
        let fits_here : FitsUnder (suc height) (Segment n low) = rw is at fits in
        let next = fits_here.1 in
        let level : low ≡ height = omega arith in
        let lower = sound.heights place digit below in
        let lower_here : FitsUnder low (at forest.keys (place_of n.0 digit)) = rw is at lower in
        rw (same, level) at lower_here
    next_fits node digit below e (Page p w) is = absurd (page_no_node p.0 node (p.0 == 0) (ap named (sym is) ∙ e))
    next_fits node digit below e _ is = absurd (let contra : None ≡ Some (NodeObject node) = ap named (sym is) ∙ e in cc)

pub spaces_are_well_formed : SpacesAreWellFormed
spaces_are_well_formed forest outside hand space held none is =
    let root = held.rooted space is in
    record {
      parts = λ digit small. all_below forest held.sound none 5 (place_of space digit) (root.parts digit small);
      unused = root.unused;
    }
