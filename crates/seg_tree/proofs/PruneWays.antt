-- A node at the end of an own way has become empty, and is taken out.
use Rattle.std.proofs.Common.{◌≡◌, ◌≢◌, ◌<◌, ◌-◌, ℕ, Some, None, List, [], ◌∷◌, refl, ap, sym, subst, ◌∙◌, arith, ⊎_elim}
use Rattle.std.proofs.lemmas.Bool.{cases_eq}
use Rattle.kn_base.specs.declared.key.Key.{Key}
use Rattle.kn_base.specs.declared.key.Key.TheVariants.{Null, Segment}
use Rattle.unix_model.specs.Tables.{at, with_at}
use Rattle.unix_model.proofs.TableLaws.{at-with_at, at-with_at-other}
use Rattle.forest.specs.Objects.{Object, PageObject, NodeObject, named}
use Rattle.forest.specs.Walks.{place_of, key_below, key_along, space_key, IsWay}
use Rattle.forest.specs.Forest.{Forest, Held, IsSpace, EndsAt, OwnWay, CountedOnce, FitsUnder, NobodyNames, NoneEmptyBut}
use Rattle.forest.specs.Changes.{with_key, with_given}
use Rattle.forest.specs.Release.{Release, ReleaseStep, done, more, nothing, shared, page, take_out, empty_node}
use Rattle.forest.proofs.WalkLaws.{step}
use Rattle.forest.proofs.HeldLaws.{other_object}
use Rattle.forest.proofs.OwnLaws.{alone, once_at, own_is_alone}
use Rattle.forest.proofs.MapLaws.{node_key}
use Rattle.std.specs.Bool.{⊤}
use Rattle.forest.proofs.OwnMaps.{OwnEnd, own_end, short_way}
use Rattle.forest.proofs.CopyLaws.{counted_once, once}
use Rattle.forest.proofs.DescentLaws.{own_kept, leaf_names_page}
use Rattle.forest.proofs.EmptyLaws.{pruning_empties_above, filled_still, named_before}
use Rattle.seg_tree.proofs.Levels.{below_end}

-- a way stays own where a node is given back that nobody names
own_given : (forest : Forest) (node space : ℕ) → NobodyNames forest.keys (NodeObject node) → (way : List ℕ) → OwnWay forest space way → OwnWay (with_given forest (NodeObject node)) space way
own_given forest node space nobody [] own = tt
own_given forest node space nobody (digit ∷ way) own =
    let o = once forest (key_along forest.keys (space_key space) (digit ∷ way)) own.0 in
    let s = step forest.keys (key_along forest.keys (space_key space) way) digit o.object o.names_it in (
      counted_once (with_given forest (NodeObject node)) (key_along forest.keys (space_key space) (digit ∷ way)) o.object o.names_it
          (other_object forest.count (NodeObject node) 0 o.object (λ t. nobody (place_of s.node digit) (s.here ∙ ap Some t)) ∙ o.counted),
      own_given forest node space nobody way own.1,
    )

-- a way on which a node doesn't stand
abbrev Misses : (ℕ → Key) → (space node : ℕ) → List ℕ → Type 0
Misses keys space node [] = ⊤
Misses keys space node (digit ∷ way) = (EndsAt keys space (digit ∷ way) (NodeObject node) → ⊥) × Misses keys space node way

-- no empty node stands where a way goes on to a key
alive_misses : (keys : ℕ → Key) (space node : ℕ) → ((d : ℕ) → d < 16 → at keys (place_of node d) ≡ Null)
    → (digit : ℕ) (way : List ℕ) → digit < 16 → IsWay way → key_along keys (space_key space) (digit ∷ way) ≢ Null → Misses keys space node way
alive_misses keys space node nulls digit [] less is some = tt
alive_misses keys space node nulls digit (next ∷ way) less is some = (
  λ ends. some ((node_key keys (key_along keys (space_key space) (next ∷ way)) node ends).below digit ∙ nulls digit less),
  alive_misses keys space node nulls next way is.0 is.1 (λ null. some (ap (λ key. key_below keys key digit) null)),
)

-- a key at a digit, where Null was written at another place
below_else : (keys : ℕ → Key) (place : ℕ) (upper : Key) (digit : ℕ) → (key_below keys upper digit ≡ at keys place → ⊥) → key_below (with_at keys place Null) upper digit ≡ key_below keys upper digit
below_else keys place (Segment n height) digit apart = at-with_at-other keys place (place_of n.0 digit) Null (λ t. apart (ap (at keys) t))
below_else keys place _ digit apart = refl

module _ (forest : Forest) (outside : Object → ℕ) (space above node digit : ℕ) (way : List ℕ) (held : Held forest outside []) (is_space : IsSpace forest [] space)
    (w : IsWay way) (below : digit < 16) (own : OwnWay forest space (digit ∷ way)) (ends : EndsAt forest.keys space (digit ∷ way) (NodeObject node))
    (ends_above : EndsAt forest.keys space way (NodeObject above)) where
  pub off_stands : named (at forest.keys (place_of above digit)) ≡ Some (NodeObject node)
  off_stands = ap named (sym (below_end forest.keys space above digit way ends_above)) ∙ ends

  pub off_once : forest.count (NodeObject node) ≡ 1
  off_once = once_at forest (key_along forest.keys (space_key space) (digit ∷ way)) (NodeObject node) own.0 ends

  off_only : (place : ℕ) → named (at forest.keys place) ≡ Some (NodeObject node) → place ≡ place_of above digit
  off_only place h = alone forest outside [] held.sound held.exact (NodeObject node) off_once place (place_of above digit) h off_stands

  nobody_left : NobodyNames (with_at forest.keys (place_of above digit) Null) (NodeObject node)
  nobody_left place h =
      let was = named_before forest.keys (place_of above digit) place node h in
      was.0 (off_only place was.1)

  the_end : OwnEnd forest.keys space way above
  the_end = own_end forest outside [] space above way held.sound held.exact is_space w own.1 ends_above

  pub off_own : OwnWay (with_given (with_key forest (place_of above digit) Null) (NodeObject node)) space way
  off_own = own_given (with_key forest (place_of above digit) Null) node space nobody_left way
      (own_kept forest space above digit way Null the_end below way w (omega arith) own.1)

  pub off_ends : EndsAt (with_at forest.keys (place_of above digit) Null) space way (NodeObject above)
  off_ends = ap named (short_way forest.keys space above digit way Null the_end below space the_end.free way w (omega arith)) ∙ ends_above

  pub off_but : NoneEmptyBut forest.keys node → NoneEmptyBut (with_at forest.keys (place_of above digit) Null) above
  off_but but = pruning_empties_above forest.keys above digit node but below off_only

  -- no own way of another space comes by the node
  apart_misses : (mine : ℕ) → IsSpace forest [] mine → mine ≢ space → (v : List ℕ) → IsWay v → OwnWay forest mine v → Misses forest.keys mine node v
  apart_misses mine is apart [] v_is v_own = tt
  apart_misses mine is apart (d ∷ v) v_is v_own = (
    λ v_ends. apart (sym (own_is_alone forest outside [] mine space (d ∷ v) (digit ∷ way) (NodeObject node) held.sound held.exact is is_space v_is (below, w) v_own v_ends ends).0),
    apart_misses mine is apart v v_is.1 v_own.1,
  )

  off_along : (mine : ℕ) (v : List ℕ) → Misses forest.keys mine node v
      → key_along (with_at forest.keys (place_of above digit) Null) (space_key mine) v ≡ key_along forest.keys (space_key mine) v
  off_along mine [] misses = refl
  off_along mine (d ∷ v) misses =
      ap (λ key. key_below (with_at forest.keys (place_of above digit) Null) key d) (off_along mine v misses.1)
      ∙ below_else forest.keys (place_of above digit) (key_along forest.keys (space_key mine) v) d (λ t. misses.0 (ap named t ∙ off_stands))

  missing_kept : (mine : ℕ) (v : List ℕ) → Misses forest.keys mine node v → OwnWay forest mine v → OwnWay (with_given (with_key forest (place_of above digit) Null) (NodeObject node)) mine v
  missing_kept mine [] misses v_own = tt
  missing_kept mine (d ∷ v) misses v_own =
      let o = once forest (key_along forest.keys (space_key mine) (d ∷ v)) v_own.0 in (
        counted_once (with_given (with_key forest (place_of above digit) Null) (NodeObject node)) (key_along (with_at forest.keys (place_of above digit) Null) (space_key mine) (d ∷ v)) o.object
            (ap named (off_along mine (d ∷ v) misses) ∙ o.names_it)
            (other_object forest.count (NodeObject node) 0 o.object (λ t. misses.0 (o.names_it ∙ ap Some t)) ∙ o.counted),
        missing_kept mine v misses.1 v_own.1,
      )

  pub off_ways : (mine : ℕ) → IsSpace forest [] mine → mine ≢ space → (v : List ℕ) → IsWay v → OwnWay forest mine v
      → OwnWay (with_given (with_key forest (place_of above digit) Null) (NodeObject node)) mine v
  off_ways mine is apart v v_is v_own = missing_kept mine v (apart_misses mine is apart v v_is v_own) v_own

  -- nor does a way at whose end something stands, where the node is empty
  pub off_alive : ((d : ℕ) → d < 16 → at forest.keys (place_of node d) ≡ Null) → (d : ℕ) (v : List ℕ) → d < 16 → IsWay v → key_along forest.keys (space_key space) (d ∷ v) ≢ Null
      → OwnWay forest space v → OwnWay (with_given (with_key forest (place_of above digit) Null) (NodeObject node)) space v
  off_alive nulls d v less v_is some v_own = missing_kept space v (alive_misses forest.keys space node nulls d v less v_is some) v_own

-- a page's key was released: all nodes are as they were
pub record KeepsNodes (old new : Forest) : Type 0 where
  pub keys : new.keys ≡ old.keys
  pub owners : (node : ℕ) → new.owner (NodeObject node) ≡ old.owner (NodeObject node)
  pub counts : (node : ℕ) → new.count (NodeObject node) ≡ old.count (NodeObject node)

leaf_step : {old new : Forest} {before after : List Key} → ReleaseStep old before new after → (was : Key) → FitsUnder 1 was → before ≡ was ∷ [] → KeepsNodes old new × (after ≡ [])
leaf_step (nothing key none) was fits e = (record { keys = refl; owners = λ n. refl; counts = λ n. refl }, (let tail = e in cc))
leaf_step (shared {forest} key object h two) was fits e =
    let same : key ≡ was = cc in (
      record {
        keys = refl;
        owners = λ n. refl;
        counts = λ n. other_object forest.count object (forest.count object - 1) (NodeObject n) (λ t. leaf_names_page was n fits (ap named (sym same) ∙ h ∙ ap Some (sym t)));
      },
      (let tail = e in cc),
    )
leaf_step (page {forest} key number h one) was fits e = (
  record {
    keys = refl;
    owners = λ n. other_object forest.owner (PageObject number) None (NodeObject n) (λ t. cc);
    counts = λ n. other_object forest.count (PageObject number) 0 (NodeObject n) (λ t. cc);
  },
  (let tail = e in cc),
)
leaf_step (take_out key node digit h one below) was fits e = let same : key ≡ was = cc in absurd (leaf_names_page was node fits (ap named (sym same) ∙ h))
leaf_step (empty_node key node h one nulls) was fits e = let same : key ≡ was = cc in absurd (leaf_names_page was node fits (ap named (sym same) ∙ h))

no_step : {old new : Forest} {before after : List Key} → ReleaseStep old before new after → before ≡ [] → ⊥
no_step (nothing key none) e = cc
no_step (shared key object h two) e = cc
no_step (page key number h one) e = cc
no_step (take_out key node digit h one below) e = cc
no_step (empty_node key node h one nulls) e = cc

no_release : {old new : Forest} {before after : List Key} → Release old before new after → before ≡ [] → new ≡ old
no_release done e = refl
no_release (more first rest) e = absurd (no_step first e)

pub leaf_release : {old new : Forest} {before after : List Key} → Release old before new after → (was : Key) → FitsUnder 1 was → before ≡ was ∷ [] → after ≡ [] → KeepsNodes old new
leaf_release done was fits e f = absurd (let no : was ∷ [] ≡ [] = sym e ∙ f in cc)
leaf_release (more {old} {next} {new} first rest) was fits e f =
    let one = leaf_step first was fits e in
    subst (KeepsNodes old) (sym (no_release rest one.1)) one.0

-- so the way is own as it was
pub nodes_own : (old new : Forest) → KeepsNodes old new → (space : ℕ) (way : List ℕ) (node : ℕ) → EndsAt old.keys space way (NodeObject node) → OwnWay old space way → OwnWay new space way
nodes_own old new keeps space [] node ends own = tt
nodes_own old new keeps space (digit ∷ way) node ends own =
    let s = step old.keys (key_along old.keys (space_key space) way) digit (NodeObject node) ends in (
      subst (λ (keys : ℕ → Key). CountedOnce new (key_along keys (space_key space) (digit ∷ way))) (sym keeps.keys)
          (counted_once new (key_along old.keys (space_key space) (digit ∷ way)) (NodeObject node) ends
          (keeps.counts node ∙ once_at old (key_along old.keys (space_key space) (digit ∷ way)) (NodeObject node) own.0 ends)),
      nodes_own old new keeps space way s.node s.upper_names own.1,
    )

-- a page's key, or Null, was written in the node that may be empty
pub leaf_written : (keys : ℕ → Key) (node digit : ℕ) (key : Key) → NoneEmptyBut keys node → digit < 16 → FitsUnder 1 key → NoneEmptyBut (with_at keys (place_of node digit) key) node
leaf_written keys node digit key but below fits place m h apart = ⊎_elim
    (λ (t : place ≡ place_of node digit). absurd (leaf_names_page key m fits
    (ap named (sym (at-with_at keys (place_of node digit) key)) ∙ ap (λ q. named (at (with_at keys (place_of node digit) key) q)) (sym t) ∙ h)))
    (λ (t : place ≢ place_of node digit).
    filled_still keys (place_of node digit) key m (λ e. apart (let is : m ≡ node = omega arith in is))
    (but place m (ap named (sym (at-with_at-other keys (place_of node digit) place key t)) ∙ h) apart))
    (cases_eq place (place_of node digit))
