-- What a check of a tree tells, level by level.
use Rattle.std.proofs.Common.{◌≡◌, ◌≢◌, ◌<◌, ◌+◌, ◌-◌, ◌*◌, ◌&&◌, ◌==◌, not, ℕ, zero, suc, Bool, true, false, Some, None, refl, ap, sym, subst, ◌∙◌, arith, ⊎_elim}
use Rattle.std.proofs.lemmas.Bool.{cases_eq}
use Rattle.kn_base.specs.declared.key.Key.{Key}
use Rattle.kn_base.specs.declared.key.Key.TheVariants.{Null, Page, Segment}
use Rattle.kn_base.specs.declared.key.NodeId.{NodeId}
use Rattle.kn_base.specs.declared.key.PageId.{PageId}
use Rattle.unix_model.specs.Tables.{at}
use Rattle.forest.specs.Objects.{NodeObject, named}
use Rattle.forest.specs.Walks.{place_of, key_below}
use Rattle.forest.specs.Forest.{FitsUnder, IsFilled}
use Rattle.forest.specs.Calls.{IsPart, IsWellFormed}
use Rattle.forest.proofs.MapLaws.{node_key, page_no_node}
use Rattle.seg_tree.proofs.Emptiness.{no_node}
use Rattle.seg_tree.specs.Steps.{segment_of}

-- what is shown of so many digits
all_more : (P : ℕ → Type 0) (digit : ℕ) (so_far here : Bool) → (so_far ≡ true → (d : ℕ) → d < digit → P d) → (here ≡ true → P digit) → (so_far && here) ≡ true → (d : ℕ) → d < digit + 1 → P d
all_more P digit true here before now e d less = ⊎_elim
    (λ (t : d ≡ digit). subst P (sym t) (now e))
    (λ (t : d ≢ digit). before refl d (omega arith))
    (cases_eq d digit)
all_more P digit false here before now e d less = cc

some_more : (P : ℕ → Type 0) (digit : ℕ) (so_far here : Bool) → (so_far ≡ false → (d : ℕ) × (d < digit) × (P d → ⊥)) → (here ≡ false → P digit → ⊥) → (so_far && here) ≡ false
    → (d : ℕ) × (d < digit + 1) × (P d → ⊥)
some_more P digit true here before now e = (digit, omega arith, now e)
some_more P digit false here before now e = let some = before refl in let below = some.1 in (some.0, omega arith, some.2)

-- .. of parts, where the key that was looked at is told in another way
pub parts_more : (keys places : ℕ → Key) (height digit : ℕ) (so_far here both : Bool) (key : Key) → (so_far ≡ true → (d : ℕ) → d < digit → IsPart keys height (places d)) → (here ≡ true → IsPart keys height key)
    → key ≡ places digit → both ≡ (so_far && here) → both ≡ true → (d : ℕ) → d < digit + 1 → IsPart keys height (places d)
parts_more keys places height digit so_far here both key before now is all e =
    all_more (λ d. IsPart keys height (places d)) digit so_far here before (λ t. subst (IsPart keys height) is (now t)) (sym all ∙ e)

pub no_parts_more : (keys places : ℕ → Key) (height digit : ℕ) (so_far here both : Bool) (key : Key) → (so_far ≡ false → (d : ℕ) × (d < digit) × (IsPart keys height (places d) → ⊥))
    → (here ≡ false → IsPart keys height key → ⊥) → key ≡ places digit → both ≡ (so_far && here) → both ≡ false → (d : ℕ) × (d < digit + 1) × (IsPart keys height (places d) → ⊥)
no_parts_more keys places height digit so_far here both key before now is all e =
    some_more (λ d. IsPart keys height (places d)) digit so_far here before (λ t part. now t (subst (IsPart keys height) (sym is) part)) (sym all ∙ e)

-- a part, with the level below by subtraction
abbrev pub PartAt : (ℕ → Key) → ℕ → Key → Type 0
PartAt keys height key =
    FitsUnder height key
    × ((node : ℕ) → named key ≡ Some (NodeObject node)
    → IsFilled keys node × ((digit : ℕ) → digit < 16 → IsPart keys (height - 1) (key_below keys key digit)))

pub part_of : (keys : ℕ → Key) (height : ℕ) (key : Key) → height ≢ 0 → PartAt keys height key → IsPart keys height key
part_of keys zero key some p = absurd (some refl)
part_of keys (suc h) key some p = (
  p.0,
  λ node e.
      let q = p.1 node e in
      let level : suc h - 1 ≡ h = omega arith in
      (q.0, λ d less. subst (λ k. IsPart keys h k) ((node_key keys key node e).below d) (subst (λ n. IsPart keys n (key_below keys key d)) level (q.1 d less))),
)

pub of_part : (keys : ℕ → Key) (height : ℕ) (key : Key) → height ≢ 0 → IsPart keys height key → PartAt keys height key
of_part keys zero key some p = absurd (some refl)
of_part keys (suc h) key some p = (
  p.0,
  λ node e.
      let q = p.1 node e in
      let level : h ≡ suc h - 1 = omega arith in
      (q.0, λ d less. subst (λ n. IsPart keys n (key_below keys key d)) level (subst (λ k. IsPart keys h k) (sym ((node_key keys key node e).below d)) (q.1 d less))),
)

pub part_zero : (keys : ℕ → Key) (height : ℕ) (key : Key) → height ≡ 0 → IsPart keys height key
part_zero keys height key e = subst (λ n. IsPart keys n key) (sym e) tt

pub part_leaf : (keys : ℕ → Key) (height : ℕ) (key : Key) → height ≢ 0 → ((node : ℕ) → named key ≡ Some (NodeObject node) → ⊥) → FitsUnder height key → IsPart keys height key
part_leaf keys height key some leaf fits = part_of keys height key some (fits, λ node e. absurd (leaf node e))

-- a node's key with all that stands below it
pub part_node : (keys : ℕ → Key) (height : ℕ) (key : Key) → height ≢ 0 → FitsUnder height key × ((node : ℕ) → named key ≡ Some (NodeObject node) → IsFilled keys node)
    → ((d : ℕ) → d < 16 → IsPart keys (height - 1) (key_below keys key d)) → IsPart keys height key
part_node keys height key some whole parts = part_of keys height key some (whole.0, λ node e. (whole.1 node e, parts))

pub no_part_below : (keys : ℕ → Key) (height : ℕ) (key : Key) → height ≢ 0 → (node : ℕ) → named key ≡ Some (NodeObject node)
    → ((d : ℕ) × (d < 16) × (IsPart keys (height - 1) (key_below keys key d) → ⊥)) → IsPart keys height key → ⊥
no_part_below keys height key some node e missing p = missing.2 (((of_part keys height key some p).1 node e).1 missing.0 missing.1)

pub no_part_broken : (keys : ℕ → Key) (height : ℕ) (key : Key) → height ≢ 0
    → (FitsUnder height key → ((node : ℕ) → named key ≡ Some (NodeObject node) → IsFilled keys node) → ⊥) → IsPart keys height key → ⊥
no_part_broken keys height key some broken p =
    let q = of_part keys height key some p in broken q.0 (λ node e. (q.1 node e).0)

pub no_part_unfit : (keys : ℕ → Key) (height : ℕ) (key : Key) → height ≢ 0 → (FitsUnder height key → ⊥) → IsPart keys height key → ⊥
no_part_unfit keys height key some unfit p = unfit (of_part keys height key some p).0

-- single keys
pub leaf_is : (key : Key) → ((node : NodeId) (height : ℕ) → key ≡ Segment node height → ⊥) → (node : ℕ) → named key ≡ Some (NodeObject node) → ⊥
leaf_is key none node h = no_node key none node h

pub segment_names : (key : Key) (node : NodeId) → segment_of key ≡ Some node → named key ≡ Some (NodeObject node.0)
segment_names (Segment n height) node h = let same : n ≡ node = cc in ap (λ (m : NodeId). Some (NodeObject m.0)) same
segment_names _ node h = cc

pub segment_no_name : (key : Key) → segment_of key ≡ None → (node : ℕ) → named key ≡ Some (NodeObject node) → ⊥
segment_no_name (Segment n height) none node h = cc
segment_no_name (Page page writable) none node h = page_no_node page.0 node (page.0 == 0) h
segment_no_name _ none node h = cc

named_same : (key : Key) (a b : ℕ) → named key ≡ Some (NodeObject a) → named key ≡ Some (NodeObject b) → a ≡ b
named_same key a b h k = let both : Some (NodeObject a) ≡ Some (NodeObject b) = sym h ∙ k in cc

filled_at : (keys : ℕ → Key) (node : ℕ) → ((d : ℕ) × (d < 16) × (keys (16 * node + d) ≢ Null)) → IsFilled keys node
unfolding at
filled_at keys node some = some

empty_at : (keys : ℕ → Key) (node : ℕ) → ((d : ℕ) → d < 16 → keys (16 * node + d) ≡ Null) → IsFilled keys node → ⊥
unfolding at
empty_at keys node nulls some = some.2 (nulls some.0 some.1)

pub node_filled : (keys : ℕ → Key) (key : Key) (node : NodeId) → segment_of key ≡ Some node → ((d : ℕ) × (d < 16) × (keys (16 * node.0 + d) ≢ Null))
    → (n : ℕ) → named key ≡ Some (NodeObject n) → IsFilled keys n
node_filled keys key node is some n h = subst (IsFilled keys) (named_same key node.0 n (segment_names key node is) h) (filled_at keys node.0 some)

pub node_not_filled : (keys : ℕ → Key) (key : Key) (node : NodeId) → segment_of key ≡ Some node → ((d : ℕ) → d < 16 → keys (16 * node.0 + d) ≡ Null)
    → ((n : ℕ) → named key ≡ Some (NodeObject n) → IsFilled keys n) → ⊥
node_not_filled keys key node is nulls filled = empty_at keys node.0 nulls (filled node.0 (segment_names key node is))

pub not_true : (test : Bool) → not test ≡ true → test ≡ false
not_true true e = cc
not_true false e = refl

pub not_false : (test : Bool) → not test ≡ false → test ≡ true
not_false true e = refl
not_false false e = cc

pub both_true : (one other : Bool) → (one && other) ≡ true → (one ≡ true) × (other ≡ true)
both_true true other e = (refl, e)
both_true false other e = cc

pub both_false : (one other : Bool) → (one && other) ≡ false → one ≡ true → other ≡ false
both_false true other e t = e
both_false false other e t = cc

-- the eight parts and the seven keys behind them
pub well_formed : (keys : ℕ → Key) (space : ℕ) → ((d : ℕ) → d < 8 → IsPart keys 5 (keys (16 * space + d))) → ((d : ℕ) → d < 7 → keys (16 * space + (8 + d)) ≡ Null) → IsWellFormed keys space
unfolding at
well_formed keys space parts nulls = record {
  parts = parts;
  unused = λ d low high. let is : 8 + (d - 8) ≡ d = omega arith in ap (λ n. keys (16 * space + n)) (sym is) ∙ nulls (d - 8) (omega arith);
}

pub not_well_formed : (keys : ℕ → Key) (space : ℕ) (one other : Bool)
    → (one ≡ false → (d : ℕ) × (d < 8) × (IsPart keys 5 (keys (16 * space + d)) → ⊥))
    → (other ≡ false → (d : ℕ) × (d < 7) × (keys (16 * space + (8 + d)) ≢ Null))
    → (one && other) ≡ false → IsWellFormed keys space → ⊥
unfolding at
not_well_formed keys space true other parts nulls e formed =
    let some = nulls e in
    let below = some.1 in
    some.2 (formed.unused (8 + some.0) (omega arith) (omega arith))
not_well_formed keys space false other parts nulls e formed = let some = parts refl in some.2 (formed.parts some.0 some.1)

-- a key that fits nowhere
pub no_fit : (height : ℕ) (key : Key) → (key ≡ Null → ⊥) → ((page : PageId) (writable : Bool) → key ≡ Page page writable → ⊥) → ((node : NodeId) (low : ℕ) → key ≡ Segment node low → ⊥) → FitsUnder height key → ⊥
no_fit height Null no_null no_page no_node fits = no_null refl
no_fit height (Page page writable) no_null no_page no_node fits = no_page page writable refl
no_fit height (Segment node low) no_null no_page no_node fits = no_node node low refl
no_fit height _ no_null no_page no_node fits = fits

-- two tests of which one says no
pub broken_by : {A B : Type 0} (one other : Bool) → (one && other) ≡ false → (one ≡ false → A → ⊥) → (other ≡ false → B → ⊥) → A → B → ⊥
broken_by true other e first second a b = second e b
broken_by false other e first second a b = first refl a

pub whole_by : {A B : Type 0} (one other : Bool) → (one && other) ≡ true → (one ≡ true → A) → (other ≡ true → B) → A × B
whole_by true other e first second = (first refl, second e)
whole_by false other e first second = cc

-- the key below another one
pub below_at : (keys : ℕ → Key) (upper key : Key) (node : NodeId) (height digit : ℕ) → upper ≡ Segment node height → key ≡ keys (16 * node.0 + digit) → key ≡ key_below keys upper digit
unfolding at
below_at keys upper key node height digit is key_is = key_is ∙ ap (λ k. key_below keys k digit) (sym is)

pub below_none : (keys : ℕ → Key) (upper : Key) (digit : ℕ) → ((node : NodeId) (height : ℕ) → upper ≡ Segment node height → ⊥) → Null ≡ key_below keys upper digit
below_none keys (Segment node height) digit none = absurd (none node height refl)
below_none keys _ digit none = refl

below_in_range : (keys : ℕ → Key) (nodes : ℕ) → ((place node : ℕ) → named (keys place) ≡ Some (NodeObject node) → node < nodes) → (upper : Key) (digit node : ℕ)
    → named (key_below keys upper digit) ≡ Some (NodeObject node) → node < nodes
unfolding at
below_in_range keys nodes all (Segment n height) digit node h = all (place_of n.0 digit) node h
below_in_range keys nodes all _ digit node h = cc

-- the key that was found there names a node in range, ..
pub named_in_range : (keys : ℕ → Key) (nodes : ℕ) → ((place node : ℕ) → named (keys place) ≡ Some (NodeObject node) → node < nodes) → (upper key : Key) (digit node : ℕ)
    → key ≡ key_below keys upper digit → named key ≡ Some (NodeObject node) → node < nodes
named_in_range keys nodes all upper key digit node is h = below_in_range keys nodes all upper digit node (ap named (sym is) ∙ h)

-- .. as does the key that was found at a place
pub place_in_range : (keys : ℕ → Key) (nodes : ℕ) → ((place node : ℕ) → named (keys place) ≡ Some (NodeObject node) → node < nodes) → (key : Key) (place node : ℕ)
    → key ≡ keys place → named key ≡ Some (NodeObject node) → node < nodes
place_in_range keys nodes all key place node is h = all place node (ap named (sym is) ∙ h)
