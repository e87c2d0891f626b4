-- The calls that put a fresh node in its place, put together.
use Rattle.std.proofs.Common.{◌≡◌, ◌≢◌, ◌≤◌, ◌+◌, ◌-◌, ◌%◌, ℕ, Option, Some, None, ◌∷◌, refl, ap, sym, subst, ◌∙◌, arith, ⊎_elim}
use Rattle.std.specs.Option.{is_some, IsSome}
use Rattle.kn_base.specs.declared.key.Key.{Key}
use Rattle.kn_base.specs.declared.key.Key.TheVariants.{Null, Page, Segment}
use Rattle.kn_base.specs.declared.key.NodeId.{NodeId}
use Rattle.kernel_tables.specs.Kernel.{Kernel}
use Rattle.kernel_tables.specs.Rows.{entry_at}
use Rattle.space_bank.specs.FreeList.{shares}
use Rattle.space_bank.specs.Shares.{Shares}
use Rattle.unix_model.specs.Tables.{at, with_at}
use Rattle.forest.specs.Objects.{Object, NodeObject, Owner, named}
use Rattle.forest.specs.Walks.{place_of}
use Rattle.forest.specs.Forest.{Forest, FitsUnder, CountedOnce}
use Rattle.forest.specs.Changes.{with_key, with_taken, lowered, with_copy}
use Rattle.forest.proofs.CopyLaws.{counted_once, once}
use Rattle.kernel_forest.specs.Trees.{forest_of, IsTreeKey}
use Rattle.kernel_forest.specs.Moves.{Changes, TakesFresh, PutsKey, LowersKey}
use Rattle.seg_tree.specs.Steps.{MayCopy, MayOwn, FreshChild, OwnsChild, kept_child, copying, segment_of}
use Rattle.kernel_forest.proofs.Moves.{node_shares, uncounted_in_hand}
use Rattle.seg_tree.proofs.Copying.{steps_trans, steps_to}
use Rattle.forest.proofs.CopyLaws.{none_below}
use Rattle.forest.specs.Objects.{names, with_object}
use Rattle.forest.specs.Walks.{key_below}
use Rattle.forest.specs.Changes.{with_fresh, copied_count}
use Rattle.forest.proofs.ExactLaws.{bit, with_object-here}
use Rattle.forest.proofs.ReleaseLaws.{some_not_none, is_or_not}
use Rattle.forest.proofs.HeldLaws.{other_object}
use Rattle.forest.proofs.OwnLaws.{owned_object}
use Rattle.forest.proofs.CopyHeld.{Copied, here, inside, elsewhere, copied_at}
use Rattle.unix_model.specs.Tables.{count_below}
use Rattle.unix_model.proofs.TableLaws.{at-with_at, at-with_at-other}
use Rattle.seg_tree.proofs.Children.{same_parts, Shared, may_copy, node_owned_now, child_owned_now, stands_now, two_now, copy_is}

-- the tables while a shared node is copied
module _ (k0 k1 k2 k3 k4 : Kernel) (node digit height : ℕ) (child fresh : NodeId) (to : Owner)
    (may : MayOwn (forest_of k0) node digit height to) (stands : at (forest_of k0).keys (place_of node digit) ≡ Segment child height)
    (two : 2 ≤ (forest_of k0).count (NodeObject child.0)) (takes : TakesFresh k0 k1 fresh.0 to) where
  pub sharing : Shared (forest_of k0) node digit child.0 height fresh.0 to
  sharing = record { may = may; stands = stands; two = two; unowned = takes.unowned }

  pub may_copy_child : MayCopy (forest_of k1) child.0 fresh.0
  may_copy_child = subst (λ f. MayCopy f child.0 fresh.0) (sym takes.steps.forest_now) (may_copy (forest_of k0) node digit child.0 height fresh.0 to sharing)

  pub copied_forest : Changes k1 k2 (copying (forest_of k1) child.0 fresh.0 16) 0
      → forest_of k2 ≡ copying (with_taken (forest_of k0) (NodeObject fresh.0) to) child.0 fresh.0 16
  copied_forest copies = copies.steps.forest_now ∙ ap (λ f. copying f child.0 fresh.0 16) takes.steps.forest_now

  pub node_still_owned : Changes k1 k2 (copying (forest_of k1) child.0 fresh.0 16) 0 → IsSome ((forest_of k2).owner (NodeObject node))
  node_still_owned copies =
      ap (λ (f : Forest). is_some (f.owner (NodeObject node))) (copied_forest copies) ∙ node_owned_now (forest_of k0) node digit child.0 height fresh.0 to sharing

  pub still_stands : Changes k1 k2 (copying (forest_of k1) child.0 fresh.0 16) 0 → at (forest_of k2).keys (place_of node digit) ≡ Segment child height
  still_stands copies =
      ap (λ (f : Forest). at f.keys (place_of node digit)) (copied_forest copies) ∙ stands_now (forest_of k0) node digit child.0 height fresh.0 to sharing

  pub still_tree : Changes k1 k2 (copying (forest_of k1) child.0 fresh.0 16) 0 → IsTreeKey (at (forest_of k2).keys (place_of node digit))
  still_tree copies = subst IsTreeKey (sym (still_stands copies)) tt

  pub put_forest : Changes k1 k2 (copying (forest_of k1) child.0 fresh.0 16) 0 → PutsKey k2 k3 (place_of node digit) (Segment fresh height)
      → forest_of k3 ≡ with_key (copying (with_taken (forest_of k0) (NodeObject fresh.0) to) child.0 fresh.0 16) (place_of node digit) (Segment fresh height)
  put_forest copies puts = puts.steps.forest_now ∙ ap (λ f. with_key f (place_of node digit) (Segment fresh height)) (copied_forest copies)

  pub child_still_owned : Changes k1 k2 (copying (forest_of k1) child.0 fresh.0 16) 0 → PutsKey k2 k3 (place_of node digit) (Segment fresh height)
      → IsSome ((forest_of k3).owner (NodeObject child.0))
  child_still_owned copies puts =
      ap (λ (f : Forest). is_some (f.owner (NodeObject child.0))) (put_forest copies puts) ∙ child_owned_now (forest_of k0) node digit child.0 height fresh.0 to sharing

  pub still_two : Changes k1 k2 (copying (forest_of k1) child.0 fresh.0 16) 0 → PutsKey k2 k3 (place_of node digit) (Segment fresh height)
      → 2 ≤ (forest_of k3).count (NodeObject child.0)
  still_two copies puts =
      subst (λ (f : Forest). 2 ≤ f.count (NodeObject child.0)) (sym (put_forest copies puts)) (two_now (forest_of k0) node digit child.0 height fresh.0 to sharing)

  not_once : CountedOnce (forest_of k0) (at (forest_of k0).keys (place_of node digit)) → ⊥
  not_once h =
      let o = once (forest_of k0) (at (forest_of k0).keys (place_of node digit)) h in
      let same : Some (NodeObject child.0) ≡ Some o.object = sym (ap named stands) ∙ o.names_it in
      let is : NodeObject child.0 ≡ o.object = cc in
      let one = o.counted in
      let more : 2 ≤ (forest_of k0).count o.object = subst (λ x. 2 ≤ (forest_of k0).count x) is two in
      omega arith

  pub fresh_copied : Changes k1 k2 (copying (forest_of k1) child.0 fresh.0 16) 0 → PutsKey k2 k3 (place_of node digit) (Segment fresh height)
      → LowersKey k3 k4 (Segment child height) → FreshChild k0 k4 (place_of node digit) height to fresh.0
  fresh_copied copies puts lowers = record {
    shared = not_once;
    within = takes.within;
    free = takes.free;
    changes = record {
      steps = steps_trans k0 k1 k4 (with_taken (forest_of k0) (NodeObject fresh.0) to) (with_copy (forest_of k0) (place_of node digit) fresh.0 height to) 1 0 takes.steps
          (steps_trans k1 k2 k4 (copying (forest_of k1) child.0 fresh.0 16) (with_copy (forest_of k0) (place_of node digit) fresh.0 height to) 0 0 copies.steps
          (steps_trans k2 k3 k4 (with_key (forest_of k2) (place_of node digit) (Segment fresh height)) (with_copy (forest_of k0) (place_of node digit) fresh.0 height to) 0 0 puts.steps
          (steps_to k3 k4 (lowered (forest_of k3) (Segment child height)) (with_copy (forest_of k0) (place_of node digit) fresh.0 height to) 0 0
          (ap (λ f. lowered f (Segment child height)) (put_forest copies puts) ∙ copy_is (forest_of k0) node digit child.0 height fresh.0 to sharing) refl lowers.steps)));
      shares = λ outside hand counted.
          lowers.shares outside hand
          (subst (λ was. Shares k3 outside (was ∷ hand)) (still_stands copies)
          (puts.shares outside hand (copies.shares outside (Segment fresh height ∷ hand) (takes.shares outside hand height counted))));
    };
  }

-- a fresh node where none stood
pub added_is : (forest : Forest) (node digit fresh height : ℕ) (to : Owner) → MayOwn forest node digit height to → at forest.keys (place_of node digit) ≡ Null
    → forest.owner (NodeObject fresh) ≡ None
    → with_key (with_taken forest (NodeObject fresh) to) (place_of node digit) (Segment (record { 0 = fresh }) height) ≡ with_copy forest (place_of node digit) fresh height to
unfolding copied_count
added_is forest node digit fresh height to may empty unowned =
    same_parts (with_key (with_taken forest (NodeObject fresh) to) (place_of node digit) (Segment (record { 0 = fresh }) height)) (with_copy forest (place_of node digit) fresh height to)
    refl (λ p. go p (copied_at forest.keys (place_of node digit) fresh height p)) refl counts
  where
    go : (p : ℕ) → Copied forest.keys (place_of node digit) fresh height p
        → at (with_at forest.keys (place_of node digit) (Segment (record { 0 = fresh }) height)) p ≡ at (with_fresh forest.keys (place_of node digit) fresh height) p
    go p (here t e) =
        ap (at (with_at forest.keys (place_of node digit) (Segment (record { 0 = fresh }) height))) t
        ∙ at-with_at forest.keys (place_of node digit) (Segment (record { 0 = fresh }) height) ∙ sym e
    go p (inside t apart e) =
        at-with_at-other forest.keys (place_of node digit) p (Segment (record { 0 = fresh }) height) apart
        ∙ may.sound.masked p (rw t unowned)
        ∙ sym (e ∙ ap (λ key. key_below forest.keys key (p % 16)) empty)
    go p (elsewhere t apart e) =
        at-with_at-other forest.keys (place_of node digit) p (Segment (record { 0 = fresh }) height) apart ∙ sym e

    counts : (object : Object) → with_object forest.count (NodeObject fresh) 1 object ≡ with_object (copied_count forest (place_of node digit)) (NodeObject fresh) 1 object
    counts object = ⊎_elim
        (λ (t : object ≡ NodeObject fresh). rw (t, with_object-here forest.count (NodeObject fresh) 1, with_object-here (copied_count forest (place_of node digit)) (NodeObject fresh) 1) refl)
        (λ (t : object ≢ NodeObject fresh).
        let none : count_below (λ d. names object (key_below forest.keys Null d)) 16 ≡ 0 = none_below (λ d. names object (key_below forest.keys Null d)) 16 (λ d less. refl) in
        other_object forest.count (NodeObject fresh) 1 object t
        ∙ (let e : forest.count object ≡ forest.count object - bit (names object Null) + count_below (λ d. names object (key_below forest.keys Null d)) 16 = omega arith in e)
        ∙ ap (λ key. forest.count object - bit (names object key) + count_below (λ d. names object (key_below forest.keys key d)) 16) (sym empty)
        ∙ sym (other_object (copied_count forest (place_of node digit)) (NodeObject fresh) 1 object t))
        (is_or_not object (NodeObject fresh))

null_not_once : (forest : Forest) (key : Key) → key ≡ Null → CountedOnce forest key → ⊥
null_not_once forest key empty h =
    let o = once forest key h in let no : None ≡ Some o.object = sym (ap named empty) ∙ o.names_it in cc

pub fresh_added : (k0 k1 k2 : Kernel) (node digit height : ℕ) (fresh : NodeId) (to : Owner) → MayOwn (forest_of k0) node digit height to
    → at (forest_of k0).keys (place_of node digit) ≡ Null → TakesFresh k0 k1 fresh.0 to → PutsKey k1 k2 (place_of node digit) (Segment fresh height)
    → FreshChild k0 k2 (place_of node digit) height to fresh.0
fresh_added k0 k1 k2 node digit height fresh to may empty takes puts =
    let still : at (forest_of k1).keys (place_of node digit) ≡ Null = ap (λ (f : Forest). at f.keys (place_of node digit)) takes.steps.forest_now ∙ empty in
    record {
      shared = null_not_once (forest_of k0) (at (forest_of k0).keys (place_of node digit)) empty;
      within = takes.within;
      free = takes.free;
      changes = record {
        steps = steps_trans k0 k1 k2 (with_taken (forest_of k0) (NodeObject fresh.0) to) (with_copy (forest_of k0) (place_of node digit) fresh.0 height to) 1 0 takes.steps
            (steps_to k1 k2 (with_key (forest_of k1) (place_of node digit) (Segment fresh height)) (with_copy (forest_of k0) (place_of node digit) fresh.0 height to) 0 0
            (ap (λ f. with_key f (place_of node digit) (Segment fresh height)) takes.steps.forest_now
            ∙ added_is (forest_of k0) node digit fresh.0 height to may empty takes.unowned) refl puts.steps);
        shares = λ outside hand counted.
            (uncounted_in_hand k2 outside hand Null refl tt).1
            (subst (λ was. Shares k2 outside (was ∷ hand)) still (puts.shares outside hand (takes.shares outside hand height counted)));
      };
    }

-- a node of a tree is still one after another node was taken
pub still_owned : (k0 k1 : Kernel) (fresh : ℕ) (to : Owner) (object : Object) → TakesFresh k0 k1 fresh to → IsSome ((forest_of k0).owner object) → IsSome ((forest_of k1).owner object)
still_owned k0 k1 fresh to object takes some =
    ap (λ (f : Forest). is_some (f.owner object)) takes.steps.forest_now
    ∙ ap is_some (other_object (forest_of k0).owner (NodeObject fresh) (Some to) object
    (λ t. some_not_none ((forest_of k0).owner object) some (ap (forest_of k0).owner t ∙ takes.unowned))) ∙ some

pub still_null : (k0 k1 : Kernel) (fresh : ℕ) (to : Owner) (place : ℕ) → TakesFresh k0 k1 fresh to → at (forest_of k0).keys place ≡ Null → IsTreeKey (at (forest_of k1).keys place)
still_null k0 k1 fresh to place takes empty =
    subst IsTreeKey (sym (ap (λ (f : Forest). at f.keys place) takes.steps.forest_now ∙ empty)) tt

-- what stands at a place of a node above pages' nodes: a node of the next lower height, or nothing
segment_some : (height : ℕ) (key : Key) (node : NodeId) → FitsUnder (height + 1) key → segment_of key ≡ Some node → key ≡ Segment node height
segment_some height (Segment n low) node fits e =
    let next = fits.1 in
    let is : n ≡ node = cc in
    let same : low ≡ height = omega arith in
    rw (is, same) refl
segment_some height (Page page writable) node fits e = cc
segment_some height Null node fits e = cc
segment_some height _ node fits e = absurd fits

-- .. as it is found there
pub child_stands : (forest : Forest) (node digit height : ℕ) (to : Owner) (key : Key) (told : Option NodeId) (child : NodeId) → MayOwn forest node digit height to → key ≡ at forest.keys (place_of node digit)
    → told ≡ segment_of key → told ≡ Some child → at forest.keys (place_of node digit) ≡ Segment child height
child_stands forest node digit height to key told child may is names some =
    segment_some height (at forest.keys (place_of node digit)) child may.fits (ap segment_of (sym is) ∙ sym names ∙ some)

pub segment_none : (height : ℕ) (key : Key) → 1 ≤ height → FitsUnder (height + 1) key → segment_of key ≡ None → key ≡ Null
segment_none height (Segment n low) positive fits e = cc
segment_none height (Page page writable) positive fits e = absurd (omega arith)
segment_none height Null positive fits e = refl
segment_none height _ positive fits e = absurd fits

pub named_owned : (forest : Forest) (node digit height : ℕ) (to : Owner) (child : NodeId) → MayOwn forest node digit height to
    → at forest.keys (place_of node digit) ≡ Segment child height → IsSome (forest.owner (NodeObject child.0))
named_owned forest node digit height to child may stands = owned_object forest may.sound (place_of node digit) (NodeObject child.0) (ap named stands)

-- a node of a tree is counted as often as is told
pub once_told : (kernel : Kernel) (node count : ℕ) → IsSome ((forest_of kernel).owner (NodeObject node)) → count ≡ shares (entry_at kernel.node_entries node) → count ≡ 1
    → (forest_of kernel).count (NodeObject node) ≡ 1
once_told kernel node count owned told one = node_shares kernel node owned ∙ sym told ∙ one

pub not_once_told : (kernel : Kernel) (node count : ℕ) → IsSome ((forest_of kernel).owner (NodeObject node)) → count ≡ shares (entry_at kernel.node_entries node) → count ≢ 1
    → (forest_of kernel).count (NodeObject node) ≢ 1
not_once_told kernel node count owned told many one = many (told ∙ sym (node_shares kernel node owned) ∙ one)

-- a child that is counted once is the node's own
pub own_already : (kernel : Kernel) (node digit height count : ℕ) (known to : Owner) (child : NodeId) → MayOwn (forest_of kernel) node digit height known
    → at (forest_of kernel).keys (place_of node digit) ≡ Segment child height → count ≡ shares (entry_at kernel.node_entries child.0) → count ≡ 1
    → OwnsChild kernel kernel (place_of node digit) height to child.0
own_already kernel node digit height count known to child may stands told one =
    let counted = once_told kernel child.0 count (named_owned (forest_of kernel) node digit height known child may stands) told one in
    kept_child (counted_once (forest_of kernel) (at (forest_of kernel).keys (place_of node digit)) (NodeObject child.0) (ap named stands) counted) (ap named stands) refl
