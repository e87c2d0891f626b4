-- One level down: a fresh node in place of a shared one, or where none stood.
use Rattle.std.proofs.Common.{◌≡◌, ◌≢◌, ◌<◌, ◌≤◌, ◌+◌, ◌-◌, ◌/◌, ◌%◌, ℕ, true, Option, Some, None, refl, ap, sym, subst, ◌∙◌, arith, ⊎_elim}
use Rattle.std.specs.Option.{is_some, IsSome}
use Rattle.std.proofs.Math.Path.{fun_ext}
use Rattle.kn_base.specs.declared.key.Key.{Key}
use Rattle.kn_base.specs.declared.key.Key.TheVariants.{Null, Page, Segment}
use Rattle.unix_model.specs.Tables.{at, with_at, count_below}
use Rattle.unix_model.proofs.TableLaws.{at-with_at, at-with_at-other}
use Rattle.forest.specs.Objects.{Object, NodeObject, Owner, named, names, with_object}
use Rattle.forest.specs.Walks.{place_of, key_below}
use Rattle.forest.specs.Forest.{Forest, FitsUnder, FitsBelow, NobodyNames}
use Rattle.forest.specs.Changes.{with_key, with_taken, lowered, with_fresh, with_copy, copied_count}
use Rattle.forest.proofs.CountLaws.{true-names}
use Rattle.forest.proofs.ExactLaws.{bit, not_named, with_object-here}
use Rattle.forest.proofs.CopyLaws.{free_unnamed, none_below}
use Rattle.forest.proofs.OwnLaws.{owned_object}
use Rattle.forest.proofs.ReleaseLaws.{some_not_none, is_or_not}
use Rattle.forest.proofs.HeldLaws.{other_object}
use Rattle.forest.proofs.CopyHeld.{Copied, here, inside, elsewhere, copied_at}
use Rattle.kernel_forest.specs.Trees.{IsTreeKey}
use Rattle.seg_tree.specs.Steps.{MayCopy, MayOwn, copying}
use Rattle.seg_tree.proofs.Copying.{CopiedSoFar, copied_so_far}

pub fits_tree : (height : ℕ) (key : Key) → FitsUnder height key → IsTreeKey key
fits_tree height Null fits = tt
fits_tree height (Page page writable) fits = tt
fits_tree height (Segment node low) fits = tt
fits_tree height _ fits = absurd fits

pub same_table : (f g : ℕ → Key) → ((p : ℕ) → at f p ≡ at g p) → f ≡ g
unfolding at
same_table f g same = fun_ext same

pub same_parts : (one two : Forest) → one.nodes ≡ two.nodes → ((p : ℕ) → at one.keys p ≡ at two.keys p) → one.owner ≡ two.owner → ((object : Object) → one.count object ≡ two.count object) → one ≡ two
same_parts one two nodes keys owners counts =
    ap (λ n. let f : Forest = record { nodes = n; keys = one.keys; owner = one.owner; count = one.count } in f) nodes
    ∙ ap (λ k. let f : Forest = record { nodes = two.nodes; keys = k; owner = one.owner; count = one.count } in f) (same_table one.keys two.keys keys)
    ∙ ap (λ o. let f : Forest = record { nodes = two.nodes; keys = two.keys; owner = o; count = one.count } in f) owners
    ∙ ap (λ k. let f : Forest = record { nodes = two.nodes; keys = two.keys; owner = two.owner; count = k } in f) (fun_ext counts)

-- what is known where a shared node is copied
pub record Shared (forest : Forest) (node digit child height fresh : ℕ) (owner : Owner) : Type 0 where
  pub may : MayOwn forest node digit height owner
  pub stands : at forest.keys (place_of node digit) ≡ Segment (record { 0 = child }) height
  pub two : 2 ≤ forest.count (NodeObject child)
  pub unowned : forest.owner (NodeObject fresh) ≡ None

module _ (forest : Forest) (node digit child height fresh : ℕ) (owner : Owner) (c : Shared forest node digit child height fresh owner) where
  nobody : NobodyNames forest.keys (NodeObject fresh)
  nobody = free_unnamed forest c.may.sound (NodeObject fresh) c.unowned

  split : place_of node digit / 16 ≡ node
  split = let below = c.may.below in omega arith

  child_named : named (at forest.keys (place_of node digit)) ≡ Some (NodeObject child)
  child_named = ap named c.stands

  child_owned : IsSome (forest.owner (NodeObject child))
  child_owned = owned_object forest c.may.sound (place_of node digit) (NodeObject child) child_named

  child_not_fresh : child ≢ fresh
  child_not_fresh e = some_not_none (forest.owner (NodeObject child)) child_owned (ap (λ n. forest.owner (NodeObject n)) e ∙ c.unowned)

  node_owned : IsSome (forest.owner (NodeObject node))
  node_owned = ap is_some c.may.node_owner

  node_not_fresh : node ≢ fresh
  node_not_fresh e = some_not_none (forest.owner (NodeObject node)) node_owned (ap (λ n. forest.owner (NodeObject n)) e ∙ c.unowned)

  first : Forest
  first = with_taken forest (NodeObject fresh) owner

  still_owned : (object : Object) → IsSome (forest.owner object) → IsSome (with_object forest.owner (NodeObject fresh) (Some owner) object)
  still_owned object some =
      ap is_some (other_object forest.owner (NodeObject fresh) (Some owner) object
      (λ t. some_not_none (forest.owner object) some (ap forest.owner t ∙ c.unowned))) ∙ some

  fits_below : (d : ℕ) → d < 16 → FitsUnder height (at forest.keys (place_of child d))
  fits_below d less =
      let fits = c.may.sound.heights (place_of node digit) d less in
      let fits_here : FitsBelow (Segment (record { 0 = child }) height) (key_below forest.keys (Segment (record { 0 = child }) height) d) = rw c.stands at fits in
      fits_here

  pub may_copy : MayCopy (with_taken forest (NodeObject fresh) owner) child fresh
  may_copy = record {
    from_owned = still_owned (NodeObject child) child_owned;
    to_owned = ap is_some (with_object-here forest.owner (NodeObject fresh) (Some owner));
    apart = child_not_fresh;
    of_tree = λ d less. fits_tree height (at forest.keys (place_of child d)) (fits_below d less);
    nulls = λ d less.
        let is : place_of fresh d / 16 ≡ fresh = omega arith in
        c.may.sound.masked (place_of fresh d) (rw is c.unowned);
    may = λ d less object h. (
      still_owned object (owned_object forest c.may.sound (place_of child d) object h),
      (let few = c.may.few (place_of child d) object h in
          let same : with_object forest.count (NodeObject fresh) 1 object ≡ forest.count object =
          other_object forest.count (NodeObject fresh) 1 object (λ t. nobody (place_of child d) (h ∙ ap Some t)) in
          omega arith),
    );
  }

  so_far : CopiedSoFar (with_taken forest (NodeObject fresh) owner) child fresh 16 (copying (with_taken forest (NodeObject fresh) owner) child fresh 16)
  so_far = copied_so_far (with_taken forest (NodeObject fresh) owner) child fresh 16 (omega arith)

  pub owned_now : (object : Object) → IsSome (forest.owner object) → IsSome ((copying (with_taken forest (NodeObject fresh) owner) child fresh 16).owner object)
  owned_now object some = ap (λ (o : Object → Option Owner). is_some (o object)) so_far.owner ∙ still_owned object some

  pub node_owned_now : IsSome ((copying (with_taken forest (NodeObject fresh) owner) child fresh 16).owner (NodeObject node))
  node_owned_now = owned_now (NodeObject node) node_owned

  pub child_owned_now : IsSome ((copying (with_taken forest (NodeObject fresh) owner) child fresh 16).owner (NodeObject child))
  child_owned_now = owned_now (NodeObject child) child_owned

  pub stands_now : at (copying (with_taken forest (NodeObject fresh) owner) child fresh 16).keys (place_of node digit) ≡ Segment (record { 0 = child }) height
  stands_now = so_far.others (place_of node digit) (λ e. node_not_fresh (sym split ∙ e)) ∙ c.stands

  child_count : with_object forest.count (NodeObject fresh) 1 (NodeObject child) ≡ forest.count (NodeObject child)
  child_count = other_object forest.count (NodeObject fresh) 1 (NodeObject child) (λ t. child_not_fresh (let is : child ≡ fresh = cc in is))

  pub two_now : 2 ≤ (copying (with_taken forest (NodeObject fresh) owner) child fresh 16).count (NodeObject child)
  two_now = let counted = so_far.counts (NodeObject child) in let same = child_count in let two = c.two in omega arith

  -- the keys in the end
  end_keys : (p : ℕ) → at (with_at (copying (with_taken forest (NodeObject fresh) owner) child fresh 16).keys (place_of node digit) (Segment (record { 0 = fresh }) height)) p
      ≡ at (with_fresh forest.keys (place_of node digit) fresh height) p
  end_keys p = go (copied_at forest.keys (place_of node digit) fresh height p)
    where
      go : Copied forest.keys (place_of node digit) fresh height p
          → at (with_at (copying (with_taken forest (NodeObject fresh) owner) child fresh 16).keys (place_of node digit) (Segment (record { 0 = fresh }) height)) p
          ≡ at (with_fresh forest.keys (place_of node digit) fresh height) p
      go (here t e) =
          ap (at (with_at (copying (with_taken forest (NodeObject fresh) owner) child fresh 16).keys (place_of node digit) (Segment (record { 0 = fresh }) height))) t
          ∙ at-with_at (copying (with_taken forest (NodeObject fresh) owner) child fresh 16).keys (place_of node digit) (Segment (record { 0 = fresh }) height)
          ∙ sym e
      go (inside t apart e) =
          let whole : place_of fresh (p % 16) ≡ p = omega arith in
          at-with_at-other (copying (with_taken forest (NodeObject fresh) owner) child fresh 16).keys (place_of node digit) p (Segment (record { 0 = fresh }) height) apart
          ∙ ap (at (copying (with_taken forest (NodeObject fresh) owner) child fresh 16).keys) (sym whole)
          ∙ so_far.done (p % 16) (omega arith)
          ∙ sym (e ∙ ap (λ key. key_below forest.keys key (p % 16)) c.stands)
      go (elsewhere t apart e) =
          at-with_at-other (copying (with_taken forest (NodeObject fresh) owner) child fresh 16).keys (place_of node digit) p (Segment (record { 0 = fresh }) height) apart
          ∙ so_far.others p t
          ∙ sym e

  -- the counts in the end
  end_counts : (object : Object) → with_object (copying (with_taken forest (NodeObject fresh) owner) child fresh 16).count (NodeObject child) ((copying (with_taken forest (NodeObject fresh) owner) child fresh 16).count (NodeObject child) - 1) object
      ≡ with_object (copied_count forest (place_of node digit)) (NodeObject fresh) 1 object
  unfolding copied_count
  end_counts object =
      let counted = so_far.counts object in
      let content : count_below (λ d. names object (key_below forest.keys (at forest.keys (place_of node digit)) d)) 16 ≡ count_below (λ d. names object (at forest.keys (place_of child d))) 16 =
      ap (λ key. count_below (λ d. names object (key_below forest.keys key d)) 16) c.stands in
      ⊎_elim
      (λ (t : object ≡ NodeObject fresh).
      let not_child : object ≢ NodeObject child = λ e. child_not_fresh (let same : NodeObject child ≡ NodeObject fresh = sym e ∙ t in let is : child ≡ fresh = cc in is) in
      let one : with_object forest.count (NodeObject fresh) 1 object ≡ 1 = ap (with_object forest.count (NodeObject fresh) 1) t ∙ with_object-here forest.count (NodeObject fresh) 1 in
      let none : count_below (λ d. names object (at forest.keys (place_of child d))) 16 ≡ 0 =
      none_below (λ d. names object (at forest.keys (place_of child d))) 16 (λ d less. not_named (at forest.keys (place_of child d)) object (λ h. nobody (place_of child d) (h ∙ ap Some t))) in
      let end_one : with_object (copied_count forest (place_of node digit)) (NodeObject fresh) 1 object ≡ 1 =
      ap (with_object (copied_count forest (place_of node digit)) (NodeObject fresh) 1) t ∙ with_object-here (copied_count forest (place_of node digit)) (NodeObject fresh) 1 in
      other_object (copying (with_taken forest (NodeObject fresh) owner) child fresh 16).count (NodeObject child) ((copying (with_taken forest (NodeObject fresh) owner) child fresh 16).count (NodeObject child) - 1) object not_child
      ∙ counted ∙ (let sum : with_object forest.count (NodeObject fresh) 1 object + count_below (λ d. names object (at forest.keys (place_of child d))) 16 ≡ 1 = omega arith in sum) ∙ sym end_one)
      (λ (t : object ≢ NodeObject fresh).
      let was : with_object forest.count (NodeObject fresh) 1 object ≡ forest.count object = other_object forest.count (NodeObject fresh) 1 object t in
      let end_is : with_object (copied_count forest (place_of node digit)) (NodeObject fresh) 1 object ≡ copied_count forest (place_of node digit) object =
      other_object (copied_count forest (place_of node digit)) (NodeObject fresh) 1 object t in
      ⊎_elim
      (λ (u : object ≡ NodeObject child).
      let named_here : names object (at forest.keys (place_of node digit)) ≡ true = true-names object (at forest.keys (place_of node digit)) (child_named ∙ ap Some (sym u)) in
      let one_bit : bit (names object (at forest.keys (place_of node digit))) ≡ 1 = ap bit named_here in
      let two : 2 ≤ forest.count object = subst (λ o. 2 ≤ forest.count o) (sym u) c.two in
      let same_count : (copying (with_taken forest (NodeObject fresh) owner) child fresh 16).count (NodeObject child) ≡ (copying (with_taken forest (NodeObject fresh) owner) child fresh 16).count object = ap (copying (with_taken forest (NodeObject fresh) owner) child fresh 16).count (sym u) in
      let left : with_object (copying (with_taken forest (NodeObject fresh) owner) child fresh 16).count (NodeObject child) ((copying (with_taken forest (NodeObject fresh) owner) child fresh 16).count (NodeObject child) - 1) object ≡ (copying (with_taken forest (NodeObject fresh) owner) child fresh 16).count (NodeObject child) - 1 =
      ap (with_object (copying (with_taken forest (NodeObject fresh) owner) child fresh 16).count (NodeObject child) ((copying (with_taken forest (NodeObject fresh) owner) child fresh 16).count (NodeObject child) - 1)) u
      ∙ with_object-here (copying (with_taken forest (NodeObject fresh) owner) child fresh 16).count (NodeObject child) ((copying (with_taken forest (NodeObject fresh) owner) child fresh 16).count (NodeObject child) - 1) in
      let right : copied_count forest (place_of node digit) object ≡ forest.count object - bit (names object (at forest.keys (place_of node digit))) + count_below (λ d. names object (key_below forest.keys (at forest.keys (place_of node digit)) d)) 16 = refl in
      omega arith)
      (λ (u : object ≢ NodeObject child).
      let not_here : bit (names object (at forest.keys (place_of node digit))) ≡ 0 = ap bit (not_named (at forest.keys (place_of node digit)) object (λ h. u (let same : Some object ≡ Some (NodeObject child) = sym h ∙ child_named in let is : object ≡ NodeObject child = cc in is))) in
      let left = other_object (copying (with_taken forest (NodeObject fresh) owner) child fresh 16).count (NodeObject child) ((copying (with_taken forest (NodeObject fresh) owner) child fresh 16).count (NodeObject child) - 1) object u in
      let right : copied_count forest (place_of node digit) object ≡ forest.count object - bit (names object (at forest.keys (place_of node digit))) + count_below (λ d. names object (key_below forest.keys (at forest.keys (place_of node digit)) d)) 16 = refl in
      omega arith)
      (is_or_not object (NodeObject child)))
      (is_or_not object (NodeObject fresh))

  pub copy_is : lowered (with_key (copying (with_taken forest (NodeObject fresh) owner) child fresh 16) (place_of node digit) (Segment (record { 0 = fresh }) height)) (Segment (record { 0 = child }) height)
      ≡ with_copy forest (place_of node digit) fresh height owner
  copy_is = same_parts
      (lowered (with_key (copying (with_taken forest (NodeObject fresh) owner) child fresh 16) (place_of node digit) (Segment (record { 0 = fresh }) height)) (Segment (record { 0 = child }) height))
      (with_copy forest (place_of node digit) fresh height owner)
      so_far.nodes end_keys so_far.owner end_counts
