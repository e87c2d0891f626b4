-- Empty nodes are taken out of a tree, from below upwards.
use Rattle.std.proofs.Common.{nat_lt, if◌then◌else◌, true, false, ◌^◌, ◌≡◌, ◌≢◌, ◌<◌, ◌≤◌, ◌+◌, ◌-◌, ◌*◌, ◌/◌, ◌%◌, ◌↔◌, ◌==◌, ℕ, Option, Some, None, [], ◌∷◌, refl, ap, sym, subst, ◌∙◌, arith, ⊎_elim}
use Rattle.std.specs.Option.{is_some, IsSome}
use Rattle.std.proofs.lemmas.Bool.{cases_Bool, cases_lt}
use Rattle.kn_base.specs.declared.key.Key.{Key}
use Rattle.kn_base.specs.declared.key.Key.TheVariants.{Null, Page, Segment}
use Rattle.kn_base.specs.declared.key.NodeId.{NodeId}
use Rattle.kernel_tables.specs.Kernel.{Kernel, IsBankPage, bank_page}
use Rattle.kernel_tables.specs.Rows.{key_table, entry_at}
use Rattle.space_bank.specs.Bank.{BankGood, IsTakenOnce, node_given}
use Rattle.space_bank.specs.Shares.{Outside, TakesNodeOutOfHand, node_places}
use Rattle.unix_model.specs.Tables.{at, with_at}
use Rattle.forest.specs.Objects.{Object, PageObject, NodeObject, named}
use Rattle.forest.specs.Walks.{Mapping, mapping_of, key_at_page, place_of, key_along, space_key, digits, map_of}
use Rattle.forest.specs.Forest.{Forest, Held, Sound, IsSpace, EndsAt, OwnWay, NoneEmpty, NoneEmptyBut, key_height, namings, node_way}
use Rattle.forest.specs.Changes.{with_given, KeepsRoot}
use Rattle.forest.proofs.RootLaws.{root_trans}
use Rattle.forest.specs.Calls.{ChangesMap}
use Rattle.forest.proofs.WalkLaws.{step}
use Rattle.forest.proofs.ExactLaws.{nobody_counted}
use Rattle.forest.proofs.HeldLaws.{other_object}
use Rattle.forest.proofs.OwnLaws.{owned_node, owned_object}
use Rattle.forest.proofs.MapLaws.{page_no_node}
use Rattle.forest.proofs.ReachLaws.{named_somewhere, NamedSomewhere, nowhere, somewhere, nothing_in_hand}
use Rattle.forest.proofs.ReleaseLaws.{some_not_none, release_gives_unnamed, is_or_not}
use Rattle.forest.proofs.PruneLaws.{prune_keeps_maps, taken_out, still_empty}
use Rattle.forest.proofs.OwnMaps.{page_way-parts, length-node_way, way_of_node}
use Rattle.seg_tree.specs.Ways.{HasOwnWay, KeepsOtherWays, KeepsMappedWays}
use Rattle.seg_tree.proofs.OwnWays.{counts_keep_way}
use Rattle.seg_tree.proofs.Mapping.{space_leaf}
use Rattle.kernel_forest.proofs.ApartLaws.{inside_same}
use Rattle.kernel_forest.proofs.Owners.{keeps-leaves, leaves-leaves}
use Rattle.kernel_forest.specs.Trees.{forest_of, outside_trees, IsTreeKey, TreesGood}
use Rattle.kernel_forest.specs.Moves.{PutsKey}
use Rattle.kernel_forest.specs.Releases.{Releasing, InHand, Lets}
use Rattle.kernel_forest.proofs.InTrees.{AllTreeKeys, AllSingle, written_in_trees}
use Rattle.kernel_forest.proofs.Giving.{given_fewer}
use Rattle.kernel_forest.proofs.GivingNodes.{unreleased, same_bytes, give_within, give_once, give_unnamed, given_forest, lets_node_given}
use Rattle.kernel_forest.proofs.Moves.{uncounted_in_hand, tree_place}
use Rattle.seg_tree.specs.Leaves.{PutsLeaf}
use Rattle.seg_tree.specs.Prunes.{TakesOff, Prunes, Unmaps}
use Rattle.seg_tree.proofs.Emptying.{unreleased_trans}
use Rattle.seg_tree.proofs.Levels.{digits-pred, digits-way, digits-zero}
use Rattle.seg_tree.proofs.Making.{filled_last}
use Rattle.seg_tree.proofs.Mapping.{trees_nothing, node_way-digits}
use Rattle.seg_tree.proofs.PruneWays.{off_ways, off_alive, off_stands, off_once, off_own, off_ends, off_but, KeepsNodes, leaf_release, nodes_own}

segment_named : (key : Key) (node : NodeId) → named key ≡ Some (NodeObject node.0) → key ≡ Segment node (key_height key)
segment_named (Segment n height) node h =
    let same : n.0 ≡ node.0 = cc in
    ap (λ m. Segment (record { 0 = m }) height) same
segment_named (Page page writable) node h = absurd (page_no_node page.0 node.0 (page.0 == 0) h)
segment_named _ node h = cc

-- a node that one place names is taken from it and given back
module _ (k0 : Kernel) (above digit : ℕ) (node : NodeId) (known : Outside) (known_trees : TreesGood k0 known []) (good : BankGood k0) (below : digit < 16)
    (stands : named (at (forest_of k0).keys (place_of above digit)) ≡ Some (NodeObject node.0)) (once : (forest_of k0).count (NodeObject node.0) ≡ 1)
    (nulls : (d : ℕ) → d < 16 → at (forest_of k0).keys (place_of node.0 d) ≡ Null) where
  pub above_owned : IsSome ((forest_of k0).owner (NodeObject above))
  above_owned =
      let is : place_of above digit / 16 ≡ above = omega arith in
      rw is at (owned_node (forest_of k0) known_trees.held.sound (place_of above digit) (NodeObject node.0) stands)

  pub was_tree : IsTreeKey (at (forest_of k0).keys (place_of above digit))
  was_tree = known_trees.in_trees (place_of above digit)

  height : ℕ
  height = key_height (at (forest_of k0).keys (place_of above digit))

  key_is : at (forest_of k0).keys (place_of above digit) ≡ Segment node (key_height (at (forest_of k0).keys (place_of above digit)))
  key_is = segment_named (at (forest_of k0).keys (place_of above digit)) node stands

  module _ (k1 : Kernel) (good_now : BankGood k1) (puts : PutsKey k0 k1 (place_of above digit) Null) where
    hand_now : (outside : Outside) → TreesGood k0 outside [] → Releasing k1 outside (Segment node (key_height (at (forest_of k0).keys (place_of above digit))) ∷ [])
    hand_now outside trees = subst (λ key. Releasing k1 outside (key ∷ [])) key_is (record {
      shares = puts.shares outside [] ((uncounted_in_hand k0 outside [] Null refl tt).0 trees.shares);
      held = subst (λ out. Held (forest_of k1) out (at (forest_of k0).keys (place_of above digit) ∷ [])) (sym (puts.steps.outside_now outside))
          (subst (λ f. Held f (outside_trees k0 outside) (at (forest_of k0).keys (place_of above digit) ∷ [])) (sym puts.steps.forest_now)
          (taken_out (forest_of k0) (outside_trees k0 outside) [] (place_of above digit) node.0 trees.held stands once nulls));
      in_hand = (trees.in_trees (place_of above digit), tt);
    })

    in_hand_now : InHand k1 (Segment node (key_height (at (forest_of k0).keys (place_of above digit))) ∷ [])
    in_hand_now = (known, [], hand_now known known_trees)

    nulls_now : (d : ℕ) → d < 16 → at (forest_of k1).keys (place_of node.0 d) ≡ Null
    nulls_now d less = ap (λ (f : Forest). at f.keys (place_of node.0 d)) puts.steps.forest_now
        ∙ still_empty (forest_of k0) (outside_trees k0 known) [] (place_of above digit) node.0 known_trees.held stands once nulls d less

    once_now : (forest_of k1).count (NodeObject node.0) ≡ 1
    once_now = ap (λ (f : Forest). f.count (NodeObject node.0)) puts.steps.forest_now ∙ once

    pub cut_within : node.0 < k1.nodes
    cut_within = give_within k1 k1 node (key_height (at (forest_of k0).keys (place_of above digit))) good_now in_hand_now nulls_now once_now

    pub cut_once : IsTakenOnce (entry_at k1.node_entries node.0)
    cut_once = give_once k1 k1 node (key_height (at (forest_of k0).keys (place_of above digit))) good_now in_hand_now nulls_now once_now

    pub cut_unnamed : node_places k1.keys node.0 ≡ 0
    cut_unnamed = give_unnamed k1 k1 node (key_height (at (forest_of k0).keys (place_of above digit))) good_now in_hand_now nulls_now once_now

    pub takes_off : (k2 : Kernel) → k2 ≡ node_given k1 node.0 → TakesNodeOutOfHand k1 k2 node.0 → TakesOff k0 k2 (place_of above digit) node.0
    takes_off k2 given takes =
        let lets = lets_node_given k1 k2 node (key_height (at (forest_of k0).keys (place_of above digit))) good_now in_hand_now nulls_now once_now given takes in
        let number = puts.steps.number in
        let less : k2.machine.nodes_taken ≡ k1.machine.nodes_taken - 1 = ap (λ (k : Kernel). k.machine.nodes_taken) given in
        record {
          forest_now = given_forest k1 k2 node (key_height (at (forest_of k0).keys (place_of above digit))) good_now in_hand_now nulls_now once_now given
              ∙ ap (λ f. with_given f (NodeObject node.0)) puts.steps.forest_now;
          outside_now = λ outside. lets.outside_now outside ∙ puts.steps.outside_now outside;
          rows_now = λ mine apart. lets.rows_now mine apart ∙ puts.steps.rows_now mine apart;
          apart_now = lets.apart_now ∙ puts.steps.apart_now;
          owners_now = leaves-leaves k0 k1 k2 (keeps-leaves k0 k1 puts.steps.owners_now) lets.owners_now;
          rest = unreleased_trans k0 k1 k2 (unreleased k0 k1 puts.steps.rest) lets.rest;
          bank = ap (λ (k : Kernel). k.bank) given ∙ ap (λ (k : Kernel). k.bank) puts.steps.rest;
          fewer = omega arith;
          shares = λ outside trees. (lets.lets outside [] (hand_now outside trees)).0.shares;
        }

  -- all spaces stay
  pub prunes_one : (k2 : Kernel) → TakesOff k0 k2 (place_of above digit) node.0 → Prunes k0 k2
  prunes_one k2 off = record {
    trees = λ outside trees. record {
      shares = off.shares outside trees;
      held = subst (λ out. Held (forest_of k2) out []) (sym (off.outside_now outside))
          (subst (λ f. Held f (outside_trees k0 outside) []) (sym off.forest_now)
          (prune_keeps_maps (forest_of k0) (outside_trees k0 outside) [] (place_of above digit) node.0 trees.held stands once nulls).0);
      in_hand = tt;
      short = omega arith;
      in_trees = subst (λ (f : Forest). AllTreeKeys f.keys) (sym off.forest_now) (written_in_trees (forest_of k0).keys (place_of above digit) Null tt trees.in_trees);
      single = subst (λ out. AllSingle (forest_of k2) out) (sym (off.outside_now outside)) (λ object some. trees.single object (owned_before object some));
    };
    spaces = λ other is.
        let kept = (prune_keeps_maps (forest_of k0) (outside_trees k0 known) [] (place_of above digit) node.0 known_trees.held stands once nulls).1 other is in (
          subst (λ f. IsSpace f [] other) (sym off.forest_now) kept.0,
          ap (λ (f : Forest). map_of f.keys other) off.forest_now ∙ kept.1,
        );
    roots = λ other is.
        let kept = (prune_keeps_maps (forest_of k0) (outside_trees k0 known) [] (place_of above digit) node.0 known_trees.held stands once nulls).2 other (subst (λ f. IsSpace f [] other) off.forest_now is) in
        subst (λ f. KeepsRoot (forest_of k0) f [] other) (sym off.forest_now) kept;
    named_outside = λ outside trees object some many. ⊎_elim
        (λ (t : object ≡ NodeObject node.0). absurd ((trees.held.apart object many).0 (place_of above digit) (stands ∙ ap Some (sym t))))
        (λ (t : object ≢ NodeObject node.0). ap (λ (f : Forest). is_some (f.owner object)) off.forest_now
        ∙ ap is_some (other_object (forest_of k0).owner (NodeObject node.0) None object t) ∙ some)
        (is_or_not object (NodeObject node.0));
    fewer_owned = owned_before;
    outside_now = off.outside_now;
    rows_now = off.rows_now;
    apart_now = off.apart_now;
    owners_now = off.owners_now;
    rest = off.rest;
    bank = off.bank;
    pages = λ number. ap (λ (f : Forest). f.owner (PageObject number)) off.forest_now
        ∙ other_object (forest_of k0).owner (NodeObject node.0) None (PageObject number) (λ t. cc);
    fewer = off.fewer;
  }
    where
      owned_before : (object : Object) → IsSome ((forest_of k2).owner object) → IsSome ((forest_of k0).owner object)
      owned_before object some = given_fewer (forest_of k0).owner (NodeObject node.0) object (ap (λ (f : Forest). is_some (f.owner object)) (sym off.forest_now) ∙ some)

pub prunes_none : (kernel : Kernel) → Prunes kernel kernel
prunes_none kernel = record {
  trees = λ outside trees. trees;
  spaces = λ other is. (is, refl);
  roots = λ other is. record { was = is; owner = refl; keeper = refl };
  named_outside = λ outside trees object some many. some;
  fewer_owned = λ object some. some;
  outside_now = λ outside. refl;
  rows_now = λ mine apart. refl;
  apart_now = refl;
  owners_now = λ page owner is. is;
  rest = refl;
  bank = refl;
  pages = λ number. refl;
  fewer = omega arith;
}

-- what is mapped after nodes were taken out was mapped before
pub mapped_before : (old new : Kernel) (space page : ℕ) → Prunes old new → IsSpace (forest_of old) [] space → IsSome (map_of (forest_of new).keys space page) → IsSome (map_of (forest_of old).keys space page)
mapped_before old new space page prunes is mapped = ap (λ (map : ℕ → Option Mapping). is_some (map page)) (sym (prunes.spaces space is).1) ∙ mapped

pub prunes_trans : (k0 k1 k2 : Kernel) → Prunes k0 k1 → Prunes k1 k2 → Prunes k0 k2
prunes_trans k0 k1 k2 first second = record {
  trees = λ outside trees. second.trees outside (first.trees outside trees);
  spaces = λ other is. let a = first.spaces other is in let b = second.spaces other a.0 in (b.0, b.1 ∙ a.1);
  roots = λ other is.
      let b = second.roots other is in
      root_trans (forest_of k0) (forest_of k1) (forest_of k2) [] [] other (first.roots other b.was) b;
  named_outside = λ outside trees object some many. second.named_outside outside (first.trees outside trees) object (first.named_outside outside trees object some many)
      (let same = ap (λ (out : Object → ℕ). out object) (first.outside_now outside) in omega arith);
  fewer_owned = λ object some. first.fewer_owned object (second.fewer_owned object some);
  outside_now = λ outside. second.outside_now outside ∙ first.outside_now outside;
  rows_now = λ mine apart. second.rows_now mine apart ∙ first.rows_now mine apart;
  apart_now = second.apart_now ∙ first.apart_now;
  owners_now = leaves-leaves k0 k1 k2 first.owners_now second.owners_now;
  rest = unreleased_trans k0 k1 k2 first.rest second.rest;
  bank = second.bank ∙ first.bank;
  pages = λ number. second.pages number ∙ first.pages number;
  fewer = let a = first.fewer in let b = second.fewer in omega arith;
}

-- a key stands where something is mapped
mapped_key_there : (keys : ℕ → Key) (space page : ℕ) → IsSome (map_of keys space page) → key_along keys (space_key space) (page % 16 ∷ node_way page) ≢ Null
unfolding map_of
mapped_key_there keys space page some null = ⊎_elim
    (λ (t : nat_lt page (2 ^ 19) ≡ true).
    let none : mapping_of (key_at_page keys space page) ≡ None = ap (λ way. mapping_of (key_along keys (space_key space) way)) (page_way-parts page) ∙ ap mapping_of null in
    some_not_none (if nat_lt page (2 ^ 19) then mapping_of (key_at_page keys space page) else None) some (rw t none))
    (λ (t : nat_lt page (2 ^ 19) ≡ false). some_not_none (if nat_lt page (2 ^ 19) then mapping_of (key_at_page keys space page) else None) some (rw t refl))
    (cases_Bool (nat_lt page (2 ^ 19)))

-- one level up
module _ (k0 : Kernel) (space levels number : ℕ) (some : levels ≢ 0) (known : Outside) (trees : TreesGood k0 known []) (is_space : IsSpace (forest_of k0) [] space)
    (own : OwnWay (forest_of k0) space (digits levels number)) (node : ℕ) (ends : EndsAt (forest_of k0).keys space (digits levels number) (NodeObject node)) where
  own_parts : OwnWay (forest_of k0) space (number % 16 ∷ digits (levels - 1) (number / 16))
  own_parts = subst (OwnWay (forest_of k0) space) (digits-pred levels number some) own

  ends_parts : EndsAt (forest_of k0).keys space (number % 16 ∷ digits (levels - 1) (number / 16)) (NodeObject node)
  ends_parts = subst (λ w. EndsAt (forest_of k0).keys space w (NodeObject node)) (digits-pred levels number some) ends

  pub end_above : (n : ℕ) × EndsAt (forest_of k0).keys space (digits (levels - 1) (number / 16)) (NodeObject n)
  end_above =
      let s = step (forest_of k0).keys (key_along (forest_of k0).keys (space_key space) (digits (levels - 1) (number / 16))) (number % 16) (NodeObject node) ends_parts in
      (s.node, s.upper_names)

  module _ (above : ℕ) (ends_above : EndsAt (forest_of k0).keys space (digits (levels - 1) (number / 16)) (NodeObject above)) where
    pub level_stands : named (at (forest_of k0).keys (place_of above (number % 16))) ≡ Some (NodeObject node)
    level_stands = off_stands (forest_of k0) (outside_trees k0 known) space above node (number % 16) (digits (levels - 1) (number / 16)) trees.held is_space
        (digits-way (levels - 1) (number / 16)) (omega arith) own_parts ends_parts ends_above

    pub level_once : (forest_of k0).count (NodeObject node) ≡ 1
    level_once = off_once (forest_of k0) (outside_trees k0 known) space above node (number % 16) (digits (levels - 1) (number / 16)) trees.held is_space
        (digits-way (levels - 1) (number / 16)) (omega arith) own_parts ends_parts ends_above

    module _ (k2 : Kernel) (off : TakesOff k0 k2 (place_of above (number % 16)) node) where
      pub next_own : OwnWay (forest_of k2) space (digits (levels - 1) (number / 16))
      next_own = subst (λ f. OwnWay f space (digits (levels - 1) (number / 16))) (sym off.forest_now)
          (off_own (forest_of k0) (outside_trees k0 known) space above node (number % 16) (digits (levels - 1) (number / 16)) trees.held is_space
          (digits-way (levels - 1) (number / 16)) (omega arith) own_parts ends_parts ends_above)

      pub next_ends : EndsAt (forest_of k2).keys space (digits (levels - 1) (number / 16)) (NodeObject above)
      next_ends = subst (λ (f : Forest). EndsAt f.keys space (digits (levels - 1) (number / 16)) (NodeObject above)) (sym off.forest_now)
          (off_ends (forest_of k0) (outside_trees k0 known) space above node (number % 16) (digits (levels - 1) (number / 16)) trees.held is_space
          (digits-way (levels - 1) (number / 16)) (omega arith) own_parts ends_parts ends_above)

      pub next_ways : KeepsOtherWays k0 k2 space
      next_ways mine page is apart own_way = subst (λ f. OwnWay f mine (node_way page)) (sym off.forest_now)
          (off_ways (forest_of k0) (outside_trees k0 known) space above node (number % 16) (digits (levels - 1) (number / 16)) trees.held is_space
          (digits-way (levels - 1) (number / 16)) (omega arith) own_parts ends_parts ends_above mine is apart (node_way page) (way_of_node page) own_way)

      pub next_mapped_ways : ((d : ℕ) → d < 16 → at (forest_of k0).keys (place_of node d) ≡ Null)
          → (page : ℕ) → IsSome (map_of (forest_of k0).keys space page) → HasOwnWay k0 space page → HasOwnWay k2 space page
      next_mapped_ways nulls page mapped own_way = subst (λ f. OwnWay f space (node_way page)) (sym off.forest_now)
          (off_alive (forest_of k0) (outside_trees k0 known) space above node (number % 16) (digits (levels - 1) (number / 16)) trees.held is_space
          (digits-way (levels - 1) (number / 16)) (omega arith) own_parts ends_parts ends_above nulls (page % 16) (node_way page) (omega arith) (way_of_node page)
          (mapped_key_there (forest_of k0).keys space page mapped) own_way)

      next_but : NoneEmptyBut (forest_of k0).keys node → NoneEmptyBut (forest_of k2).keys above
      next_but but = subst (λ (f : Forest). NoneEmptyBut f.keys above) (sym off.forest_now)
          (off_but (forest_of k0) (outside_trees k0 known) space above node (number % 16) (digits (levels - 1) (number / 16)) trees.held is_space
          (digits-way (levels - 1) (number / 16)) (omega arith) own_parts ends_parts ends_above but)

      pub level_filled : (k3 : Kernel)
          → ((n : ℕ) → EndsAt (forest_of k2).keys space (digits (levels - 1) (number / 16)) (NodeObject n) → NoneEmptyBut (forest_of k2).keys n → NoneEmpty (forest_of k3).keys)
          → (n : ℕ) → EndsAt (forest_of k0).keys space (digits levels number) (NodeObject n) → NoneEmptyBut (forest_of k0).keys n → NoneEmpty (forest_of k3).keys
      level_filled k3 rest n n_ends but =
          let same : Some (NodeObject n) ≡ Some (NodeObject node) = sym n_ends ∙ ends in
          let is : n ≡ node = cc in
          rest above next_ends (next_but (subst (NoneEmptyBut (forest_of k0).keys) is but))

-- at the root, and at a node that has a key, no more is to be done
pub root_filled : (kernel : Kernel) (space levels number : ℕ) → IsSpace (forest_of kernel) [] space → levels ≡ 0
    → (n : ℕ) → EndsAt (forest_of kernel).keys space (digits levels number) (NodeObject n) → NoneEmptyBut (forest_of kernel).keys n → NoneEmpty (forest_of kernel).keys
root_filled kernel space levels number is none n n_ends but place node h =
    let same : Some (NodeObject space) ≡ Some (NodeObject n) = subst (λ w. EndsAt (forest_of kernel).keys space w (NodeObject n)) (digits-zero levels number none) n_ends in
    let root : n ≡ space = cc in
    but place node h (λ e. is.unnamed place (h ∙ ap (λ m. Some (NodeObject m)) (e ∙ root)))

pub here_filled : (kernel : Kernel) (space levels number node : ℕ) → IsSome ((forest_of kernel).owner (NodeObject node))
    → EndsAt (forest_of kernel).keys space (digits levels number) (NodeObject node)
    → ((d : ℕ) × (d < 16) × (key_table kernel.keys (16 * node + d) ≢ Null))
    → (n : ℕ) → EndsAt (forest_of kernel).keys space (digits levels number) (NodeObject n) → NoneEmptyBut (forest_of kernel).keys n → NoneEmpty (forest_of kernel).keys
here_filled kernel space levels number node owned ends some n n_ends but =
    let same : Some (NodeObject n) ≡ Some (NodeObject node) = sym n_ends ∙ ends in
    let is : n ≡ node = cc in
    filled_last (forest_of kernel).keys node (subst (NoneEmptyBut (forest_of kernel).keys) is but)
    (some.0, some.1, λ e. some.2 (sym (tree_place kernel node some.0 owned some.1) ∙ e))

pub tree_nulls : (kernel : Kernel) (node : ℕ) → IsSome ((forest_of kernel).owner (NodeObject node)) → ((d : ℕ) → d < 16 → key_table kernel.keys (16 * node + d) ≡ Null)
    → (d : ℕ) → d < 16 → at (forest_of kernel).keys (place_of node d) ≡ Null
tree_nulls kernel node owned nulls d less = tree_place kernel node d owned less ∙ nulls d less

-- put together
module _ (k0 k1 k2 : Kernel) (space page : ℕ) (was : Key) (put : PutsLeaf k0 k1 space page Null was) (lets : Lets k1 k2 (was ∷ []) []) (nodes : k2.machine.nodes_taken ≡ k1.machine.nodes_taken)
    (known : Outside) (known_trees : TreesGood k0 known []) (is_space : IsSpace (forest_of k0) [] space) where
  null_trees : (outside : Outside) → TreesGood k0 outside [] → TreesGood k0 outside (Null ∷ [])
  null_trees outside trees = trees_nothing k0 outside Null refl tt trees

  pub unmap_hand : InHand k1 (was ∷ [])
  unmap_hand = (known, [], put.hand known (null_trees known known_trees))

  keeps : KeepsNodes (forest_of k1) (forest_of k2)
  keeps = leaf_release (lets.lets known [] (put.hand known (null_trees known known_trees))).1 was put.leaf refl refl

  after : (outside : Outside) → TreesGood k0 outside [] → TreesGood k2 outside [] × ChangesMap (forest_of k0) (forest_of k2) space (with_at (map_of (forest_of k0).keys space) page None)
  after outside trees = put.after outside (null_trees outside trees) k2 lets

  pub unmapped_trees : TreesGood k2 known []
  unmapped_trees = (after known known_trees).0

  pub unmapped_space : IsSpace (forest_of k2) [] space
  unmapped_space = (after known known_trees).1.stays

  pub unmapped_own : OwnWay (forest_of k2) space (digits 4 (page / 16))
  unmapped_own = subst (OwnWay (forest_of k2) space) (node_way-digits page) (nodes_own (forest_of k1) (forest_of k2) keeps space (node_way page) put.node put.ends put.own)

  unmapped_end : EndsAt (forest_of k2).keys space (digits 4 (page / 16)) (NodeObject put.node)
  unmapped_end = subst (λ w. EndsAt (forest_of k2).keys space w (NodeObject put.node)) (node_way-digits page)
      (subst (λ (keys : ℕ → Key). EndsAt keys space (node_way page) (NodeObject put.node)) (sym keeps.keys) put.ends)

  pub unmapped_ends : (n : ℕ) × EndsAt (forest_of k2).keys space (digits 4 (page / 16)) (NodeObject n)
  unmapped_ends = (put.node, unmapped_end)

  -- ways, until a node is taken out
  unmapped_ways : (mine number : ℕ) → IsSpace (forest_of k0) [] mine → IsSpace (forest_of k2) [] mine → HasOwnWay k0 mine number → HasOwnWay k2 mine number
  unmapped_ways mine number is still own =
      let hand = put.hand known (null_trees known known_trees) in
      let between : IsSpace (forest_of k1) [] mine = record {
        owned = ap is_some (sym (keeps.owners mine)) ∙ still.owned;
        unnamed = λ place h. still.unnamed place (ap (λ (keys : ℕ → Key). named (at keys place)) keeps.keys ∙ h);
        not_in_hand = still.not_in_hand;
      } in
      counts_keep_way (forest_of k1) (forest_of k2) (was ∷ []) mine hand.held.sound hand.held.rooted (space_leaf (forest_of k1) [] was mine put.leaf between) keeps.keys keeps.counts
      (node_way number) (way_of_node number) (let four = length-node_way number in omega arith) (put.ways mine number is own)

  module _ (k3 : Kernel) (pruned : Prunes k2 k3) (pruned_ways : KeepsOtherWays k2 k3 space) (pruned_mapped : KeepsMappedWays k2 k3 space)
      (filled : (n : ℕ) → EndsAt (forest_of k2).keys space (digits 4 (page / 16)) (NodeObject n) → NoneEmptyBut (forest_of k2).keys n → NoneEmpty (forest_of k3).keys) where
    outside_same : (outside : Outside) → outside_trees k3 outside ≡ outside_trees k0 outside
    outside_same outside = pruned.outside_now outside ∙ lets.outside_now outside ∙ put.outside_now outside

    in_between : (outside : Outside) → TreesGood k0 outside [] → (object : Object) → IsSome ((forest_of k0).owner object) → 1 ≤ outside_trees k0 outside object → IsSome ((forest_of k2).owner object)
    in_between outside trees object some many =
        let hand = put.hand outside (null_trees outside trees) in
        let given = release_gives_unnamed (forest_of k1) (forest_of k2) (outside_trees k1 outside) (was ∷ []) [] hand.held (lets.lets outside [] hand).1 object
        (ap is_some (put.owners object some) ∙ some) in
        let same = ap (λ (out : Object → ℕ). out object) (put.outside_now outside) in
        given.1 (omega arith)

    given_back : (outside : Outside) → TreesGood k0 outside [] → (object : Object) → IsSome ((forest_of k0).owner object)
        → IsSome ((forest_of k3).owner object) ↔ (1 ≤ namings (forest_of k3) object + outside_trees k0 outside object)
    given_back outside trees object some =
        let now = pruned.trees outside (after outside trees).0 in
        let same = ap (λ (out : Object → ℕ). out object) (outside_same outside) in
        let none = nothing_in_hand object in (
          λ still. (let alive = now.held.alive object still in let exact = now.held.exact.counted object still in omega arith),
          λ most. ⊎_elim
              (λ (t : outside_trees k0 outside object < 1). somewhere_owned now.held.sound (named_somewhere (forest_of k3) now.held.sound object) (omega arith))
              (λ (t : 1 ≤ outside_trees k0 outside object).
              pruned.named_outside outside (after outside trees).0 object (in_between outside trees object some t)
              (let between = ap (λ (out : Object → ℕ). out object) (lets.outside_now outside ∙ put.outside_now outside) in omega arith))
              (cases_lt (outside_trees k0 outside object) 1),
        )
      where
        somewhere_owned : Sound (forest_of k3) → NamedSomewhere (forest_of k3) object → 1 ≤ namings (forest_of k3) object → IsSome ((forest_of k3).owner object)
        somewhere_owned sound (nowhere nobody) many = absurd (let zero = nobody_counted (forest_of k3) object nobody in omega arith)
        somewhere_owned sound (somewhere place h) many = owned_object (forest_of k3) sound place object h

    pub unmaps : Unmaps k0 k3 space page
    unmaps = record {
      replaces = record {
        changes = λ outside trees.
            let a = after outside trees in
            let change = a.1 in
            let kept = pruned.spaces space change.stays in (
              pruned.trees outside a.0,
              record {
                stays = kept.0;
                here = kept.1 ∙ change.here;
                others = record {
                  stay = λ other is apart. (pruned.spaces other (change.others.stay other is apart)).0;
                  maps = λ other is apart. (pruned.spaces other (change.others.stay other is apart)).1 ∙ change.others.maps other is apart;
                };
                roots = λ other is.
                    let last = pruned.roots other is in
                    root_trans (forest_of k0) (forest_of k2) (forest_of k3) [] [] other (change.roots other last.was) last;
              },
            );
        filled = λ before. filled put.node unmapped_end (subst (λ (keys : ℕ → Key). NoneEmptyBut keys put.node) (sym keeps.keys) (put.but before));
        outside_now = outside_same;
        rows_now = λ mine apart. pruned.rows_now mine apart ∙ lets.rows_now mine apart ∙ put.rows_now mine apart;
        apart_now = pruned.apart_now ∙ lets.apart_now ∙ put.apart_now;
        owners_now = leaves-leaves k0 k2 k3 (leaves-leaves k0 k1 k2 (keeps-leaves k0 k1 put.owners_now) lets.owners_now) pruned.owners_now;
        inside = λ outside. inside_same k0 k3 outside (outside_same outside)
            (λ number some. ap is_some (sym (put.pages_now number)) ∙ lets.keeps.fewer (PageObject number) (ap is_some (sym (pruned.pages number)) ∙ some));
        rest = unreleased_trans k0 k2 k3 (unreleased_trans k0 k1 k2 (unreleased k0 k1 put.rest) lets.rest) pruned.rest;
        bytes = λ number inside still.
            let size_one : k1.size ≡ k0.size = ap (λ (k : Kernel). k.size) put.rest in
            let size : k3.size ≡ k2.size = ap (λ (k : Kernel). k.size) pruned.rest in
            bank_same k2 k3 number size pruned.bank
            ∙ lets.keeps.bytes number (subst (λ s. IsBankPage s number) (sym size_one) inside)
            (λ some. ap is_some (sym (pruned.pages number)) ∙ still (ap is_some (sym (put.pages_now number)) ∙ some))
            ∙ same_bytes k0 k1 put.rest number;
        most = let a = put.most in let b = pruned.fewer in omega arith;
      };
      given = given_back;
      ways = λ mine number is apart own.
          let still = (after known known_trees).1.others.stay mine is apart in
          pruned_ways mine number still apart (unmapped_ways mine number is still own);
      mapped_ways = λ number mapped own. pruned_mapped number mapped (unmapped_ways space number is_space unmapped_space own);
    }
      where
        bank_same : (old new : Kernel) (number : ℕ) → new.size ≡ old.size → new.bank ≡ old.bank → bank_page new number ≡ bank_page old number
        bank_same old new number size bank = rw (size, bank) refl
