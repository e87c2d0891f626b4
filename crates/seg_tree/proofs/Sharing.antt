-- A space is added over the children of another one.
use Rattle.std.proofs.Common.{◌≡◌, ◌≢◌, ◌<◌, ◌≤◌, ◌/◌, ◌%◌, ℕ, zero, suc, Option, Some, None, [], ◌∷◌, refl, ap, sym, subst, ◌∙◌, arith, ⊎_elim}
use Rattle.std.specs.Option.{is_some, IsSome}
use Rattle.std.proofs.lemmas.Bool.{cases_lt, cases_eq}
use Rattle.kn_base.specs.declared.key.Key.{Key}
use Rattle.kn_base.specs.declared.key.Key.TheVariants.{Null}
use Rattle.kn_base.specs.declared.key.NodeId.{NodeId}
use Rattle.kernel_tables.specs.Kernel.{Kernel}
use Rattle.space_bank.specs.Bank.{BankGood}
use Rattle.space_bank.specs.Shares.{Outside}
use Rattle.space_bank.specs.Laws.{and_outside}
use Rattle.space_bank.proofs.HandLaws.{handed-out}
use Rattle.unix_model.specs.Tables.{at, count_below}
use Rattle.forest.specs.Objects.{PageObject, Object, NodeObject, Owner, named, names, with_object}
use Rattle.forest.specs.Walks.{place_of, space_key, map_of}
use Rattle.forest.specs.Forest.{Forest, Held, IsSpace, IsRoot, FitsUnder, NobodyNames, NoneEmpty, IsFilled}
use Rattle.forest.specs.Changes.{with_key, with_taken, raised, filled, WithRoot, and_outside as and_outside_trees}
use Rattle.forest.specs.Calls.{AddsSpace}
use Rattle.forest.proofs.CopyLaws.{free_unnamed, none_below}
use Rattle.forest.proofs.ExactLaws.{not_named, with_object-here}
use Rattle.forest.proofs.HeldLaws.{take_keeps_held, hand_out_keeps_held, other_object}
use Rattle.forest.proofs.MapLaws.{at-filled, at-filled-other}
use Rattle.forest.proofs.OwnLaws.{owned_object}
use Rattle.forest.proofs.ReleaseLaws.{is_or_not, front, some_not_none}
use Rattle.forest.proofs.RootLaws.{call_shares_space}
use Rattle.forest.proofs.ShareLaws.{share_keeps_held}
use Rattle.forest.specs.Forest.{OwnWay, node_way}
use Rattle.forest.proofs.KeptWays.{root_keeps_way}
use Rattle.forest.proofs.OwnLaws.{own_is_alone}
use Rattle.forest.proofs.OwnMaps.{way_of_node}
use Rattle.seg_tree.specs.Ways.{KeepsOtherWays}
use Rattle.kernel_forest.proofs.ApartLaws.{inside_same}
use Rattle.kernel_forest.specs.Trees.{forest_of, outside_trees, IsTreeKey, TreesGood}
use Rattle.kernel_forest.specs.Moves.{Steps, Changes, TakesFresh}
use Rattle.kernel_forest.proofs.InTrees.{AllTreeKeys, AllSingle}
use Rattle.kernel_forest.proofs.Outside.{space_out}
use Rattle.seg_tree.specs.Steps.{MayCopy, copying}
use Rattle.seg_tree.specs.Promises.{Adds}
use Rattle.seg_tree.proofs.Adding.{root_single}
use Rattle.seg_tree.proofs.Children.{same_table}
use Rattle.seg_tree.proofs.Copying.{CopiedSoFar, copied_so_far, steps_trans}
use Rattle.seg_tree.proofs.Levels.{few_named}

-- what stands at a place of a forest in which the keys of a root were copied to a fresh node
data Stands (keys : ℕ → Key) (space fresh : ℕ) (place : ℕ) (key : Key) : Type 0 where
  of_root : place / 16 ≡ fresh → key ≡ at keys (place_of space (place % 16)) → Stands keys space fresh place key
  as_before : place / 16 ≢ fresh → key ≡ at keys place → Stands keys space fresh place key

module _ (k0 k1 : Kernel) (space fresh : NodeId) (to : Owner) (known : Outside) (good : BankGood k0) (known_trees : TreesGood k0 known [])
    (is_space : IsSpace (forest_of k0) [] space.0) (owner : (forest_of k0).owner (NodeObject space.0) ≡ Some to) (takes : TakesFresh k0 k1 fresh.0 to) where
  nobody : NobodyNames (forest_of k0).keys (NodeObject fresh.0)
  nobody = free_unnamed (forest_of k0) known_trees.held.sound (NodeObject fresh.0) takes.unowned

  apart : space.0 ≢ fresh.0
  apart e = some_not_none ((forest_of k0).owner (NodeObject space.0)) is_space.owned (ap (λ n. (forest_of k0).owner (NodeObject n)) e ∙ takes.unowned)

  null_at : (place : ℕ) → place / 16 ≡ fresh.0 → at (forest_of k0).keys place ≡ Null
  null_at place is = known_trees.held.sound.masked place (rw is takes.unowned)

  still : (object : Object) → IsSome ((forest_of k0).owner object) → with_object (forest_of k0).owner (NodeObject fresh.0) (Some to) object ≡ (forest_of k0).owner object
  still object some = other_object (forest_of k0).owner (NodeObject fresh.0) (Some to) object
      (λ t. some_not_none ((forest_of k0).owner object) some (ap (forest_of k0).owner t ∙ takes.unowned))

  may : MayCopy (with_taken (forest_of k0) (NodeObject fresh.0) to) space.0 fresh.0
  may = record {
    from_owned = ap is_some (still (NodeObject space.0) is_space.owned) ∙ is_space.owned;
    to_owned = ap is_some (with_object-here (forest_of k0).owner (NodeObject fresh.0) (Some to));
    apart = apart;
    of_tree = λ d less. known_trees.in_trees (place_of space.0 d);
    nulls = λ d less. null_at (place_of fresh.0 d) (omega arith);
    may = λ d less object h.
        let owned = owned_object (forest_of k0) known_trees.held.sound (place_of space.0 d) object h in (
          ap is_some (still object owned) ∙ owned,
          (let few = few_named k0 known [] good known_trees (place_of space.0 d) object h in
              let same : with_object (forest_of k0).count (NodeObject fresh.0) 1 object ≡ (forest_of k0).count object =
              other_object (forest_of k0).count (NodeObject fresh.0) 1 object (λ t. nobody (place_of space.0 d) (h ∙ ap Some t)) in
              omega arith),
        );
  }

  pub may_share : MayCopy (forest_of k1) space.0 fresh.0
  may_share = subst (λ f. MayCopy f space.0 fresh.0) (sym takes.steps.forest_now) may

  so_far : (n : ℕ) → n ≤ 16 → CopiedSoFar (with_taken (forest_of k0) (NodeObject fresh.0) to) space.0 fresh.0 n (copying (with_taken (forest_of k0) (NodeObject fresh.0) to) space.0 fresh.0 n)
  so_far n low = copied_so_far (with_taken (forest_of k0) (NodeObject fresh.0) to) space.0 fresh.0 n low

  nobody_now : (n : ℕ) → n ≤ 16 → NobodyNames (copying (with_taken (forest_of k0) (NodeObject fresh.0) to) space.0 fresh.0 n).keys (NodeObject fresh.0)
  nobody_now n low p h =
      let so = so_far n low in
      let copy = copying (with_taken (forest_of k0) (NodeObject fresh.0) to) space.0 fresh.0 n in
      ⊎_elim
      (λ (t : p / 16 ≡ fresh.0).
      let whole : place_of fresh.0 (p % 16) ≡ p = omega arith in
      ⊎_elim
      (λ (u : p % 16 < n). nobody (place_of space.0 (p % 16))
      (ap named (sym (ap (at (copying (with_taken (forest_of k0) (NodeObject fresh.0) to) space.0 fresh.0 n).keys) (sym whole) ∙ so.done (p % 16) u)) ∙ h))
      (λ (u : n ≤ p % 16).
      let null : at (copying (with_taken (forest_of k0) (NodeObject fresh.0) to) space.0 fresh.0 n).keys p ≡ Null =
      ap (at (copying (with_taken (forest_of k0) (NodeObject fresh.0) to) space.0 fresh.0 n).keys) (sym whole) ∙ so.later (p % 16) u (omega arith) ∙ null_at (place_of fresh.0 (p % 16)) (omega arith) in
      let no : None ≡ Some (NodeObject fresh.0) = sym (ap named null) ∙ h in cc)
      (cases_lt (p % 16) n))
      (λ (t : p / 16 ≢ fresh.0). nobody p (ap named (sym (so.others p t)) ∙ h))
      (cases_eq (p / 16) fresh.0)

  held_copy : (outside : Outside) → TreesGood k0 outside [] → (n : ℕ) → n ≤ 16
      → Held (copying (with_taken (forest_of k0) (NodeObject fresh.0) to) space.0 fresh.0 n) (outside_trees k0 outside) (space_key fresh.0 ∷ [])
  unfolding copying
  held_copy outside trees zero low =
      take_keeps_held (forest_of k0) (outside_trees k0 outside) [] (space_key fresh.0) (NodeObject fresh.0) to trees.held refl (takes.free outside [] tt trees.shares)
      (λ node e. let is : node ≡ fresh.0 = cc in let within = takes.within in (let less : node < k0.nodes = omega arith in less))
  held_copy outside trees (suc n) low =
      let so = so_far n (omega arith) in
      let same : at (copying (with_taken (forest_of k0) (NodeObject fresh.0) to) space.0 fresh.0 n).keys (place_of space.0 n) ≡ at (forest_of k0).keys (place_of space.0 n) =
      so.others (place_of space.0 n) (λ e. apart (omega arith)) in
      let its_node : place_of space.0 n / 16 ≡ space.0 = omega arith in
      let owners : (copying (with_taken (forest_of k0) (NodeObject fresh.0) to) space.0 fresh.0 n).owner (NodeObject fresh.0)
      ≡ (copying (with_taken (forest_of k0) (NodeObject fresh.0) to) space.0 fresh.0 n).owner (NodeObject (place_of space.0 n / 16)) =
      ap (λ (o : Object → Option Owner). o (NodeObject fresh.0)) so.owner ∙ with_object-here (forest_of k0).owner (NodeObject fresh.0) (Some to)
      ∙ sym (ap (λ (m : ℕ). (copying (with_taken (forest_of k0) (NodeObject fresh.0) to) space.0 fresh.0 n).owner (NodeObject m)) its_node
      ∙ ap (λ (o : Object → Option Owner). o (NodeObject space.0)) so.owner ∙ still (NodeObject space.0) is_space.owned ∙ owner) in
      subst (λ key. Held (with_key (raised (copying (with_taken (forest_of k0) (NodeObject fresh.0) to) space.0 fresh.0 n) key) (place_of fresh.0 n) key) (outside_trees k0 outside) (space_key fresh.0 ∷ [])) same
      (share_keeps_held (copying (with_taken (forest_of k0) (NodeObject fresh.0) to) space.0 fresh.0 n) (outside_trees k0 outside) (space_key fresh.0 ∷ []) (place_of space.0 n) fresh.0 n
      (held_copy outside trees n (omega arith)) (front (space_key fresh.0) [] (NodeObject fresh.0) refl) (nobody_now n (omega arith)) owners (omega arith)
      (so.later n (omega arith) (omega arith) ∙ null_at (place_of fresh.0 n) (omega arith)))

  all : CopiedSoFar (with_taken (forest_of k0) (NodeObject fresh.0) to) space.0 fresh.0 16 (copying (with_taken (forest_of k0) (NodeObject fresh.0) to) space.0 fresh.0 16)
  all = so_far 16 (omega arith)

  stands : (p : ℕ) → Stands (forest_of k0).keys space.0 fresh.0 p (at (copying (with_taken (forest_of k0) (NodeObject fresh.0) to) space.0 fresh.0 16).keys p)
  stands p = ⊎_elim
      (λ (t : p / 16 ≡ fresh.0).
      let whole : place_of fresh.0 (p % 16) ≡ p = omega arith in
      of_root t (ap (at (copying (with_taken (forest_of k0) (NodeObject fresh.0) to) space.0 fresh.0 16).keys) (sym whole) ∙ all.done (p % 16) (omega arith)))
      (λ (t : p / 16 ≢ fresh.0). as_before t (all.others p t))
      (cases_eq (p / 16) fresh.0)

  keys_are : (copying (with_taken (forest_of k0) (NodeObject fresh.0) to) space.0 fresh.0 16).keys ≡ filled (forest_of k0).keys fresh.0 (λ d. at (forest_of k0).keys (place_of space.0 d))
  keys_are = same_table (copying (with_taken (forest_of k0) (NodeObject fresh.0) to) space.0 fresh.0 16).keys (filled (forest_of k0).keys fresh.0 (λ d. at (forest_of k0).keys (place_of space.0 d))) (λ p. go p (stands p))
    where
      go : (p : ℕ) → Stands (forest_of k0).keys space.0 fresh.0 p (at (copying (with_taken (forest_of k0) (NodeObject fresh.0) to) space.0 fresh.0 16).keys p)
          → at (copying (with_taken (forest_of k0) (NodeObject fresh.0) to) space.0 fresh.0 16).keys p ≡ at (filled (forest_of k0).keys fresh.0 (λ d. at (forest_of k0).keys (place_of space.0 d))) p
      go p (of_root t e) =
          let whole : place_of fresh.0 (p % 16) ≡ p = omega arith in
          e ∙ sym (ap (at (filled (forest_of k0).keys fresh.0 (λ d. at (forest_of k0).keys (place_of space.0 d)))) (sym whole)
          ∙ at-filled (forest_of k0).keys (λ d. at (forest_of k0).keys (place_of space.0 d)) fresh.0 (p % 16) (omega arith))
      go p (as_before t e) = e ∙ sym (at-filled-other (forest_of k0).keys (λ d. at (forest_of k0).keys (place_of space.0 d)) fresh.0 p t)

  rooted : IsRoot (copying (with_taken (forest_of k0) (NodeObject fresh.0) to) space.0 fresh.0 16).keys fresh.0
  rooted =
      let root = known_trees.held.rooted space.0 is_space in
      record {
        parts = λ d less. subst (FitsUnder 5) (sym (all.done d (omega arith))) (root.parts d less);
        unused = λ d high less. all.done d (omega arith) ∙ root.unused d high less;
        keeper = ap named (all.done 15 (omega arith)) ∙ root.keeper;
      }

  once : (copying (with_taken (forest_of k0) (NodeObject fresh.0) to) space.0 fresh.0 16).count (NodeObject fresh.0) ≡ 1
  once =
      let counted = all.counts (NodeObject fresh.0) in
      let one : with_object (forest_of k0).count (NodeObject fresh.0) 1 (NodeObject fresh.0) ≡ 1 = with_object-here (forest_of k0).count (NodeObject fresh.0) 1 in
      let none : count_below (λ d. names (NodeObject fresh.0) (at (forest_of k0).keys (place_of space.0 d))) 16 ≡ 0 =
      none_below (λ d. names (NodeObject fresh.0) (at (forest_of k0).keys (place_of space.0 d))) 16
      (λ d less. not_named (at (forest_of k0).keys (place_of space.0 d)) (NodeObject fresh.0) (nobody (place_of space.0 d))) in
      omega arith

  with_root : WithRoot (forest_of k0) (copying (with_taken (forest_of k0) (NodeObject fresh.0) to) space.0 fresh.0 16) fresh.0 (λ d. at (forest_of k0).keys (place_of space.0 d))
  with_root =
      let root = known_trees.held.rooted space.0 is_space in
      record {
        was_free = takes.unowned;
        now_owned = ap (λ (o : Object → Option Owner). is_some (o (NodeObject fresh.0))) all.owner ∙ ap is_some (with_object-here (forest_of k0).owner (NodeObject fresh.0) (Some to));
        same_owners = λ object differs. ap (λ (o : Object → Option Owner). o object) all.owner ∙ other_object (forest_of k0).owner (NodeObject fresh.0) (Some to) object differs;
        keys = keys_are;
        rest = λ d high less. ⊎_elim
            (λ (t : d < 15). ap named (root.unused d high t))
            (λ (t : 15 ≤ d). let is : 15 ≡ d = omega arith in subst (λ n. named (at (forest_of k0).keys (place_of space.0 n)) ≡ None) is root.keeper)
            (cases_lt d 15);
      }

  in_trees : AllTreeKeys (copying (with_taken (forest_of k0) (NodeObject fresh.0) to) space.0 fresh.0 16).keys
  in_trees p = go (stands p)
    where
      go : Stands (forest_of k0).keys space.0 fresh.0 p (at (copying (with_taken (forest_of k0) (NodeObject fresh.0) to) space.0 fresh.0 16).keys p)
          → IsTreeKey (at (copying (with_taken (forest_of k0) (NodeObject fresh.0) to) space.0 fresh.0 16).keys p)
      go (of_root t e) = subst IsTreeKey (sym e) (known_trees.in_trees (place_of space.0 (p % 16)))
      go (as_before t e) = subst IsTreeKey (sym e) (known_trees.in_trees p)

  filled_now : NoneEmpty (forest_of k0).keys → NoneEmpty (copying (with_taken (forest_of k0) (NodeObject fresh.0) to) space.0 fresh.0 16).keys
  filled_now none place node h = keep (was (stands place))
    where
      was : Stands (forest_of k0).keys space.0 fresh.0 place (at (copying (with_taken (forest_of k0) (NodeObject fresh.0) to) space.0 fresh.0 16).keys place) → IsFilled (forest_of k0).keys node
      was (of_root t e) = none (place_of space.0 (place % 16)) node (sym (ap named e) ∙ h)
      was (as_before t e) = none place node (sym (ap named e) ∙ h)

      keep : IsFilled (forest_of k0).keys node → IsFilled (copying (with_taken (forest_of k0) (NodeObject fresh.0) to) space.0 fresh.0 16).keys node
      keep f =
          let less = f.1 in
          let its_node : place_of node f.0 / 16 ≡ node = omega arith in
          let away : place_of node f.0 / 16 ≢ fresh.0 = λ e. f.2 (null_at (place_of node f.0) e) in
          (f.0, f.1, λ e. f.2 (sym (all.others (place_of node f.0) away) ∙ e))

  pub shares_space : (k2 : Kernel) → Changes k1 k2 (copying (forest_of k1) space.0 fresh.0 16) 0
      → Adds k0 k2 fresh.0 ((forest_of k0).owner (NodeObject space.0)) (at (forest_of k0).keys (place_of space.0 15)) (map_of (forest_of k0).keys space.0)
  shares_space k2 copies = record {
    adds = λ outside trees.
        let held3 = held_copy outside trees 16 (omega arith) in
        let held4 = hand_out_keeps_held (copying (with_taken (forest_of k0) (NodeObject fresh.0) to) space.0 fresh.0 16) (outside_trees k0 outside) [] (space_key fresh.0) (NodeObject fresh.0) held3 refl once
        (λ node e. let is : fresh.0 ≡ node = cc in subst (λ n. IsRoot (copying (with_taken (forest_of k0) (NodeObject fresh.0) to) space.0 fresh.0 16).keys n) is rooted) in
        let outside_is : outside_trees k2 (and_outside outside (space_key fresh.0)) ≡ and_outside_trees (outside_trees k0 outside) (space_key fresh.0) =
        copies.steps.outside_now (and_outside outside (space_key fresh.0)) ∙ takes.steps.outside_now (and_outside outside (space_key fresh.0)) ∙ space_out k0 outside fresh.0 takes.high in (
          record {
            shares = (handed-out k2 outside [] (space_key fresh.0)).0 (copies.shares outside (space_key fresh.0 ∷ []) (takes.shares outside [] 5 trees.shares));
            held = subst (λ out. Held (forest_of k2) out []) (sym outside_is) (subst (λ f. Held f (and_outside_trees (outside_trees k0 outside) (space_key fresh.0)) []) (sym forest_is) held4);
            in_hand = tt;
            short = omega arith;
            in_trees = subst (λ (f : Forest). AllTreeKeys f.keys) (sym forest_is) in_trees;
            single = subst (λ out. AllSingle (forest_of k2) out) (sym outside_is)
                (subst (λ (f : Forest). AllSingle f (and_outside_trees (outside_trees k0 outside) (space_key fresh.0))) (sym forest_is)
                (λ object some. root_single (forest_of k0) (outside_trees k0 outside) fresh.0 to (takes.free outside [] tt trees.shares).none_outside trees.single object
                (ap (λ (o : Object → Option Owner). is_some (o object)) (sym all.owner) ∙ some)));
          },
          subst (λ f. AddsSpace (forest_of k0) f fresh.0 (map_of (forest_of k0).keys space.0)) (sym forest_is)
              (call_shares_space (outside_trees k0 outside) space.0 fresh.0 (forest_of k0) (copying (with_taken (forest_of k0) (NodeObject fresh.0) to) space.0 fresh.0 16)
              (λ d. at (forest_of k0).keys (place_of space.0 d)) trees.held.sound held4 with_root apart (λ d less. refl)),
        );
    owned = ap (λ (f : Forest). f.owner (NodeObject fresh.0)) forest_is ∙ ap (λ (o : Object → Option Owner). o (NodeObject fresh.0)) all.owner
        ∙ with_object-here (forest_of k0).owner (NodeObject fresh.0) (Some to) ∙ sym owner;
    its_keeper = ap (λ (f : Forest). at f.keys (place_of fresh.0 15)) forest_is ∙ all.done 15 (omega arith);
    filled = λ none. subst (λ (f : Forest). NoneEmpty f.keys) (sym forest_is) (filled_now none);
    unnamed = λ outside trees. (takes.free outside [] tt trees.shares).none_outside;
    outside_now = steps.outside_now;
    rows_now = steps.rows_now;
    apart_now = steps.apart_now;
    owners_now = steps.owners_now;
    inside = λ outside. inside_same k0 k2 outside (steps.outside_now outside)
        (λ number some.
        let same = ap (λ (f : Forest). f.owner (PageObject number)) forest_is ∙ ap (λ (o : Object → Option Owner). o (PageObject number)) all.owner ∙ other_object (forest_of k0).owner (NodeObject fresh.0) (Some to) (PageObject number) (λ e. cc) in
        ap is_some (sym same) ∙ some);
    rest = steps.rest;
    number = steps.number;
  }
    where
      steps : Steps k0 k2 (copying (forest_of k1) space.0 fresh.0 16) 1
      steps = steps_trans k0 k1 k2 (with_taken (forest_of k0) (NodeObject fresh.0) to) (copying (forest_of k1) space.0 fresh.0 16) 1 0 takes.steps copies.steps

      forest_is : forest_of k2 ≡ copying (with_taken (forest_of k0) (NodeObject fresh.0) to) space.0 fresh.0 16
      forest_is = copies.steps.forest_now ∙ ap (λ f. copying f space.0 fresh.0 16) takes.steps.forest_now

  -- ways of other spaces: what stands on them isn't shared
  pub shared_ways : (k2 : Kernel) → Changes k1 k2 (copying (forest_of k1) space.0 fresh.0 16) 0 → KeepsOtherWays k0 k2 space.0
  shared_ways k2 copies mine page is other own =
      subst (λ f. OwnWay f mine (node_way page)) (sym (copies.steps.forest_now ∙ ap (λ f. copying f space.0 fresh.0 16) takes.steps.forest_now))
      (root_keeps_way (forest_of k0) (copying (with_taken (forest_of k0) (NodeObject fresh.0) to) space.0 fresh.0 16) fresh.0 (λ d. at (forest_of k0).keys (place_of space.0 d)) known_trees.held.sound with_root mine is
      (λ digit way object w way_own ends one.
      let counted = all.counts object in
      let taken : with_object (forest_of k0).count (NodeObject fresh.0) 1 object ≡ 1 = ⊎_elim
      (λ (t : object ≡ NodeObject fresh.0). ap (with_object (forest_of k0).count (NodeObject fresh.0) 1) t ∙ with_object-here (forest_of k0).count (NodeObject fresh.0) 1)
      (λ (t : object ≢ NodeObject fresh.0). other_object (forest_of k0).count (NodeObject fresh.0) 1 object t ∙ one)
      (is_or_not object (NodeObject fresh.0)) in
      let none : count_below (λ d. names object (at (forest_of k0).keys (place_of space.0 d))) 16 ≡ 0 =
      none_below (λ d. names object (at (forest_of k0).keys (place_of space.0 d))) 16
      (λ d less. not_named (at (forest_of k0).keys (place_of space.0 d)) object
      (λ h. other (sym (own_is_alone (forest_of k0) (outside_trees k0 known) [] mine space.0 (digit ∷ way) (d ∷ []) object known_trees.held.sound known_trees.held.exact is is_space w (less, tt) way_own ends h).0))) in
      omega arith)
      (node_way page) (way_of_node page) own)
