-- A space is added.
use Rattle.std.proofs.Common.{◌≡◌, ◌≢◌, ◌<◌, ◌/◌, ◌%◌, ◌==◌, ℕ, Some, None, [], ◌∷◌, refl, ap, sym, subst, ◌∙◌, arith, ⊎_elim, if◌then◌else◌, ◌≤◌, Option}
use Rattle.std.specs.Option.{is_some, IsSome}
use Rattle.std.proofs.lemmas.Bool.{cases_eq, ne_eqb}
use Rattle.kn_base.specs.declared.key.Key.{Key}
use Rattle.kn_base.specs.declared.key.Key.TheVariants.{Null, Segment}
use Rattle.kn_base.specs.declared.key.NodeId.{NodeId}
use Rattle.kernel_tables.specs.Kernel.{Kernel}
use Rattle.space_bank.specs.Shares.{Shares}
use Rattle.space_bank.specs.Laws.{and_outside}
use Rattle.space_bank.proofs.HandLaws.{handed-out}
use Rattle.unix_model.specs.Tables.{at, with_at}
use Rattle.forest.specs.Objects.{PageObject, Object, NodeObject, Owner, named, names, with_object}
use Rattle.forest.specs.Walks.{place_of, key_below, space_key}
use Rattle.forest.specs.Forest.{Forest, Sound, Held, IsRoot, FitsUnder, FitsBelow, NobodyNames, in_hand, key_height}
use Rattle.forest.specs.Changes.{with_key, with_taken, filled, WithRoot, MayStand, BelongsAt, and_outside as and_outside_trees}
use Rattle.forest.specs.Calls.{AddsSpace}
use Rattle.forest.proofs.CopyLaws.{free_unnamed}
use Rattle.forest.proofs.ExactLaws.{bit, in_hand-cons, with_object-here}
use Rattle.forest.proofs.HeldLaws.{take_keeps_held, hand_out_keeps_held, other_object}
use Rattle.forest.proofs.WriteHeld.{write_keeps_held}
use Rattle.forest.proofs.MapLaws.{at-filled, at-filled-other}
use Rattle.forest.proofs.ReleaseLaws.{drop_null, front, is_or_not}
use Rattle.forest.proofs.RootLaws.{call_adds_space}
use Rattle.forest.proofs.EmptyLaws.{write_elsewhere_keeps_filled}
use Rattle.forest.proofs.CountLaws.{true-names}
use Rattle.forest.proofs.ExactLaws.{not_named}
use Rattle.forest.specs.Forest.{NoneEmpty}
use Rattle.forest.specs.Forest.{OwnWay, node_way}
use Rattle.forest.proofs.KeptWays.{root_keeps_way}
use Rattle.forest.proofs.OwnMaps.{way_of_node}
use Rattle.seg_tree.specs.Ways.{KeepsWays}
use Rattle.kernel_forest.proofs.ApartLaws.{inside_same}
use Rattle.kernel_forest.proofs.InTrees.{AllTreeKeys, AllSingle, written_in_trees}
use Rattle.kernel_forest.proofs.Outside.{space_out}
use Rattle.unix_model.proofs.TableLaws.{at-with_at, at-with_at-other}
use Rattle.kernel_forest.specs.Trees.{forest_of, outside_trees, IsTreeKey}
use Rattle.kernel_forest.specs.Moves.{PutsKey, TakesFresh}
use Rattle.seg_tree.specs.Promises.{Adds}
use Rattle.kernel_forest.proofs.Moves.{uncounted_in_hand}
use Rattle.seg_tree.proofs.Copying.{steps_trans}
use Rattle.seg_tree.proofs.Children.{same_table}
use Rattle.forest.proofs.ThinLaws.{held_nothing}

height_none : (key : Key) → named key ≡ None → key_height key ≡ 0
height_none (Segment node height) none = cc
height_none _ none = refl

fits_none : (key below : Key) → named key ≡ None → FitsBelow key below
fits_none (Segment node height) below none = cc
fits_none _ below none = tt

-- a fresh root is named from outside once, and all else as often as before
pub root_single : (forest : Forest) (outside : Object → ℕ) (fresh : ℕ) (to : Owner) → outside (NodeObject fresh) ≡ 0 → AllSingle forest outside
    → (object : Object) → IsSome (with_object forest.owner (NodeObject fresh) (Some to) object) → and_outside_trees outside (space_key fresh) object ≤ 1
unfolding and_outside_trees
root_single forest outside fresh to zero single object some = ⊎_elim
    (λ (t : object ≡ NodeObject fresh).
    let here : bit (names object (space_key fresh)) ≡ 1 = ap bit (true-names object (space_key fresh) (ap Some (sym t))) in
    let at_zero : outside object ≡ 0 = ap outside t ∙ zero in
    omega arith)
    (λ (t : object ≢ NodeObject fresh).
    let away : bit (names object (space_key fresh)) ≡ 0 = ap bit (not_named (space_key fresh) object (λ e. t (let is : NodeObject fresh ≡ object = cc in sym is))) in
    let one = single object (ap is_some (sym (other_object forest.owner (NodeObject fresh) (Some to) object t)) ∙ some) in
    omega arith)
    (is_or_not object (NodeObject fresh))

-- the keys of a fresh root
abbrev pub root_content : Key → ℕ → Key
root_content keeper digit = if digit == 15 then keeper else Null

module _ (k0 k1 k2 : Kernel) (fresh : NodeId) (to : Owner) (keeper : Key) (none : named keeper ≡ None) (tree : IsTreeKey keeper)
    (sound : Sound (forest_of k0)) (takes : TakesFresh k0 k1 fresh.0 to) (puts : PutsKey k1 k2 (place_of fresh.0 15) keeper) where
  f1 : Forest
  f1 = with_taken (forest_of k0) (NodeObject fresh.0) to

  split : (digit : ℕ) → digit < 16 → place_of fresh.0 digit / 16 ≡ fresh.0
  split digit less = omega arith

  nobody : NobodyNames (forest_of k0).keys (NodeObject fresh.0)
  nobody = free_unnamed (forest_of k0) sound (NodeObject fresh.0) takes.unowned

  null_at : (place : ℕ) → place / 16 ≡ fresh.0 → at (forest_of k0).keys place ≡ Null
  null_at place is = sound.masked place (rw is takes.unowned)

  forest_is : forest_of k2 ≡ with_key (with_taken (forest_of k0) (NodeObject fresh.0) to) (place_of fresh.0 15) keeper
  forest_is = puts.steps.forest_now ∙ ap (λ f. with_key f (place_of fresh.0 15) keeper) takes.steps.forest_now

  was_null : at (forest_of k1).keys (place_of fresh.0 15) ≡ Null
  was_null = ap (λ (f : Forest). at f.keys (place_of fresh.0 15)) takes.steps.forest_now ∙ null_at (place_of fresh.0 15) (split 15 (omega arith))

  own : IsSome (with_object (forest_of k0).owner (NodeObject fresh.0) (Some to) (NodeObject fresh.0))
  own = ap is_some (with_object-here (forest_of k0).owner (NodeObject fresh.0) (Some to))

  may : MayStand (with_taken (forest_of k0) (NodeObject fresh.0) to) (keeper ∷ space_key fresh.0 ∷ []) (place_of fresh.0 15) keeper
  may = record {
    node_owned = rw (split 15 (omega arith)) own;
    low = let e = height_none keeper none in omega arith;
    fits = λ upper h. absurd (nobody upper (h ∙ ap (λ n. Some (NodeObject n)) (split 15 (omega arith))));
    not_itself = λ h. let no : None ≡ Some (NodeObject (place_of fresh.0 15 / 16)) = sym none ∙ h in cc;
    root = λ is. absurd (
        let here : in_hand (keeper ∷ space_key fresh.0 ∷ []) (NodeObject fresh.0) ≡ 0 = rw (split 15 (omega arith)) at is.not_in_hand in
        in_hand_twice here);
  }
    where
      in_hand_twice : in_hand (keeper ∷ space_key fresh.0 ∷ []) (NodeObject fresh.0) ≡ 0 → ⊥
      in_hand_twice e =
          let rest = front (space_key fresh.0) [] (NodeObject fresh.0) refl in
          let more = in_hand-cons keeper (space_key fresh.0 ∷ []) (NodeObject fresh.0) in
          omega arith

  belongs : BelongsAt (with_taken (forest_of k0) (NodeObject fresh.0) to) (place_of fresh.0 15) keeper
  belongs = record {
    same_owner = λ object h. let no : None ≡ Some object = sym none ∙ h in cc;
    heights = λ digit less. fits_none keeper (key_below (with_taken (forest_of k0) (NodeObject fresh.0) to).keys keeper digit) none;
  }

  content_at : (digit : ℕ) → digit < 16 → at (with_at (forest_of k0).keys (place_of fresh.0 15) keeper) (place_of fresh.0 digit) ≡ root_content keeper digit
  content_at digit less = ⊎_elim
      (λ (t : digit ≡ 15). rw t (at-with_at (forest_of k0).keys (place_of fresh.0 15) keeper))
      (λ (t : digit ≢ 15).
      at-with_at-other (forest_of k0).keys (place_of fresh.0 15) (place_of fresh.0 digit) keeper (λ e. t (omega arith))
      ∙ null_at (place_of fresh.0 digit) (split digit less) ∙ sym (rw (ne_eqb digit 15 t) refl))
      (cases_eq digit 15)

  keys_are : with_at (forest_of k0).keys (place_of fresh.0 15) keeper ≡ filled (forest_of k0).keys fresh.0 (root_content keeper)
  keys_are = same_table (with_at (forest_of k0).keys (place_of fresh.0 15) keeper) (filled (forest_of k0).keys fresh.0 (root_content keeper)) (λ p. ⊎_elim
      (λ (t : p / 16 ≡ fresh.0).
      let whole : p ≡ place_of fresh.0 (p % 16) = omega arith in
      ap (at (with_at (forest_of k0).keys (place_of fresh.0 15) keeper)) whole ∙ content_at (p % 16) (omega arith)
      ∙ sym (ap (at (filled (forest_of k0).keys fresh.0 (root_content keeper))) whole ∙ at-filled (forest_of k0).keys (root_content keeper) fresh.0 (p % 16) (omega arith)))
      (λ (t : p / 16 ≢ fresh.0).
      at-with_at-other (forest_of k0).keys (place_of fresh.0 15) p keeper (λ e. t (omega arith))
      ∙ sym (at-filled-other (forest_of k0).keys (root_content keeper) fresh.0 p t))
      (cases_eq (p / 16) fresh.0))

  small_null : (digit : ℕ) → digit < 15 → root_content keeper digit ≡ Null
  small_null digit less = rw (ne_eqb digit 15 (λ e. absurd (omega arith))) refl

  rooted : IsRoot (with_at (forest_of k0).keys (place_of fresh.0 15) keeper) fresh.0
  rooted = record {
    parts = λ digit less. subst (FitsUnder 5) (sym (content_at digit (omega arith) ∙ small_null digit (omega arith))) tt;
    unused = λ digit high less. content_at digit (omega arith) ∙ small_null digit less;
    keeper = ap named (content_at 15 (omega arith)) ∙ none;
  }

  with_root : WithRoot (forest_of k0) (with_key (with_taken (forest_of k0) (NodeObject fresh.0) to) (place_of fresh.0 15) keeper) fresh.0 (root_content keeper)
  with_root = record {
    was_free = takes.unowned;
    now_owned = own;
    same_owners = λ object differs. other_object (forest_of k0).owner (NodeObject fresh.0) (Some to) object differs;
    keys = keys_are;
    rest = λ digit high less. ⊎_elim
        (λ (t : digit ≡ 15). rw t none)
        (λ (t : digit ≢ 15). ap named (small_null digit (omega arith)))
        (cases_eq digit 15);
  }

  pub added : (owner : Option Owner) → owner ≡ Some to → Adds k0 k2 fresh.0 owner keeper (λ page. None)
  added owner is_tree = record {
    adds = λ outside trees.
        let out0 = outside_trees k0 outside in
        let free = takes.free outside [] tt trees.shares in
        let held1 = take_keeps_held (forest_of k0) (outside_trees k0 outside) [] (space_key fresh.0) (NodeObject fresh.0) to trees.held refl free
        (λ node e. let is : node ≡ fresh.0 = cc in let within = takes.within in (let less : node < k0.nodes = omega arith in less)) in
        let heldk = held_nothing (with_taken (forest_of k0) (NodeObject fresh.0) to) (outside_trees k0 outside) (space_key fresh.0 ∷ []) keeper none held1 in
        let held2 = write_keeps_held (with_taken (forest_of k0) (NodeObject fresh.0) to) (outside_trees k0 outside) (space_key fresh.0 ∷ []) (place_of fresh.0 15) keeper heldk may belongs in
        let f2 = with_key (with_taken (forest_of k0) (NodeObject fresh.0) to) (place_of fresh.0 15) keeper in
        let held2_null = subst (λ key. Held (with_key (with_taken (forest_of k0) (NodeObject fresh.0) to) (place_of fresh.0 15) keeper) (outside_trees k0 outside) (key ∷ space_key fresh.0 ∷ []))
        (null_at (place_of fresh.0 15) (split 15 (omega arith))) held2 in
        let held3 = drop_null (with_key (with_taken (forest_of k0) (NodeObject fresh.0) to) (place_of fresh.0 15) keeper) (outside_trees k0 outside) (space_key fresh.0 ∷ []) held2_null in
        let held4 = hand_out_keeps_held (with_key (with_taken (forest_of k0) (NodeObject fresh.0) to) (place_of fresh.0 15) keeper) (outside_trees k0 outside) [] (space_key fresh.0) (NodeObject fresh.0) held3 refl
        (with_object-here (forest_of k0).count (NodeObject fresh.0) 1)
        (λ node e. let is : fresh.0 ≡ node = cc in subst (λ n. IsRoot (with_at (forest_of k0).keys (place_of fresh.0 15) keeper) n) is rooted) in
        let outside_is : outside_trees k2 (and_outside outside (space_key fresh.0)) ≡ and_outside_trees (outside_trees k0 outside) (space_key fresh.0) =
        puts.steps.outside_now (and_outside outside (space_key fresh.0)) ∙ takes.steps.outside_now (and_outside outside (space_key fresh.0))
        ∙ space_out k0 outside fresh.0 takes.high in
        let shares1 = (uncounted_in_hand k1 outside (space_key fresh.0 ∷ []) keeper none tree).0 (takes.shares outside [] 5 trees.shares) in
        let shares2 = (uncounted_in_hand k2 outside (space_key fresh.0 ∷ []) Null refl tt).1 (subst (λ was. Shares k2 outside (was ∷ space_key fresh.0 ∷ [])) was_null (puts.shares outside (space_key fresh.0 ∷ []) shares1)) in (
          record {
            shares = (handed-out k2 outside [] (space_key fresh.0)).0 shares2;
            held = subst (λ out. Held (forest_of k2) out []) (sym outside_is) (subst (λ f. Held f (and_outside_trees (outside_trees k0 outside) (space_key fresh.0)) []) (sym forest_is) held4);
            in_hand = tt;
            short = omega arith;
            in_trees = subst (λ (f : Forest). AllTreeKeys f.keys) (sym forest_is) (written_in_trees (forest_of k0).keys (place_of fresh.0 15) keeper tree trees.in_trees);
            single = subst (λ out. AllSingle (forest_of k2) out) (sym outside_is) (subst (λ (f : Forest). AllSingle f (and_outside_trees (outside_trees k0 outside) (space_key fresh.0))) (sym forest_is)
                (root_single (forest_of k0) (outside_trees k0 outside) fresh.0 to free.none_outside trees.single));
          },
          subst (λ f. AddsSpace (forest_of k0) f fresh.0 (λ page. None)) (sym forest_is)
              (call_adds_space (outside_trees k0 outside) fresh.0 (forest_of k0) (with_key (with_taken (forest_of k0) (NodeObject fresh.0) to) (place_of fresh.0 15) keeper) (root_content keeper) sound held4 with_root
              (λ digit less. small_null digit (omega arith))),
        );
    filled = λ filled.
        subst (λ (f : Forest). NoneEmpty f.keys) (sym forest_is)
        (write_elsewhere_keeps_filled (forest_of k0).keys (place_of fresh.0 15) keeper (subst (λ n. NobodyNames (forest_of k0).keys (NodeObject n)) (sym (split 15 (omega arith))) nobody)
        (λ e. let no : None ≡ Some (NodeObject (place_of fresh.0 15 / 16)) = sym none ∙ e in cc) filled (λ node e. let no : None ≡ Some (NodeObject node) = sym none ∙ e in cc));
    its_keeper = ap (λ (f : Forest). at f.keys (place_of fresh.0 15)) forest_is ∙ at-with_at (forest_of k0).keys (place_of fresh.0 15) keeper;
    owned = ap (λ (f : Forest). f.owner (NodeObject fresh.0)) forest_is ∙ with_object-here (forest_of k0).owner (NodeObject fresh.0) (Some to) ∙ sym is_tree;
    unnamed = λ outside trees. (takes.free outside [] tt trees.shares).none_outside;
    outside_now = (steps_trans k0 k1 k2 (with_taken (forest_of k0) (NodeObject fresh.0) to) (with_key (forest_of k1) (place_of fresh.0 15) keeper) 1 0 takes.steps puts.steps).outside_now;
    rows_now = (steps_trans k0 k1 k2 (with_taken (forest_of k0) (NodeObject fresh.0) to) (with_key (forest_of k1) (place_of fresh.0 15) keeper) 1 0 takes.steps puts.steps).rows_now;
    apart_now = (steps_trans k0 k1 k2 (with_taken (forest_of k0) (NodeObject fresh.0) to) (with_key (forest_of k1) (place_of fresh.0 15) keeper) 1 0 takes.steps puts.steps).apart_now;
    owners_now = (steps_trans k0 k1 k2 (with_taken (forest_of k0) (NodeObject fresh.0) to) (with_key (forest_of k1) (place_of fresh.0 15) keeper) 1 0 takes.steps puts.steps).owners_now;
    inside = λ outside. inside_same k0 k2 outside ((steps_trans k0 k1 k2 (with_taken (forest_of k0) (NodeObject fresh.0) to) (with_key (forest_of k1) (place_of fresh.0 15) keeper) 1 0 takes.steps puts.steps).outside_now outside)
        (λ number some.
        let same = ap (λ (f : Forest). f.owner (PageObject number)) forest_is ∙ other_object (forest_of k0).owner (NodeObject fresh.0) (Some to) (PageObject number) (λ e. cc) in
        ap is_some (sym same) ∙ some);
    rest = (steps_trans k0 k1 k2 (with_taken (forest_of k0) (NodeObject fresh.0) to) (with_key (forest_of k1) (place_of fresh.0 15) keeper) 1 0 takes.steps puts.steps).rest;
    number = (steps_trans k0 k1 k2 (with_taken (forest_of k0) (NodeObject fresh.0) to) (with_key (forest_of k1) (place_of fresh.0 15) keeper) 1 0 takes.steps puts.steps).number;
  }

  -- ways of other spaces
  pub added_ways : KeepsWays k0 k2
  added_ways mine page is own =
      subst (λ f. OwnWay f mine (node_way page)) (sym forest_is)
      (root_keeps_way (forest_of k0) (with_key (with_taken (forest_of k0) (NodeObject fresh.0) to) (place_of fresh.0 15) keeper) fresh.0 (root_content keeper) sound with_root mine is
      (λ digit way object w way_own ends one. ⊎_elim
      (λ (t : object ≡ NodeObject fresh.0). ap (with_object (forest_of k0).count (NodeObject fresh.0) 1) t ∙ with_object-here (forest_of k0).count (NodeObject fresh.0) 1)
      (λ (t : object ≢ NodeObject fresh.0). other_object (forest_of k0).count (NodeObject fresh.0) 1 object t ∙ one)
      (is_or_not object (NodeObject fresh.0)))
      (node_way page) (way_of_node page) own)

-- the fresh node belongs to a tree, and holds no key
pub fresh_owned : (k0 k1 : Kernel) (fresh : NodeId) (to : Owner) → TakesFresh k0 k1 fresh.0 to → IsSome ((forest_of k1).owner (NodeObject fresh.0))
fresh_owned k0 k1 fresh to takes =
    ap (λ (f : Forest). is_some (f.owner (NodeObject fresh.0))) takes.steps.forest_now ∙ ap is_some (with_object-here (forest_of k0).owner (NodeObject fresh.0) (Some to))

pub fresh_tree_key : (k0 k1 : Kernel) (fresh : NodeId) (to : Owner) (digit : ℕ) → digit < 16 → Sound (forest_of k0) → TakesFresh k0 k1 fresh.0 to
    → IsTreeKey (at (forest_of k1).keys (place_of fresh.0 digit))
fresh_tree_key k0 k1 fresh to digit less sound takes =
    let is : place_of fresh.0 digit / 16 ≡ fresh.0 = omega arith in
    subst IsTreeKey (sym (ap (λ (f : Forest). at f.keys (place_of fresh.0 digit)) takes.steps.forest_now ∙ sound.masked (place_of fresh.0 digit) (rw is takes.unowned))) tt
