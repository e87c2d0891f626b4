-- Down a way, level by level.
use Rattle.std.proofs.Common.{◌≡◌, ◌≢◌, ◌<◌, ◌≤◌, ◌+◌, ◌-◌, ◌*◌, ◌/◌, ◌%◌, ◌^◌, ℕ, zero, suc, Option, Some, None, List, [], ◌∷◌, length, true, false, refl, ap, sym, subst, ◌∙◌, arith, ⊎_elim, add-zero}
use Rattle.std.specs.Option.{is_some, IsSome}
use Rattle.std.proofs.lemmas.Bool.{cases_lt, cases_Bool}
use Rattle.kn_base.specs.declared.key.Key.{Key}
use Rattle.kn_base.specs.declared.key.Key.TheVariants.{Segment}
use Rattle.kernel_tables.specs.Kernel.{Kernel}
use Rattle.space_bank.specs.Bank.{BankGood}
use Rattle.space_bank.specs.Shares.{Outside}
use Rattle.unix_model.specs.Tables.{at}
use Rattle.forest.specs.Objects.{Object, NodeObject, Owner, named, names}
use Rattle.forest.specs.Walks.{place_of, key_below, key_along, space_key, IsWay, digits}
use Rattle.forest.specs.Forest.{Forest, Held, IsSpace, FitsUnder, FitsBelow, CountedOnce, EndsAt, in_hand, namings, top_digit, key_height}
use Rattle.forest.specs.Changes.{with_copy, IsFree}
use Rattle.forest.specs.Descent.{MadeOwn, root, kept, copied, IsMadeOwn}
use Rattle.forest.proofs.ExactLaws.{bit, in_hand-cons}
use Rattle.forest.proofs.CopyLaws.{copy_makes_own}
use Rattle.forest.proofs.OwnLaws.{owned_object}
use Rattle.forest.proofs.MapLaws.{node_key}
use Rattle.forest.proofs.WalkLaws.{step}
use Rattle.forest.proofs.ReachLaws.{way_height, way_owner}
use Rattle.forest.proofs.DescentLaws.{makes_way_own, shorter_top}
use Rattle.kernel_forest.proofs.InTrees.{AllSingle, made_in_trees, made_single}
use Rattle.kernel_forest.specs.Trees.{forest_of, outside_trees, TreesGood}
use Rattle.seg_tree.specs.Steps.{MayOwn, FreshChild, OwnsChild, kept_child, fresh_child, Descends}
use Rattle.seg_tree.proofs.Copying.{count_most, rest_trans}

hand_most : (hand : List Key) (object : Object) → in_hand hand object ≤ length hand
unfolding in_hand
hand_most [] object = omega arith
hand_most (key ∷ hand) object =
    let one = in_hand-cons key hand object in
    let rest = hand_most hand object in
    ⊎_elim
    (λ (t : names object key ≡ true). let e : bit (names object key) ≡ 1 = ap bit t in omega arith)
    (λ (t : names object key ≡ false). let e : bit (names object key) ≡ 0 = ap bit t in omega arith)
    (cases_Bool (names object key))

-- what a key of a tree names is counted a few times
pub few_named : (kernel : Kernel) (outside : Outside) (hand : List Key) → BankGood kernel → TreesGood kernel outside hand
    → (place : ℕ) (object : Object) → named (at (forest_of kernel).keys place) ≡ Some object → (forest_of kernel).count object + 17 < 2 ^ 32
unfolding namings
few_named kernel outside hand good trees place object h =
    let held = trees.held in
    let counted = held.exact.counted object (owned_object (forest_of kernel) held.sound place object h) in
    let most = count_most (λ p. names object (at (forest_of kernel).keys p)) (16 * kernel.nodes) in
    let hands = hand_most hand object in
    let short = trees.short in
    let nodes = good.sized.all_nodes in
    let size = good.sized.most in
    let none : outside_trees kernel outside object ≡ 0 = ⊎_elim
    (λ (t : outside_trees kernel outside object < 1). let z : outside_trees kernel outside object ≡ 0 = omega arith in z)
    (λ (t : 1 ≤ outside_trees kernel outside object). absurd ((held.apart object t).0 place h))
    (cases_lt (outside_trees kernel outside object) 1) in
    omega arith

-- the key one level below the end of a way
pub below_end : (keys : ℕ → Key) (space node digit : ℕ) (way : List ℕ) → EndsAt keys space way (NodeObject node)
    → key_along keys (space_key space) (digit ∷ way) ≡ at keys (place_of node digit)
below_end keys space node digit way ends = (node_key keys (key_along keys (space_key space) way) node ends).below digit

fits_here : (upper key : Key) → FitsBelow upper key → 1 ≤ key_height upper → FitsUnder (key_height upper) key
fits_here (Segment node height) key fits high = fits
fits_here _ key fits high = absurd (omega arith)

pub under_way : (forest : Forest) (outside : Object → ℕ) (hand : List Key) (space node digit : ℕ) → Held forest outside hand → IsSpace forest hand space
    → (way : List ℕ) → IsWay way → length way < 5 → digit < 16 → top_digit (digit ∷ way) < 8 → EndsAt forest.keys space way (NodeObject node)
    → FitsUnder (5 - length way) (at forest.keys (place_of node digit))
under_way forest outside hand space node digit held is_space [] w short below top ends =
    let is : NodeObject space ≡ NodeObject node = (let e : Some (NodeObject space) ≡ Some (NodeObject node) = ends in cc) in
    let same : space ≡ node = cc in
    rw (sym same) ((held.rooted space is_space).parts digit top)
under_way forest outside hand space node digit held is_space (d ∷ way) w short below top ends =
    let s = step forest.keys (key_along forest.keys (space_key space) way) d (NodeObject node) ends in
    let fits : FitsBelow (key_along forest.keys (space_key space) (d ∷ way)) (key_below forest.keys (key_along forest.keys (space_key space) (d ∷ way)) digit) =
    rw s.is (held.sound.heights (place_of s.node d) digit below) in
    let height = way_height forest hand held.sound held.rooted space is_space (d ∷ way) w (NodeObject node) ends in
    let high : 1 ≤ key_height (key_along forest.keys (space_key space) (d ∷ way)) = omega arith in
    let is : key_height (key_along forest.keys (space_key space) (d ∷ way)) ≡ 5 - length (d ∷ way) = omega arith in
    let under = fits_here (key_along forest.keys (space_key space) (d ∷ way)) (key_below forest.keys (key_along forest.keys (space_key space) (d ∷ way)) digit) fits high in
    subst (λ h. FitsUnder h (at forest.keys (place_of node digit))) is
    (subst (λ key. FitsUnder (key_height (key_along forest.keys (space_key space) (d ∷ way))) key) (below_end forest.keys space node digit (d ∷ way) ends) under)

pub may_own : (kernel : Kernel) (outside : Outside) (hand : List Key) (space node digit height : ℕ) (to : Owner) → BankGood kernel → TreesGood kernel outside hand
    → IsSpace (forest_of kernel) hand space → (forest_of kernel).owner (NodeObject space) ≡ Some to
    → (way : List ℕ) → IsWay way → length way < 4 → height ≡ 4 - length way → digit < 16 → top_digit (digit ∷ way) < 8 → EndsAt (forest_of kernel).keys space way (NodeObject node)
    → MayOwn (forest_of kernel) node digit height to
may_own kernel outside hand space node digit height to good trees is_space owner way w short is below top ends = record {
  sound = trees.held.sound;
  node_owner = way_owner (forest_of kernel) trees.held.sound space way w (NodeObject node) ends ∙ owner;
  below = below;
  positive = omega arith;
  fits =
      let same : 5 - length way ≡ height + 1 = omega arith in
      subst (λ h. FitsUnder h (at (forest_of kernel).keys (place_of node digit))) same
      (under_way (forest_of kernel) (outside_trees kernel outside) hand space node digit trees.held is_space way w (omega arith) below top ends);
  alive = trees.held.alive;
  few = few_named kernel outside hand good trees;
}

-- what is known where a descent begins
pub record Begins (kernel : Kernel) (outside : Outside) (hand : List Key) (space : ℕ) (to : Owner) : Type 0 where
  pub trees : TreesGood kernel outside hand
  pub is_space : IsSpace (forest_of kernel) hand space
  pub owner : (forest_of kernel).owner (NodeObject space) ≡ Some to

descends_root : (kernel : Kernel) (outside : Outside) (hand : List Key) (space : ℕ) (to : Owner) → TreesGood kernel outside hand → Descends kernel kernel outside hand space to [] space
descends_root kernel outside hand space to trees = record {
  taken = 0;
  made = root;
  ends = refl;
  trees = trees;
  outside_now = λ all. refl;
  rows_now = λ mine apart. refl;
  apart_now = refl;
  owners_now = refl;
  rest = refl;
  number = sym (add-zero kernel.machine.nodes_taken);
  few = omega arith;
  same = λ none. refl;
}

module _ (old mid : Kernel) (outside : Outside) (hand : List Key) (space : ℕ) (to : Owner) (way : List ℕ) (above : ℕ) (c : Begins old outside hand space to)
    (w : IsWay way) (short : length way < 4) (top_above : top_digit way < 8) (d : Descends old mid outside hand space to way above) where
  pub so_far : IsMadeOwn (outside_trees old outside) hand space (forest_of old) (forest_of mid) way d.taken
  so_far = makes_way_own (outside_trees old outside) hand space to (forest_of old) (forest_of mid) way d.taken c.trees.held c.is_space c.owner w (omega arith) top_above d.made

  pub mid_space : IsSpace (forest_of mid) hand space
  mid_space = (so_far.spaces space).0 c.is_space

  pub mid_owner : (forest_of mid).owner (NodeObject space) ≡ Some to
  mid_owner = so_far.owners (NodeObject space) c.is_space.owned ∙ c.owner

  module _ (digit : ℕ) (below : digit < 16) (top : top_digit (digit ∷ way) < 8) where
    pub next_may : (height : ℕ) → height ≡ 4 - length way → BankGood mid → MayOwn (forest_of mid) above digit height to
    next_may height is good = may_own mid outside hand space above digit height to good d.trees mid_space mid_owner way w short is below top d.ends

    here_is : key_along (forest_of mid).keys (space_key space) (digit ∷ way) ≡ at (forest_of mid).keys (place_of above digit)
    here_is = below_end (forest_of mid).keys space above digit way d.ends

    pub next_kept : (child : ℕ) → CountedOnce (forest_of mid) (at (forest_of mid).keys (place_of above digit))
        → named (at (forest_of mid).keys (place_of above digit)) ≡ Some (NodeObject child) → Descends old mid outside hand space to (digit ∷ way) child
    next_kept child once_here names_it = record {
      taken = d.taken;
      made = kept digit d.made (subst (CountedOnce (forest_of mid)) (sym here_is) once_here);
      ends = ap named here_is ∙ names_it;
      trees = d.trees;
      outside_now = d.outside_now;
      rows_now = d.rows_now;
      apart_now = d.apart_now;
      owners_now = d.owners_now;
      rest = d.rest;
      number = d.number;
      few = let f = d.few in omega arith;
      same = d.same;
    }

    pub next_fresh : (new : Kernel) (child height : ℕ) → height ≡ 4 - length way → FreshChild mid new (place_of above digit) height to child → Descends old new outside hand space to (digit ∷ way) child
    next_fresh new child height is fresh =
        let shared : CountedOnce (forest_of mid) (key_along (forest_of mid).keys (space_key space) (digit ∷ way)) → ⊥ = λ h. fresh.shared (subst (CountedOnce (forest_of mid)) here_is h) in
        let free_mid = fresh.free outside hand d.trees.in_hand d.trees.shares in
        let free : IsFree (forest_of mid) (outside_trees old outside) hand (NodeObject child) = subst (λ out. IsFree (forest_of mid) out hand (NodeObject child)) (d.outside_now outside) free_mid in
        let forest_is : forest_of new ≡ with_copy (forest_of mid) (place_of above digit) child (4 - length way) to =
        fresh.changes.steps.forest_now ∙ ap (λ h. with_copy (forest_of mid) (place_of above digit) child h to) is in
        let within : child < (forest_of mid).nodes = fresh.within in
        let made_copy : MadeOwn (outside_trees old outside) hand space to (forest_of old) (digit ∷ way) (with_copy (forest_of mid) (place_of above digit) child (4 - length way) to) (d.taken + 1) =
        copied digit above child d.made shared d.ends free within in
        let made : MadeOwn (outside_trees old outside) hand space to (forest_of old) (digit ∷ way) (forest_of new) (d.taken + 1) =
        subst (λ f. MadeOwn (outside_trees old outside) hand space to (forest_of old) (digit ∷ way) f (d.taken + 1)) (sym forest_is) made_copy in
        let outside_is : outside_trees new outside ≡ outside_trees old outside = fresh.changes.steps.outside_now outside ∙ d.outside_now outside in
        let own = copy_makes_own (forest_of mid) (outside_trees old outside) hand space above digit child (4 - length way) way to so_far.held.sound so_far.held.exact mid_space free w below so_far.own d.ends in
        let all = makes_way_own (outside_trees old outside) hand space to (forest_of old) (forest_of new) (digit ∷ way) (d.taken + 1) c.trees.held c.is_space c.owner (below, w) (omega arith) top made in
        record {
          taken = d.taken + 1;
          made = made;
          ends = subst (λ (f : Forest). EndsAt f.keys space (digit ∷ way) (NodeObject child)) (sym forest_is) own.1;
          trees = record {
            shares = fresh.changes.shares outside hand d.trees.shares;
            held = subst (λ out. Held (forest_of new) out hand) (sym outside_is) all.held;
            in_hand = d.trees.in_hand;
            short = d.trees.short;
            in_trees = made_in_trees made c.trees.in_trees;
            single = subst (λ out. AllSingle (forest_of new) out) (sym outside_is) (made_single made c.trees.single);
          };
          outside_now = λ o. fresh.changes.steps.outside_now o ∙ d.outside_now o;
          rows_now = λ mine apart. fresh.changes.steps.rows_now mine apart ∙ d.rows_now mine apart;
          apart_now = fresh.changes.steps.apart_now ∙ d.apart_now;
          owners_now = fresh.changes.steps.owners_now ∙ d.owners_now;
          rest = rest_trans old mid new d.rest fresh.changes.steps.rest;
          number = let a = fresh.changes.steps.number in let b = d.number in omega arith;
          few = let f = d.few in omega arith;
          same = λ none. absurd (omega arith);
        }

    pub next : (new : Kernel) (child height : ℕ) → height ≡ 4 - length way → OwnsChild mid new (place_of above digit) height to child → Descends old new outside hand space to (digit ∷ way) child
    next new child height is (kept_child once_here names_it same) = subst (λ k. Descends old k outside hand space to (digit ∷ way) child) (sym same) (next_kept child once_here names_it)
    next new child height is (fresh_child fresh) = next_fresh new child height is fresh

-- the digits of a number, the last of them first
pub digits-pred : (levels number : ℕ) → levels ≢ 0 → digits levels number ≡ number % 16 ∷ digits (levels - 1) (number / 16)
unfolding digits
digits-pred zero number some = absurd (some refl)
digits-pred (suc levels) number some = let e : suc levels - 1 ≡ levels = omega arith in rw e refl

pub digits-zero : (levels number : ℕ) → levels ≡ 0 → digits levels number ≡ []
unfolding digits
digits-zero levels number e = rw e refl

pub digits-length : (levels number : ℕ) → length (digits levels number) ≡ levels
unfolding digits
digits-length zero number = refl
digits-length (suc levels) number = let e = digits-length levels (number / 16) in omega arith

pub digits-way : (levels number : ℕ) → IsWay (digits levels number)
unfolding digits
digits-way zero number = tt
digits-way (suc levels) number = (omega arith, digits-way levels (number / 16))

pub some_owner : (o : Option Owner) → IsSome o → (to : Owner) × (o ≡ Some to)
some_owner None h = cc
some_owner (Some to) h = (to, refl)

-- whose tree a node belongs to, told in another way
pub told_owner : (kernel : Kernel) (node : ℕ) (told : Option Owner) → (forest_of kernel).owner (NodeObject node) ≡ told → IsSome ((forest_of kernel).owner (NodeObject node))
    → (to : Owner) × (told ≡ Some to) × ((forest_of kernel).owner (NodeObject node) ≡ Some to)
told_owner kernel node told is some = let owner = some_owner ((forest_of kernel).owner (NodeObject node)) some in (owner.0, sym is ∙ owner.1, owner.1)

pub owner_told : (kernel : Kernel) (node : ℕ) (told : Option Owner) (to : Owner) → (forest_of kernel).owner (NodeObject node) ≡ told → told ≡ Some to → (forest_of kernel).owner (NodeObject node) ≡ Some to
owner_told kernel node told to is tree = is ∙ tree

-- .. and whose tree another thing is of, which is the node's
pub some_told : (kernel : Kernel) (node : ℕ) (told : Option Owner) → told ≡ (forest_of kernel).owner (NodeObject node) → IsSome ((forest_of kernel).owner (NodeObject node)) → IsSome told
some_told kernel node told is some = ap is_some is ∙ some

pub tree_told : (kernel : Kernel) (node : ℕ) (told : Option Owner) (to : Owner) → told ≡ (forest_of kernel).owner (NodeObject node) → (forest_of kernel).owner (NodeObject node) ≡ Some to → told ≡ Some to
tree_told kernel node told to is owner = is ∙ owner

-- no level is gone down
pub descends_none : (kernel : Kernel) (outside : Outside) (hand : List Key) (space levels number : ℕ) (to : Owner) → levels ≡ 0 → TreesGood kernel outside hand
    → Descends kernel kernel outside hand space to (digits levels number) space
descends_none kernel outside hand space levels number to none trees =
    subst (λ way. Descends kernel kernel outside hand space to way space) (sym (digits-zero levels number none)) (descends_root kernel outside hand space to trees)

-- one level of a descent to a number
pub record Level (old mid : Kernel) (outside : Outside) (hand : List Key) (space : ℕ) (to : Owner) (levels number above : ℕ) : Type 0 where
  pub begins : Begins old outside hand space to
  pub some : levels ≢ 0
  pub few : levels ≤ 4
  pub top : top_digit (digits levels number) < 8
  pub descends : Descends old mid outside hand space to (digits (levels - 1) (number / 16)) above

module _ (old mid : Kernel) (outside : Outside) (hand : List Key) (space : ℕ) (to : Owner) (levels number above : ℕ) (c : Level old mid outside hand space to levels number above) where
  top_whole : top_digit (number % 16 ∷ digits (levels - 1) (number / 16)) < 8
  top_whole = subst (λ way. top_digit way < 8) (digits-pred levels number c.some) c.top

  short_above : length (digits (levels - 1) (number / 16)) < 4
  short_above = let e = digits-length (levels - 1) (number / 16) in let few = c.few in let some = c.some in omega arith

  height_is : 5 - levels ≡ 4 - length (digits (levels - 1) (number / 16))
  height_is = let e = digits-length (levels - 1) (number / 16) in let few = c.few in let some = c.some in omega arith

  pub level_may : BankGood mid → MayOwn (forest_of mid) above (number % 16) (5 - levels) to
  level_may good =
      next_may old mid outside hand space to (digits (levels - 1) (number / 16)) above c.begins (digits-way (levels - 1) (number / 16)) short_above
      (shorter_top (number % 16) (digits (levels - 1) (number / 16)) top_whole) c.descends (number % 16) (omega arith) top_whole (5 - levels) height_is good

  pub level_next : (new : Kernel) (child : ℕ) → OwnsChild mid new (place_of above (number % 16)) (5 - levels) to child → Descends old new outside hand space to (digits levels number) child
  level_next new child owns =
      subst (λ way. Descends old new outside hand space to way child) (sym (digits-pred levels number c.some))
      (next old mid outside hand space to (digits (levels - 1) (number / 16)) above c.begins (digits-way (levels - 1) (number / 16)) short_above
      (shorter_top (number % 16) (digits (levels - 1) (number / 16)) top_whole) c.descends (number % 16) (omega arith) top_whole new child (5 - levels) height_is owns)

pub top_above : (levels number : ℕ) → levels ≢ 0 → top_digit (digits levels number) < 8 → top_digit (digits (levels - 1) (number / 16)) < 8
top_above levels number some top =
    shorter_top (number % 16) (digits (levels - 1) (number / 16)) (subst (λ way. top_digit way < 8) (digits-pred levels number some) top)
