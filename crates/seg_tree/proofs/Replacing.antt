-- The key of a mapped page is counted once more, put in the other one's place, and the other one released.
use Rattle.std.proofs.Common.{◌≡◌, ◌≢◌, ◌<◌, ◌≤◌, ◌*◌, ◌%◌, ◌^◌, ◌==◌, ℕ, Option, Some, None, List, [], ◌∷◌, Bool, false, refl, ap, sym, subst, ◌∙◌, arith, ⊎_elim, if◌then◌else◌}
use Rattle.std.specs.Option.{is_some, IsSome}
use Rattle.std.proofs.lemmas.Bool.{cases_lt, cases_eq, ne_eqb}
use Rattle.kn_base.specs.declared.key.Key.{Key}
use Rattle.kn_base.specs.declared.key.Key.TheVariants.{Null, Page, Segment}
use Rattle.kn_base.specs.declared.key.PageId.{PageId}
use Rattle.kernel_tables.specs.Kernel.{Kernel}
use Rattle.space_bank.specs.Bank.{BankGood}
use Rattle.space_bank.specs.Shares.{Outside}
use Rattle.unix_model.specs.Tables.{at, with_at}
use Rattle.forest.specs.Objects.{Object, PageObject, NodeObject, Owner, named, names}
use Rattle.forest.specs.Walks.{place_of, key_along, space_key, map_of, mapping_of, Mapping}
use Rattle.forest.specs.Forest.{Forest, Held, IsSpace, OwnWay, NoneEmpty, node_way}
use Rattle.forest.specs.Calls.{ChangesMap}
use Rattle.forest.proofs.HeldLaws.{raise_keeps_held}
use Rattle.forest.proofs.OwnLaws.{owned_object, place_within}
use Rattle.forest.proofs.OwnMaps.{way_of_node, length-node_way}
use Rattle.forest.proofs.ReachLaws.{way_owner}
use Rattle.forest.proofs.WalkLaws.{step}
use Rattle.kernel_forest.proofs.ApartLaws.{inside_same}
use Rattle.kernel_forest.proofs.Owners.{keeps-leaves}
use Rattle.kernel_forest.specs.Trees.{forest_of, outside_trees, TreesGood}
use Rattle.kernel_forest.specs.Moves.{RaisesKey, MayRaise, LowersKey}
use Rattle.kernel_forest.proofs.Giving.{lets_step, keeps_bytes}
use Rattle.forest.specs.Changes.{lowered, counted_less, KeepsRoot}
use Rattle.forest.proofs.RootLaws.{root_trans}
use Rattle.forest.specs.Forest.{namings}
use Rattle.forest.specs.Release.{ReleaseStep, nothing as nothing_step, shared as shared_step}
use Rattle.forest.proofs.CountLaws.{counted_one, true-names}
use Rattle.forest.proofs.ExactLaws.{bit, in_hand-cons}
use Rattle.seg_tree.specs.Writes.{may_write}
use Rattle.seg_tree.proofs.OwnPages.{IsMany, less_owner, own_less}
use Rattle.seg_tree.proofs.OwnWays.{counts_keep_way, raised_nodes}
use Rattle.seg_tree.specs.Ways.{KeepsWays}
use Rattle.kernel_forest.specs.Releases.{Releasing, Lets}
use Rattle.forest.proofs.ReleaseLaws.{release_leaves_none_empty, front_owned}
use Rattle.kernel_forest.proofs.GivingNodes.{unreleased, same_bytes}
use Rattle.kernel_forest.proofs.InTrees.{AllTreeKeys, AllSingle}
use Rattle.seg_tree.specs.Leaves.{PutsLeaf}
use Rattle.seg_tree.specs.Promises.{Remaps}
use Rattle.seg_tree.proofs.Copying.{more_owner, more_keys, rest_trans}
use Rattle.seg_tree.proofs.Levels.{few_named}
use Rattle.seg_tree.proofs.Mapping.{map_here}

abbrev page_or_zero : Option Mapping → ℕ
page_or_zero None = 0
page_or_zero (Some mapping) = mapping.page

-- the page that was found is the one that is mapped
pub page_is : (map : Option Mapping) (writable : Bool) (page : ℕ) (found : Mapping) → Some (record { writable = writable; page = page }) ≡ map → map ≡ Some found → page ≡ found.page
page_is map writable page found told is = ap page_or_zero (told ∙ is)

pub none_is : (map : Option Mapping) (found : Mapping) → None ≡ map → map ≡ Some found → ⊥
none_is map found told is = let no : None ≡ Some found = told ∙ is in cc

-- the key of the same page, however it may be used, names the same
same_page : (key : Key) (writable other : Bool) (id : PageId) → mapping_of key ≡ Some (record { writable = writable; page = id.0 }) → named key ≡ named (Page id other)
same_page (Page page own) writable other id h =
    let same : page.0 ≡ id.0 = ap page_or_zero h in
    ap (λ (n : ℕ). if n == 0 then None else Some (PageObject n)) same
same_page Null writable other id h = cc
same_page (Segment node height) writable other id h = cc
same_page _ writable other id h = cc

-- what the key of a mapped page names stands in the tree, and belongs to it
pub record Mapped (forest : Forest) (space : ℕ) (object : Object) : Type 0 where
  pub place : ℕ
  pub stands : named (at forest.keys place) ≡ Some object
  pub owner : forest.owner object ≡ forest.owner (NodeObject space)

pub mapped_here : (forest : Forest) (outside : Object → ℕ) (space page : ℕ) (writable other : Bool) (id : PageId) → Held forest outside [] → page < 2 ^ 19
    → map_of forest.keys space page ≡ Some (record { writable = writable; page = id.0 })
    → (object : Object) → named (Page id other) ≡ Some object → Mapped forest space object
mapped_here forest outside space page writable other id held below found object h =
    let key = key_along forest.keys (space_key space) (page % 16 ∷ node_way page) in
    let ends : named (key_along forest.keys (space_key space) (page % 16 ∷ node_way page)) ≡ Some object =
    same_page (key_along forest.keys (space_key space) (page % 16 ∷ node_way page)) writable other id (sym (map_here forest.keys space page below) ∙ found) ∙ h in
    let s = step forest.keys (key_along forest.keys (space_key space) (node_way page)) (page % 16) object ends in
    record {
      place = place_of s.node (page % 16);
      stands = s.here;
      owner = way_owner forest held.sound space (page % 16 ∷ node_way page) (omega arith, way_of_node page) object ends;
    }

pub mapped_key : (key : Key) (writable : Bool) (id : PageId) → mapping_of key ≡ Some (record { writable = writable; page = id.0 }) → key ≡ Page id writable
mapped_key (Page page own) writable id h =
    let number : page.0 ≡ id.0 = ap page_or_zero h in
    let may : own ≡ writable = ap may_write h in
    rw may (ap (λ n. Page (record { 0 = n }) writable) number)
mapped_key Null writable id h = cc
mapped_key (Segment node height) writable id h = cc
mapped_key _ writable id h = cc

real_named : (id : PageId) (writable : Bool) → id.0 ≢ 0 → named (Page id writable) ≡ Some (PageObject id.0)
real_named id writable real = rw (ne_eqb id.0 0 real) refl

-- a key in hand is released where what it names is counted more than once
lets_lowered : (old new : Kernel) (key : Key) → IsMany (forest_of old) (named key) → LowersKey old new key → Lets old new (key ∷ []) []
lets_lowered old new key many lowers =
    lets_step old new key (lowered (forest_of old) key) lowers.steps.forest_now lowers.steps.outside_now lowers.steps.rows_now lowers.steps.apart_now (keeps-leaves old new lowers.steps.owners_now) (unreleased old new lowers.steps.rest)
    (keeps_bytes old new (lowered (forest_of old) key) lowers.steps.forest_now
    (λ object some. ap (λ (o : Object → Option Owner). is_some (o object)) (sym (less_owner (forest_of old) (named key))) ∙ some) (same_bytes old new lowers.steps.rest))
    lowers.shares
    (λ outside hand r. go (named key) refl hand)
  where
    go : (there : Option Object) → named key ≡ there → (hand : List Key) → ReleaseStep (forest_of old) (key ∷ hand) (counted_less (forest_of old) there) hand
    go None e hand = nothing_step key e
    go (Some object) e hand = shared_step key object e (many object e)

module _ (k0 : Kernel) (space page : ℕ) (writable : Bool) (id : PageId) (good : BankGood k0) (below : page < 2 ^ 19)
    (found : map_of (forest_of k0).keys space page ≡ Some (record { writable = writable; page = id.0 })) where
  mapped_at : (outside : Outside) → TreesGood k0 outside [] → (object : Object) → named (Page id false) ≡ Some object → Mapped (forest_of k0) space object
  mapped_at outside trees object h = mapped_here (forest_of k0) (outside_trees k0 outside) space page writable false id trees.held below found object h

  pub may_protect : (outside : Outside) → TreesGood k0 outside [] → MayRaise (forest_of k0) (Page id false)
  may_protect outside trees object h =
      let here = mapped_at outside trees object h in
      let few = few_named k0 outside [] good trees here.place object here.stands in
      (owned_object (forest_of k0) trees.held.sound here.place object here.stands, omega arith)

  pub raised_trees : (k1 : Kernel) (outside : Outside) → TreesGood k0 outside [] → RaisesKey k0 k1 (Page id false) → TreesGood k1 outside (Page id false ∷ [])
  raised_trees k1 outside trees raises = record {
    shares = raises.shares outside [] trees.shares;
    held = subst (λ out. Held (forest_of k1) out (Page id false ∷ [])) (sym (raises.steps.outside_now outside))
        (subst (λ f. Held f (outside_trees k0 outside) (Page id false ∷ [])) (sym raises.steps.forest_now)
        (raise_keeps_held (forest_of k0) (outside_trees k0 outside) [] (Page id false) trees.held (λ object h.
        let here = mapped_at outside trees object h in (
          owned_object (forest_of k0) trees.held.sound here.place object here.stands,
          ⊎_elim
              (λ (t : outside_trees k0 outside object < 1). let none : outside_trees k0 outside object ≡ 0 = omega arith in none)
              (λ (t : 1 ≤ outside_trees k0 outside object). absurd ((trees.held.apart object t).0 here.place here.stands))
              (cases_lt (outside_trees k0 outside object) 1),
        ))));
    in_hand = (tt, tt);
    short = omega arith;
    in_trees = subst (λ (f : Forest). AllTreeKeys f.keys) (sym raises.steps.forest_now)
        (subst AllTreeKeys (sym (more_keys (forest_of k0) (named (Page id false)))) trees.in_trees);
    single = subst (λ out. AllSingle (forest_of k1) out) (sym (raises.steps.outside_now outside))
        (subst (λ (f : Forest). AllSingle f (outside_trees k0 outside)) (sym raises.steps.forest_now)
        (λ object some. trees.single object (ap (λ (o : Object → Option Owner). is_some (o object)) (sym (more_owner (forest_of k0) (named (Page id false)))) ∙ some)));
  }

  module _ (k1 : Kernel) (raises : RaisesKey k0 k1 (Page id false)) where
    owner_same : (forest_of k1).owner ≡ (forest_of k0).owner
    owner_same = ap (λ (f : Forest). f.owner) raises.steps.forest_now ∙ more_owner (forest_of k0) (named (Page id false))

    keys_same : (forest_of k1).keys ≡ (forest_of k0).keys
    keys_same = ap (λ (f : Forest). f.keys) raises.steps.forest_now ∙ more_keys (forest_of k0) (named (Page id false))

    pub raised_space : (other : ℕ) → IsSpace (forest_of k0) [] other → IsSpace (forest_of k1) [] other
    raised_space other is = record {
      owned = ap (λ (o : Object → Option Owner). is_some (o (NodeObject other))) owner_same ∙ is.owned;
      unnamed = λ place h. is.unnamed place (ap (λ (keys : ℕ → Key). named (at keys place)) (sym keys_same) ∙ h);
      not_in_hand = is.not_in_hand;
    }

    raised_root : (other : ℕ) → IsSpace (forest_of k1) [] other → KeepsRoot (forest_of k0) (forest_of k1) [] other
    raised_root other is = record {
      was = record {
        owned = ap (λ (o : Object → Option Owner). is_some (o (NodeObject other))) (sym owner_same) ∙ is.owned;
        unnamed = λ place h. is.unnamed place (ap (λ (keys : ℕ → Key). named (at keys place)) keys_same ∙ h);
        not_in_hand = is.not_in_hand;
      };
      owner = ap (λ (o : Object → Option Owner). o (NodeObject other)) owner_same;
      keeper = ap (λ (keys : ℕ → Key). at keys (place_of other 15)) keys_same;
    }

    -- own ways stay own while the page is counted more
    pub raised_way : (outside : Outside) → TreesGood k0 outside [] → KeepsWays k0 k1
    raised_way outside trees mine other is own =
        let four = length-node_way other in
        counts_keep_way (forest_of k0) (forest_of k1) [] mine trees.held.sound trees.held.rooted is keys_same
        (λ node. ap (λ (f : Forest). f.count (NodeObject node)) raises.steps.forest_now ∙ raised_nodes (forest_of k0) id false node)
        (node_way other) (way_of_node other) (omega arith) own

    pub raised_owners : (outside : Outside) → TreesGood k0 outside [] → (object : Object) → named (Page id false) ≡ Some object → (forest_of k1).owner object ≡ (forest_of k1).owner (NodeObject space)
    raised_owners outside trees object h =
        let here = mapped_at outside trees object h in
        ap (λ (o : Object → Option Owner). o object) owner_same ∙ here.owner ∙ sym (ap (λ (o : Object → Option Owner). o (NodeObject space)) owner_same)

    module _ (k2 : Kernel) (was : Key) (put : PutsLeaf k1 k2 space page (Page id false) was) (known : Outside) (known_trees : TreesGood k0 known []) where
      was_is : was ≡ Page id writable
      was_is = mapped_key was writable id (put.mapping ∙ ap (λ (keys : ℕ → Key). map_of keys space page) keys_same ∙ found)

      hand : Releasing k2 known (was ∷ [])
      hand = put.hand known (raised_trees k1 known known_trees raises)

      pub protected_owned : id.0 ≢ 0 → IsSome ((forest_of k2).owner (PageObject id.0))
      protected_owned real = front_owned (forest_of k2) (outside_trees k2 known) was [] hand.held.counts (PageObject id.0) (ap named was_is ∙ real_named id writable real)

      -- the page is counted at its place and in hand
      pub protected_many : id.0 ≢ 0 → 2 ≤ (forest_of k2).count (PageObject id.0)
      unfolding namings
      protected_many real =
          let exact = hand.held.exact.counted (PageObject id.0) (protected_owned real) in
          let stands : named (at (forest_of k2).keys put.place) ≡ Some (PageObject id.0) = ap named put.stands ∙ real_named id false real in
          let place = counted_one (λ p. names (PageObject id.0) (at (forest_of k2).keys p)) (16 * (forest_of k2).nodes) put.place
          (place_within (forest_of k2) hand.held.sound put.place (PageObject id.0) stands) (true-names (PageObject id.0) (at (forest_of k2).keys put.place) stands) in
          let held = in_hand-cons was [] (PageObject id.0) in
          let one : bit (names (PageObject id.0) was) ≡ 1 = ap bit (true-names (PageObject id.0) was (ap named was_is ∙ real_named id writable real)) in
          omega arith

      many_was : IsMany (forest_of k2) (named (Page id writable))
      many_was object h = ⊎_elim
          (λ (t : id.0 ≡ 0). absurd (let no : None ≡ Some object = ap (λ n. named (Page (record { 0 = n }) writable)) (sym t) ∙ h in cc))
          (λ (t : id.0 ≢ 0).
          let both : Some (PageObject id.0) ≡ Some object = sym (real_named id writable t) ∙ h in
          let is : PageObject id.0 ≡ object = cc in
          subst (λ o. 2 ≤ (forest_of k2).count o) is (protected_many t))
          (cases_eq id.0 0)

      pub protected : (k3 : Kernel) → LowersKey k2 k3 (Page id writable)
          → Remaps k0 k3 space 4 (with_at (map_of (forest_of k0).keys space) page (Some (record { writable = false; page = id.0 })))
      protected k3 lowers = record {
        changes = λ outside trees.
            let done = put.after outside (raised_trees k1 outside trees raises) k3 lets in
            (done.0, subst (λ (keys : ℕ → Key). ChangesMap (forest_of k0) (forest_of k3) space (with_at (map_of keys space) page (Some (record { writable = false; page = id.0 })))) keys_same (back done.1));
        filled = λ filled.
            let now = put.filled (λ e. cc) (subst NoneEmpty (sym keys_same) filled) in
            release_leaves_none_empty (forest_of k2) (forest_of k3) (outside_trees k2 known) (was ∷ []) [] hand.held (lets.lets known [] hand).1 now;
        ways = λ mine other is own.
            subst (λ f. OwnWay f mine (node_way other)) (sym lowers.steps.forest_now)
            (own_less (forest_of k2) (named (Page id writable)) many_was mine (node_way other)
            (put.ways mine other (raised_space mine is) (raised_way known known_trees mine other is own)));
        outside_now = λ outside. lowers.steps.outside_now outside ∙ put.outside_now outside ∙ raises.steps.outside_now outside;
        rows_now = λ mine apart. lowers.steps.rows_now mine apart ∙ put.rows_now mine apart ∙ raises.steps.rows_now mine apart;
        apart_now = lowers.steps.apart_now ∙ put.apart_now ∙ raises.steps.apart_now;
        owners_now = lowers.steps.owners_now ∙ put.owners_now ∙ raises.steps.owners_now;
        inside = λ outside. inside_same k0 k3 outside (lowers.steps.outside_now outside ∙ put.outside_now outside ∙ raises.steps.outside_now outside)
            (λ number some.
            let between = ap (λ (o : Object → Option Owner). is_some (o (PageObject number))) (ap (λ (f : Forest). f.owner) lowers.steps.forest_now ∙ less_owner (forest_of k2) (named (Page id writable))) in
            ap (λ (o : Object → Option Owner). is_some (o (PageObject number))) (sym owner_same) ∙ ap is_some (sym (put.pages_now number)) ∙ sym between ∙ some);
        rest = rest_trans k0 k2 k3 (rest_trans k0 k1 k2 raises.steps.rest put.rest) lowers.steps.rest;
        most = let a = put.most in let b = raises.steps.number in let c = lowers.steps.number in omega arith;
      }
        where
          lets : Lets k2 k3 (was ∷ []) []
          lets = subst (λ key. Lets k2 k3 (key ∷ []) []) (sym was_is) (lets_lowered k2 k3 (Page id writable) many_was lowers)

          back : ChangesMap (forest_of k1) (forest_of k3) space (with_at (map_of (forest_of k1).keys space) page (Some (record { writable = false; page = id.0 })))
              → ChangesMap (forest_of k0) (forest_of k3) space (with_at (map_of (forest_of k1).keys space) page (Some (record { writable = false; page = id.0 })))
          back change = record {
            stays = change.stays;
            here = change.here;
            others = record {
              stay = λ other is apart. change.others.stay other (raised_space other is) apart;
              maps = λ other is apart. change.others.maps other (raised_space other is) apart ∙ ap (λ (keys : ℕ → Key). map_of keys other) keys_same;
            };
            roots = λ other is. root_trans (forest_of k0) (forest_of k1) (forest_of k3) [] [] other (raised_root other (change.roots other is).was) (change.roots other is);
          }
