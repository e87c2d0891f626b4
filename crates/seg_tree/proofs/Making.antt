-- The page at a page number is made a space's own: nothing changes where it was, and else a copy is put in its place.
use Rattle.std.proofs.Common.{inl, inr, ◌≡◌, ◌≢◌, ◌<◌, ◌≤◌, ◌+◌, ◌-◌, ◌/◌, ◌%◌, ◌^◌, ◌==◌, ◌&&◌, not, ◌↔◌, ℕ, Bool, true, false, Option, Some, None, [], ◌∷◌, length, refl, ap, sym, subst, ◌∙◌, arith, ⊎_elim}
use Rattle.std.specs.Option.{is_some, IsSome}
use Rattle.std.proofs.lemmas.Bool.{cases_lt, cases_eq, ne_eqb, eq-eqb, eqb-true}
use Rattle.kn_base.specs.declared.key.Key.{Key}
use Rattle.kn_base.specs.declared.key.Key.TheVariants.{Null}
use Rattle.kernel_tables.specs.declared.entry.PageOwner.{PageOwner}
use Rattle.kernel_tables.specs.Kernel.{Kernel, IsBankPage, bank_page, memory_page, first_page}
use Rattle.kernel_tables.specs.Rows.{entry_at}
use Rattle.space_bank.specs.Bank.{BankGood}
use Rattle.space_bank.specs.FreeList.{is_free}
use Rattle.space_bank.specs.Shares.{Outside}
use Rattle.unix_model.specs.Tables.{at, with_at}
use Rattle.unix_model.proofs.TableLaws.{with_at-same}
use Rattle.forest.specs.Objects.{Object, PageObject, NodeObject, Owner, named}
use Rattle.forest.specs.Walks.{place_of, key_along, space_key, IsWay, digits, page_way, map_of, mapping_of, Mapping}
use Rattle.forest.specs.Forest.{Forest, Held, IsSpace, FitsUnder, EndsAt, OwnWay, NoneEmpty, NoneEmptyBut, IsFilled, node_way}
use Rattle.forest.specs.Changes.{IsFree, KeepsRoot}
use Rattle.forest.proofs.RootLaws.{root_trans}
use Rattle.forest.specs.Descent.{IsMadeOwn}
use Rattle.forest.specs.Calls.{ChangesMap, IsOwn}
use Rattle.forest.proofs.ReleaseLaws.{is_or_not}
use Rattle.forest.proofs.OwnLaws.{owned_object}
use Rattle.forest.proofs.OwnMaps.{page_way-parts, length-node_way, way_of_node}
use Rattle.forest.proofs.CopyLaws.{counted_once, once, end_owned, free_unnamed}
use Rattle.forest.proofs.DescentLaws.{AtEnd, makes_way_own}
use Rattle.forest.proofs.CallLaws.{own_way_is_own}
use Rattle.forest.proofs.AloneLaws.{own_has_own_way}
use Rattle.forest.proofs.EmptyLaws.{descent_leaves_last_empty, write_fills}
use Rattle.kernel_forest.proofs.ApartLaws.{inside_same}
use Rattle.kernel_forest.proofs.Owners.{keeps-takes, taken-takes, free-by-nobody}
use Rattle.kernel_forest.specs.Trees.{forest_of, outside_trees, page_tree, TreesGood}
use Rattle.kernel_forest.specs.Moves.{KeepsRest}
use Rattle.kernel_forest.specs.Owners.{page_owners}
use Rattle.kernel_forest.proofs.GivingNodes.{unreleased, same_bytes}
use Rattle.kernel_forest.proofs.InTrees.{AllTreeKeys, AllSingle, written_in_trees}
use Rattle.seg_tree.specs.Steps.{Descends}
use Rattle.seg_tree.specs.Writes.{page_key, writable_mapping, leaf_copied, CopiesLeaf, Owns}
use Rattle.seg_tree.proofs.Emptying.{unreleased_trans}
use Rattle.seg_tree.proofs.Levels.{below_end}
use Rattle.seg_tree.proofs.Mapping.{page_top, node_way-digits, map_here, made_pages}
use Rattle.seg_tree.proofs.OwnPages.{IsMany, changed, is_own, changes, ways_now, keys_now, page_owner_now, other_owner_now, space_before, space_after}
use Rattle.seg_tree.proofs.OwnWays.{made_keeps_way}
use Rattle.seg_tree.proofs.FreePages.{unnamed_free}
use Rattle.seg_tree.proofs.PageCopies.{in_use}
use Rattle.seg_tree.proofs.Replacing.{mapped_key}

-- the key of a page that may be written
key_mapped : (key : Key) (page : ℕ) → mapping_of key ≡ Some (writable_mapping page) → key ≡ page_key page
key_mapped key page h = mapped_key key true (record { 0 = page }) h

page_named : (page : ℕ) → page ≢ 0 → named (page_key page) ≡ Some (PageObject page)
page_named page real = rw (ne_eqb page 0 real) refl

digits_four : (page : ℕ) → length (digits 4 (page / 16)) ≡ 4
digits_four page = ap length (sym (node_way-digits page)) ∙ length-node_way page

-- no node is empty where the last one has a key
pub filled_last : (keys : ℕ → Key) (node : ℕ) → NoneEmptyBut keys node → IsFilled keys node → NoneEmpty keys
filled_last keys node but here place other h = ⊎_elim
    (λ (t : other ≡ node). subst (IsFilled keys) (sym t) here)
    (λ (t : other ≢ node). but place other h t)
    (cases_eq other node)

-- what is known where the way to a page was made own
pub record Arrives (old mid : Kernel) (space page node found : ℕ) (to : Owner) (outside : Outside) : Type 0 where
  pub trees : TreesGood mid outside []
  pub is_space : IsSpace (forest_of mid) [] space
  pub owner : (forest_of mid).owner (NodeObject space) ≡ Some to
  pub spaces : (other : ℕ) → IsSpace (forest_of old) [] other ↔ IsSpace (forest_of mid) [] other
  pub maps : (other : ℕ) → IsSpace (forest_of old) [] other → map_of (forest_of mid).keys other ≡ map_of (forest_of old).keys other
  pub roots : (other : ℕ) → IsSpace (forest_of mid) [] other → KeepsRoot (forest_of old) (forest_of mid) [] other
  pub above : OwnWay (forest_of mid) space (node_way page)
  pub ends : EndsAt (forest_of mid).keys space (node_way page) (NodeObject node)
  pub stands : at (forest_of mid).keys (place_of node (page % 16)) ≡ page_key found
  pub filled : NoneEmpty (forest_of old).keys → NoneEmptyBut (forest_of mid).keys node
  pub same_map : map_of (forest_of mid).keys space ≡ with_at (map_of (forest_of old).keys space) page (Some (writable_mapping found))

module _ (old mid : Kernel) (space page node found : ℕ) (to : Owner) (below : page < 2 ^ 19) (is_space : IsSpace (forest_of old) [] space)
    (owner : (forest_of old).owner (NodeObject space) ≡ Some to) (mapped : map_of (forest_of old).keys space page ≡ Some (writable_mapping found))
    (outside : Outside) (trees : TreesGood old outside []) (d : Descends old mid outside [] space to (digits 4 (page / 16)) node) where
  way : IsWay (digits 4 (page / 16))
  way = subst IsWay (node_way-digits page) (way_of_node page)

  long : length (digits 4 (page / 16)) ≡ 4
  long = ap length (sym (node_way-digits page)) ∙ length-node_way page

  made : IsMadeOwn (outside_trees old outside) [] space (forest_of old) (forest_of mid) (digits 4 (page / 16)) d.taken
  made = makes_way_own (outside_trees old outside) [] space to (forest_of old) (forest_of mid) (digits 4 (page / 16)) d.taken
      trees.held is_space owner way (omega (arith, long)) (page_top page below) d.made

  mid_space : IsSpace (forest_of mid) [] space
  mid_space = (made.spaces space).0 is_space

  mid_owner : (forest_of mid).owner (NodeObject space) ≡ Some to
  mid_owner = made.owners (NodeObject space) is_space.owned ∙ owner

  own_above : OwnWay (forest_of mid) space (node_way page)
  own_above = subst (OwnWay (forest_of mid) space) (sym (node_way-digits page)) made.own

  ends : EndsAt (forest_of mid).keys space (node_way page) (NodeObject node)
  ends = subst (λ w. EndsAt (forest_of mid).keys space w (NodeObject node)) (sym (node_way-digits page)) d.ends

  pub node_owned : IsSome ((forest_of mid).owner (NodeObject node))
  node_owned = end_owned (forest_of mid) [] d.trees.held.sound space mid_space (digits 4 (page / 16)) (NodeObject node) d.ends

  along : key_along (forest_of mid).keys (space_key space) (page % 16 ∷ node_way page) ≡ at (forest_of mid).keys (place_of node (page % 16))
  along = below_end (forest_of mid).keys space node (page % 16) (node_way page) ends

  mid_map : map_of (forest_of mid).keys space ≡ map_of (forest_of old).keys space
  mid_map = made.maps space is_space

  pub stands : at (forest_of mid).keys (place_of node (page % 16)) ≡ page_key found
  stands = key_mapped (at (forest_of mid).keys (place_of node (page % 16))) found
      (ap mapping_of (sym along) ∙ sym (map_here (forest_of mid).keys space page below) ∙ ap (λ (map : ℕ → Option Mapping). map page) mid_map ∙ mapped)

  names_found : found ≢ 0 → named (at (forest_of mid).keys (place_of node (page % 16))) ≡ Some (PageObject found)
  names_found real = ap named stands ∙ page_named found real

  pub found_owned : found ≢ 0 → IsSome ((forest_of mid).owner (PageObject found))
  found_owned real = owned_object (forest_of mid) d.trees.held.sound (place_of node (page % 16)) (PageObject found) (names_found real)

  mid_own : IsOwn (forest_of old) space page (writable_mapping found) → OwnWay (forest_of old) space (page % 16 ∷ node_way page)
  mid_own own = subst (OwnWay (forest_of old) space) (page_way-parts page) (own_has_own_way (forest_of old) (outside_trees old outside) space page (writable_mapping found) trees.held is_space own)

  unchanged : IsOwn (forest_of old) space page (writable_mapping found) → (d.taken ≡ 0) × (forest_of mid ≡ forest_of old)
  unchanged own = made.unchanged (subst (OwnWay (forest_of old) space) (node_way-digits page) (mid_own own).1)

  -- an own page is counted once
  pub own_single : IsOwn (forest_of old) space page (writable_mapping found) → (found ≢ 0) × ((forest_of mid).count (PageObject found) ≡ 1)
  own_single own =
      let same = (unchanged own).1 in
      let o = once (forest_of old) (key_along (forest_of old).keys (space_key space) (page % 16 ∷ node_way page)) (mid_own own).0 in
      let key : named (key_along (forest_of old).keys (space_key space) (page % 16 ∷ node_way page)) ≡ Some (PageObject found) =
      ap (λ (f : Forest). named (key_along f.keys (space_key space) (page % 16 ∷ node_way page))) (sym same) ∙ ap named along ∙ names_found own.real in
      let both : Some o.object ≡ Some (PageObject found) = sym o.names_it ∙ key in
      let is : o.object ≡ PageObject found = cc in
      (own.real, ap (λ (f : Forest). f.count (PageObject found)) same ∙ ap (forest_of old).count (sym is) ∙ o.counted)

  filled_mid : NoneEmpty (forest_of old).keys → NoneEmptyBut (forest_of mid).keys node
  filled_mid filled = descent_leaves_last_empty (outside_trees old outside) [] space to (forest_of old) (forest_of mid) (digits 4 (page / 16)) d.taken node
      trees.held is_space owner way (omega (arith, long)) (page_top page below) d.made d.ends filled

  with_same : with_at (map_of (forest_of old).keys space) page (Some (writable_mapping found)) ≡ map_of (forest_of old).keys space
  unfolding at
  with_same = with_at-same (map_of (forest_of old).keys space) page (Some (writable_mapping found)) mapped

  pub arrives : Arrives old mid space page node found to outside
  arrives = record {
    trees = d.trees;
    is_space = mid_space;
    owner = mid_owner;
    spaces = made.spaces;
    maps = made.maps;
    roots = λ other is.
        let was = (made.spaces other).1 is in
        record { was = was; owner = made.owners (NodeObject other) was.owned; keeper = made.keepers other was };
    above = own_above;
    ends = ends;
    stands = stands;
    filled = filled_mid;
    same_map = mid_map ∙ sym with_same;
  }

  pub ways_mid : (mine other : ℕ) → IsSpace (forest_of old) [] mine → OwnWay (forest_of old) mine (node_way other) → OwnWay (forest_of mid) mine (node_way other)
  ways_mid mine other is other_own =
      let start : AtEnd (forest_of old) (outside_trees old outside) [] space to [] =
      record { held = trees.held; is_space = is_space; space_owner = owner; is_way = tt; own = tt } in
      made_keeps_way (outside_trees old outside) [] space to d.made start way (omega (arith, long)) (page_top page below) mine is (node_way other) (way_of_node other) other_own

  pub none_mid : OwnWay (forest_of old) space (node_way page) → mid.machine.nodes_taken ≡ old.machine.nodes_taken
  none_mid own =
      let none = (made.unchanged (subst (OwnWay (forest_of old) space) (node_way-digits page) own)).0 in
      let number = d.number in
      omega arith

  -- the page is counted once
  module _ (good : BankGood mid) (page_owner : PageOwner) (real : found ≢ 0) (single : (forest_of mid).count (PageObject found) ≡ 1) where
    whole : OwnWay (forest_of mid) space (page_way page)
    whole = subst (OwnWay (forest_of mid) space) (sym (page_way-parts page)) (
      counted_once (forest_of mid) (key_along (forest_of mid).keys (space_key space) (page % 16 ∷ node_way page)) (PageObject found) (ap named along ∙ names_found real) single,
      own_above,
    )

    own_mid : IsOwn (forest_of mid) space page (writable_mapping found)
    own_mid = own_way_is_own (forest_of mid) (outside_trees mid outside) space page (writable_mapping found) d.trees.held mid_space whole
        (ap (λ (map : ℕ → Option Mapping). map page) mid_map ∙ mapped) real

    own_before : IsOwn (forest_of old) space page (writable_mapping found)
    own_before = record {
      mapped = mapped;
      real = real;
      alone = λ other number other_found is h same.
          own_mid.alone other number other_found ((made.spaces other).0 is) (ap (λ (map : ℕ → Option Mapping). map number) (made.maps other is) ∙ h) same;
    }

memory_real : (kernel : Kernel) (page : ℕ) → page ≢ 0 → memory_page kernel page ≡ bank_page kernel page
memory_real kernel page real = rw (ne_eqb page 0 real) refl

memory_same : (old new : Kernel) → KeepsRest old new → (page : ℕ) → memory_page new page ≡ memory_page old page
memory_same old new rest page = ap (λ (k : Kernel). memory_page k page) rest

no_null : (key : Key) (page : ℕ) → key ≡ page_key page → key ≢ Null
no_null key page is null = let no : page_key page ≡ Null = sym is ∙ null in cc

module _ (old mid : Kernel) (space page node found : ℕ) (to : Owner) (below : page < 2 ^ 19) (is_space : IsSpace (forest_of old) [] space)
    (owner : (forest_of old).owner (NodeObject space) ≡ Some to) (mapped : map_of (forest_of old).keys space page ≡ Some (writable_mapping found))
    (known : Outside) (trees : TreesGood old known [])
    (descends : (outside : Outside) → TreesGood old outside [] → Descends old mid outside [] space to (digits 4 (page / 16)) node) where
  here : Arrives old mid space page node found to known
  here = arrives old mid space page node found to below is_space owner mapped known trees (descends known trees)

  there : (outside : Outside) → TreesGood old outside [] → Arrives old mid space page node found to outside
  there outside good = arrives old mid space page node found to below is_space owner mapped outside good (descends outside good)

  -- the page was own
  pub owns_kept : BankGood mid → (page_owner : PageOwner) → found ≢ 0 → (forest_of mid).count (PageObject found) ≡ 1 → Owns old mid space page found page_owner
  owns_kept good page_owner real single =
      let d = descends known trees in
      let taken_few = d.few in
      let taken_number = d.number in
      record {
        found = writable_mapping found;
        mapped = mapped;
        writable = refl;
        changes = λ outside all.
            let a = there outside all in (
              a.trees,
              record { stays = a.is_space; here = a.same_map; others = record { stay = λ other is apart. (a.spaces other).0 is; maps = λ other is apart. a.maps other is }; roots = a.roots },
            );
        spaces = here.spaces;
        own = own_mid old mid space page node found to below is_space owner mapped known trees d good page_owner real single;
        in_use = in_use mid found good (found_owned old mid space page node found to below is_space owner mapped known trees d real);
        content = same_bytes old mid d.rest found ∙ sym (memory_real old found real);
        bytes = λ number inside apart. same_bytes old mid d.rest number;
        filled = λ filled. filled_last (forest_of mid).keys node (here.filled filled) (page % 16, omega arith, no_null (at (forest_of mid).keys (place_of node (page % 16))) found here.stands);
        outside_now = d.outside_now;
        rows_now = d.rows_now;
        apart_now = d.apart_now;
        owners_now = keeps-takes page_owner old mid d.owners_now;
        inside = λ outside all. inside_same old mid outside (d.outside_now outside) (λ number some. ap is_some (sym (made_pages d.made number)) ∙ some);
        rest = unreleased old mid d.rest;
        told = inl (own_before old mid space page node found to below is_space owner mapped known trees d good page_owner real single);
        kept = λ own. (refl, d.same (unchanged old mid space page node found to below is_space owner mapped known trees d own).0);
        copied = λ no. absurd (no (own_before old mid space page node found to below is_space owner mapped known trees d good page_owner real single));
        ways = ways_mid old mid space page node found to below is_space owner mapped known trees d;
        most = let long = digits_four page in omega (arith, long);
        none = none_mid old mid space page node found to below is_space owner mapped known trees d;
      }

  -- the page was not own
  module _ (new : Kernel) (fresh : ℕ) (page_owner : PageOwner) (tree : page_tree page_owner ≡ Some to) (good : BankGood new)
      (c : CopiesLeaf mid new (place_of node (page % 16)) found fresh page_owner to) (real : fresh ≢ 0) (many : found ≢ 0 → 2 ≤ (forest_of mid).count (PageObject found)) where
    is_many : IsMany (forest_of mid) (named (at (forest_of mid).keys (place_of node (page % 16))))
    is_many object h = ⊎_elim
        (λ (t : found ≡ 0). absurd (let no : None ≡ Some object = ap (λ n. named (page_key n)) (sym t) ∙ ap named (sym here.stands) ∙ h in cc))
        (λ (t : found ≢ 0).
        let both : Some (PageObject found) ≡ Some object = sym (page_named found t) ∙ ap named (sym here.stands) ∙ h in
        let is : PageObject found ≡ object = cc in
        subst (λ o. 2 ≤ (forest_of mid).count o) is (many t))
        (cases_eq found 0)

    fits : FitsUnder 1 (at (forest_of mid).keys (place_of node (page % 16)))
    fits = subst (FitsUnder 1) (sym here.stands) refl

    free : (outside : Outside) → TreesGood old outside [] → IsFree (forest_of mid) (outside_trees mid outside) [] (PageObject fresh)
    free outside all = c.takes.free outside [] tt (there outside all).trees.shares

    after : (outside : Outside) (all : TreesGood old outside []) → TreesGood new outside []
        × ChangesMap (forest_of old) (forest_of new) space (with_at (map_of (forest_of old).keys space) page (Some (writable_mapping fresh)))
    after outside all =
        let a = there outside all in
        let held = (changed (forest_of mid) (outside_trees mid outside) space page node fresh to a.trees.held a.is_space a.owner below a.above a.ends (free outside all) real is_many).0 in
        let change = changes (forest_of mid) (outside_trees mid outside) space page node fresh to a.trees.held a.is_space a.owner below a.above a.ends (free outside all) real is_many in
        let keys = keys_now (forest_of mid) (outside_trees mid outside) space page node fresh to a.trees.held a.is_space a.owner below a.above a.ends (free outside all) real is_many in (
          record {
            shares = c.shares outside [] a.trees.shares;
            held = subst (λ out. Held (forest_of new) out []) (sym (c.takes.outside_now outside))
                (subst (λ f. Held f (outside_trees mid outside) []) (sym c.takes.forest_now) held);
            in_hand = tt;
            short = omega arith;
            in_trees = subst (λ (f : Forest). AllTreeKeys f.keys) (sym c.takes.forest_now)
                (subst AllTreeKeys (sym keys) (written_in_trees (forest_of mid).keys (place_of node (page % 16)) (page_key fresh) tt a.trees.in_trees));
            single = subst (λ out. AllSingle (forest_of new) out) (sym (c.takes.outside_now outside))
                (subst (λ (f : Forest). AllSingle f (outside_trees mid outside)) (sym c.takes.forest_now) (single outside all));
          },
          subst (λ (f : Forest). ChangesMap (forest_of old) f space (with_at (map_of (forest_of old).keys space) page (Some (writable_mapping fresh)))) (sym c.takes.forest_now)
              (record {
                stays = change.stays;
                here = change.here ∙ ap (λ (map : ℕ → Option Mapping). with_at map page (Some (writable_mapping fresh))) (a.maps space is_space);
                others = record {
                  stay = λ other is apart. change.others.stay other ((a.spaces other).0 is) apart;
                  maps = λ other is apart. change.others.maps other ((a.spaces other).0 is) apart ∙ a.maps other is;
                };
                roots = λ other is.
                    let last = change.roots other is in
                    root_trans (forest_of old) (forest_of mid) (leaf_copied (forest_of mid) (place_of node (page % 16)) fresh to) [] [] other (a.roots other last.was) last;
              }),
        )
      where
        single : (outside : Outside) (all : TreesGood old outside []) → AllSingle (leaf_copied (forest_of mid) (place_of node (page % 16)) fresh to) (outside_trees mid outside)
        single outside all object some = ⊎_elim
            (λ (t : object ≡ PageObject fresh). let none = (free outside all).none_outside in let same = ap (outside_trees mid outside) t in omega (arith, same))
            (λ (t : object ≢ PageObject fresh).
            let a = there outside all in
            a.trees.single object (ap is_some (sym (other_owner_now (forest_of mid) (outside_trees mid outside) space page node fresh to a.trees.held a.is_space a.owner below a.above a.ends (free outside all) real is_many object t)) ∙ some))
            (is_or_not object (PageObject fresh))

    pub owns_copied : BankGood old → ((found ≢ 0) → (forest_of mid).count (PageObject found) ≡ 1 → ⊥) → Owns old new space page fresh page_owner
    owns_copied old_good not_single =
        let d = descends known trees in
        let f = free known trees in
        let taken_few = d.few in
        let taken_number = d.number in
        let nodes = c.takes.nodes in
        let size : mid.size ≡ old.size = ap (λ (k : Kernel). k.size) d.rest in
        let owned : (forest_of new).owner (PageObject fresh) ≡ Some to =
        ap (λ (g : Forest). g.owner (PageObject fresh)) c.takes.forest_now
        ∙ page_owner_now (forest_of mid) (outside_trees mid known) space page node fresh to here.trees.held here.is_space here.owner below here.above here.ends f real is_many in
        let was_free : is_free (entry_at old.page_entries (fresh - first_page old.size)) ≡ true =
        unnamed_free old known fresh old_good (subst (λ s. IsBankPage s fresh) size c.takes.inside) trees.shares
        (free_unnamed (forest_of old) trees.held.sound (PageObject fresh) (sym (made_pages d.made fresh) ∙ c.takes.unowned))
        (ap (λ (out : Object → ℕ). out (PageObject fresh)) (sym (d.outside_now known)) ∙ f.none_outside) in
        let taken_now : page_owners new ≡ with_at (page_owners old) fresh (Some page_owner) =
        c.takes.owners_now ∙ ap (λ (owners : ℕ → Option PageOwner). with_at owners fresh (Some page_owner)) d.owners_now in
        record {
          found = writable_mapping found;
          mapped = mapped;
          writable = refl;
          changes = after;
          spaces = λ other. (
            λ is. subst (λ g. IsSpace g [] other) (sym c.takes.forest_now)
                (space_after (forest_of mid) (outside_trees mid known) space page node fresh to here.trees.held here.is_space here.owner below here.above here.ends f real is_many other ((here.spaces other).0 is)),
            λ is. (here.spaces other).1 (
                space_before (forest_of mid) (outside_trees mid known) space page node fresh to here.trees.held here.is_space here.owner below here.above here.ends f real is_many fits other
                (subst (λ g. IsSpace g [] other) c.takes.forest_now is)),
          );
          own = subst (λ g. IsOwn g space page (writable_mapping fresh)) (sym c.takes.forest_now)
              (is_own (forest_of mid) (outside_trees mid known) space page node fresh to here.trees.held here.is_space here.owner below here.above here.ends f real is_many);
          in_use = in_use new fresh good (ap is_some owned);
          content = c.takes.content ∙ memory_same old mid d.rest found;
          bytes = λ number inside apart. c.takes.bytes number (subst (λ s. IsBankPage s number) (sym size) inside) apart ∙ same_bytes old mid d.rest number;
          filled = λ filled. subst (λ (g : Forest). NoneEmpty g.keys) (sym c.takes.forest_now)
              (subst NoneEmpty (sym (keys_now (forest_of mid) (outside_trees mid known) space page node fresh to here.trees.held here.is_space here.owner below here.above here.ends f real is_many))
              (write_fills (forest_of mid).keys node (page % 16) (page_key fresh) (here.filled filled) (omega arith) refl (λ e. cc)));
          outside_now = λ outside. c.takes.outside_now outside ∙ d.outside_now outside;
          rows_now = λ mine apart. c.takes.rows_now mine apart ∙ d.rows_now mine apart;
          apart_now = c.takes.apart_now ∙ d.apart_now;
          owners_now = taken-takes page_owner old new fresh taken_now (free-by-nobody old fresh was_free);
          inside = λ outside all none number some. ⊎_elim
              (λ (t : PageObject number ≡ PageObject fresh).
              ap (λ (out : Object → ℕ). out (PageObject number)) (c.takes.outside_now outside) ∙ ap (outside_trees mid outside) t ∙ (free outside all).none_outside)
              (λ (t : PageObject number ≢ PageObject fresh).
              let a = there outside all in
              let still = other_owner_now (forest_of mid) (outside_trees mid outside) space page node fresh to a.trees.held a.is_space a.owner below a.above a.ends (free outside all) real is_many (PageObject number) t in
              ap (λ (out : Object → ℕ). out (PageObject number)) (c.takes.outside_now outside ∙ d.outside_now outside)
              ∙ none number (ap is_some (sym (made_pages d.made number)) ∙ ap is_some (sym still) ∙ ap (λ (f : Forest). is_some (f.owner (PageObject number))) (sym c.takes.forest_now) ∙ some))
              (is_or_not (PageObject number) (PageObject fresh));
          rest = unreleased_trans old mid new (unreleased old mid d.rest) c.takes.rest;
          told = inr (λ own. let one = own_single old mid space page node found to below is_space owner mapped known trees d own in not_single one.0 one.1);
          kept = λ own.
              let one = own_single old mid space page node found to below is_space owner mapped known trees d own in
              absurd (not_single one.0 one.1);
          copied = λ no. record {
            was_free = was_free;
            unowned = sym (made_pages d.made fresh) ∙ c.takes.unowned;
            unnamed = λ outside all. ap (λ (out : Object → ℕ). out (PageObject fresh)) (sym (d.outside_now outside)) ∙ (free outside all).none_outside;
            owned = owned ∙ sym tree;
            owners_now = taken_now;
            number = c.takes.pages ∙ ap (λ (k : Kernel). k.machine.pages_taken + 1) d.rest;
          };
          ways = λ mine other is own.
              subst (λ g. OwnWay g mine (node_way other)) (sym c.takes.forest_now)
              (ways_now (forest_of mid) (outside_trees mid known) space page node fresh to here.trees.held here.is_space here.owner below here.above here.ends f real is_many mine other ((here.spaces mine).0 is)
              (ways_mid old mid space page node found to below is_space owner mapped known trees d mine other is own));
          most = let long = digits_four page in omega (arith, long);
          none = λ own.
              let none = none_mid old mid space page node found to below is_space owner mapped known trees d own in
              omega arith;
        }

-- what the test tells
pub is_once : (kernel : Kernel) (page : ℕ) (test : Bool) → test ≡ (not (page == 0) && ((forest_of kernel).count (PageObject page) == 1)) → test ≡ true
    → (page ≢ 0) × ((forest_of kernel).count (PageObject page) ≡ 1)
is_once kernel page test is told = ⊎_elim
    (λ (t : page ≡ 0). absurd (let no : false ≡ true = ap (λ b. not b && ((forest_of kernel).count (PageObject page) == 1)) (sym (eq-eqb page 0 t)) ∙ sym is ∙ told in cc))
    (λ (t : page ≢ 0). (
      t,
      eqb-true ((forest_of kernel).count (PageObject page)) 1
          (ap (λ b. not b && ((forest_of kernel).count (PageObject page) == 1)) (sym (ne_eqb page 0 t)) ∙ sym is ∙ told),
    ))
    (cases_eq page 0)

pub not_once : (kernel : Kernel) (page : ℕ) (test : Bool) → test ≡ (not (page == 0) && ((forest_of kernel).count (PageObject page) == 1)) → test ≡ false
    → page ≢ 0 → (forest_of kernel).count (PageObject page) ≡ 1 → ⊥
not_once kernel page test is told real one =
    let wrong : true ≡ false = sym (rw (ne_eqb page 0 real, one) at is) ∙ told in cc

pub many_found : (kernel : Kernel) (page : ℕ) (outside : Outside) → TreesGood kernel outside [] → IsSome ((forest_of kernel).owner (PageObject page))
    → ((forest_of kernel).count (PageObject page) ≡ 1 → ⊥) → 2 ≤ (forest_of kernel).count (PageObject page)
many_found kernel page outside trees owned not_one =
    let alive = trees.held.alive (PageObject page) owned in
    ⊎_elim
    (λ (t : (forest_of kernel).count (PageObject page) < 2). absurd (not_one (omega arith)))
    (λ (t : 2 ≤ (forest_of kernel).count (PageObject page)). t)
    (cases_lt ((forest_of kernel).count (PageObject page)) 2)

pub fresh_real : (kernel : Kernel) (page : ℕ) → IsBankPage kernel.size page → page ≢ 0
unfolding first_page
fresh_real kernel page inside none = let low = inside.low in omega arith
