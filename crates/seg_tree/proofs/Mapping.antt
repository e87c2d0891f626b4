-- A page number of a space is mapped.
use Rattle.std.proofs.Common.{◌≡◌, ◌≢◌, ◌<◌, ◌≤◌, ◌+◌, ◌-◌, ◌/◌, ◌%◌, ◌^◌, ℕ, Option, Some, None, List, [], ◌∷◌, length, false, refl, ap, sym, subst, ◌∙◌, arith, ⊎_elim, ◌==◌, true, Bool}
use Rattle.std.specs.Option.{is_some, IsSome}
use Rattle.std.proofs.lemmas.Bool.{lt-ltb, cases_Bool}
use Rattle.kn_base.specs.declared.key.Key.{Key}
use Rattle.kn_base.specs.declared.key.Key.TheVariants.{Null, Page, Segment}
use Rattle.kn_base.specs.declared.key.PageId.{PageId}
use Rattle.kernel_tables.specs.Kernel.{Kernel}
use Rattle.space_bank.specs.Shares.{Outside}
use Rattle.unix_model.specs.Tables.{at, with_at}
use Rattle.unix_model.proofs.TableLaws.{at-with_at}
use Rattle.forest.specs.Objects.{Object, NodeObject, Owner, named, names}
use Rattle.forest.specs.Walks.{place_of, key_along, space_key, IsWay, digits, map_of, mapping_of, Mapping}
use Rattle.forest.specs.Forest.{Forest, Held, IsSpace, FitsUnder, EndsAt, OwnWay, NoneEmptyBut, node_way, top_digit}
use Rattle.forest.specs.Descent.{MadeOwn, IsMadeOwn, root, kept, copied}
use Rattle.forest.specs.Calls.{ChangesMap}
use Rattle.forest.proofs.CallLaws.{call_changes_map}
use Rattle.forest.proofs.DescentLaws.{AtEnd, changes_one_page, own_kept}
use Rattle.forest.specs.Release.{Release}
use Rattle.forest.specs.Objects.{PageObject, with_object}
use Rattle.kernel_forest.specs.Releases.{Releasing, Lets}
use Rattle.kernel_forest.proofs.InTrees.{released_in_trees}
use Rattle.seg_tree.specs.Leaves.{PutsLeaf}
use Rattle.forest.proofs.CopyLaws.{end_owned}
use Rattle.forest.proofs.OwnMaps.{page_way-parts, length-node_way, way_of_node, OwnEnd, own_end, short_way}
use Rattle.forest.proofs.ReleaseLaws.{no_name}
use Rattle.kernel_forest.specs.Trees.{forest_of, outside_trees, IsTreeKey, TreesGood}
use Rattle.kernel_forest.specs.Moves.{PutsKey}
use Rattle.kernel_forest.specs.Apart.{KeepsInside}
use Rattle.kernel_forest.proofs.ApartLaws.{inside_same}
use Rattle.seg_tree.specs.Steps.{Descends}
use Rattle.kernel_forest.proofs.Moves.{uncounted_in_hand}
use Rattle.seg_tree.proofs.Copying.{rest_trans}
use Rattle.seg_tree.proofs.Children.{fits_tree}
use Rattle.seg_tree.proofs.PruneWays.{leaf_written}
use Rattle.seg_tree.proofs.Levels.{Begins, under_way, below_end}
use Rattle.seg_tree.proofs.OwnWays.{made_keeps_way, written_keeps_way}
use Rattle.forest.proofs.DescentLaws.{makes_way_own}
use Rattle.forest.proofs.ThinLaws.{held_nothing}
use Rattle.forest.proofs.EmptyLaws.{descent_leaves_last_empty, write_fills}
use Rattle.forest.specs.Forest.{NoneEmpty}
use Rattle.kernel_forest.proofs.InTrees.{AllTreeKeys, AllSingle, written_in_trees}

-- a key that names nothing is in hand
pub trees_nothing : (kernel : Kernel) (outside : Outside) (key : Key) → named key ≡ None → IsTreeKey key → TreesGood kernel outside [] → TreesGood kernel outside (key ∷ [])
trees_nothing kernel outside key none tree good = record {
  shares = (uncounted_in_hand kernel outside [] key none tree).0 good.shares;
  held = held_nothing (forest_of kernel) (outside_trees kernel outside) [] key none good.held;
  in_hand = (tree, tt);
  short = omega arith;
  in_trees = good.in_trees;
  single = good.single;
}

pub node_way-digits : (page : ℕ) → node_way page ≡ digits 4 (page / 16)
unfolding node_way
node_way-digits page = refl

pub page_top : (page : ℕ) → page < 2 ^ 19 → top_digit (digits 4 (page / 16)) < 8
unfolding digits
page_top page below = omega arith

whole_top : (page : ℕ) → page < 2 ^ 19 → top_digit (page % 16 ∷ digits 4 (page / 16)) < 8
unfolding digits
whole_top page below = omega arith

-- nothing is mapped where no page's key stands
pub map_here : (keys : ℕ → Key) (space page : ℕ) → page < 2 ^ 19 → map_of keys space page ≡ mapping_of (key_along keys (space_key space) (page % 16 ∷ node_way page))
unfolding map_of
map_here keys space page below = rw (lt-ltb page (2 ^ 19) below) (ap (λ way. mapping_of (key_along keys (space_key space) way)) (page_way-parts page))

leaf_null : (key : Key) → FitsUnder 1 key → mapping_of key ≡ None → key ≡ Null
leaf_null Null fits none = refl
leaf_null (Page page writable) fits none = cc
leaf_null (Segment node height) fits none = let positive = fits.0 in let next = fits.1 in absurd (omega arith)
leaf_null _ fits none = absurd fits

pub leaf_or_null : (key : Key) → FitsUnder 1 key → ((page : PageId) (writable : Bool) → key ≡ Page page writable → ⊥) → named key ≡ None
leaf_or_null Null fits no_page = refl
leaf_or_null (Page page writable) fits no_page = absurd (no_page page writable refl)
leaf_or_null (Segment child low) fits no_page = let positive = fits.0 in let next = fits.1 in absurd (omega arith)
leaf_or_null _ fits no_page = absurd fits

-- the key of a page names no node, so a space stays one while it is in hand
leaf_no_node : (key : Key) (node : ℕ) → FitsUnder 1 key → names (NodeObject node) key ≡ false
leaf_no_node Null node fits = refl
leaf_no_node (Page page writable) node fits = ⊎_elim
    (λ (t : (page.0 == 0) ≡ true). rw t refl)
    (λ (t : (page.0 == 0) ≡ false). rw t refl)
    (cases_Bool (page.0 == 0))
leaf_no_node (Segment child low) node fits = let positive = fits.0 in let next = fits.1 in absurd (omega arith)
leaf_no_node _ node fits = absurd fits

pub space_leaf : (forest : Forest) (hand : List Key) (key : Key) (space : ℕ) → FitsUnder 1 key → IsSpace forest hand space → IsSpace forest (key ∷ hand) space
space_leaf forest hand key space fits is = record {
  owned = is.owned;
  unnamed = is.unnamed;
  not_in_hand = no_name key hand (NodeObject space) (leaf_no_node key space fits) ∙ is.not_in_hand;
}

-- the key of a page, or Null, is in hand and is put at a page number, on a way that was made own
module _ (old mid : Kernel) (outside : Outside) (space page node : ℕ) (to : Owner) (key : Key) (fits : FitsUnder 1 key) (below : page < 2 ^ 19)
    (trees : TreesGood old outside (key ∷ [])) (is_space : IsSpace (forest_of old) [] space) (owner : (forest_of old).owner (NodeObject space) ≡ Some to)
    (owners : (object : Object) → named key ≡ Some object → (forest_of old).owner object ≡ Some to)
    (d : Descends old mid outside (key ∷ []) space to (digits 4 (page / 16)) node) where
  starts : Begins old outside (key ∷ []) space to
  starts = record { trees = trees; is_space = space_leaf (forest_of old) [] key space fits is_space; owner = owner }

  way : IsWay (digits 4 (page / 16))
  way = subst IsWay (node_way-digits page) (way_of_node page)

  long : length (digits 4 (page / 16)) ≡ 4
  long = ap length (sym (node_way-digits page)) ∙ length-node_way page

  made : IsMadeOwn (outside_trees old outside) (key ∷ []) space (forest_of old) (forest_of mid) (digits 4 (page / 16)) d.taken
  made = makes_way_own (outside_trees old outside) (key ∷ []) space to (forest_of old) (forest_of mid) (digits 4 (page / 16)) d.taken
      starts.trees.held starts.is_space owner way (omega (arith, long)) (page_top page below) d.made

  here_space : IsSpace (forest_of mid) (key ∷ []) space
  here_space = (made.spaces space).0 starts.is_space

  under : FitsUnder 1 (at (forest_of mid).keys (place_of node (page % 16)))
  under =
      let one : 5 - length (digits 4 (page / 16)) ≡ 1 = omega (arith, long) in
      subst (λ h. FitsUnder h (at (forest_of mid).keys (place_of node (page % 16)))) one
      (under_way (forest_of mid) (outside_trees mid outside) (key ∷ []) space node (page % 16) d.trees.held here_space (digits 4 (page / 16)) way (omega (arith, long)) (omega arith) (whole_top page below) d.ends)

  pub was_tree : IsTreeKey (at (forest_of mid).keys (place_of node (page % 16)))
  was_tree = fits_tree 1 (at (forest_of mid).keys (place_of node (page % 16))) under

  pub node_owned : IsSome ((forest_of mid).owner (NodeObject node))
  node_owned = end_owned (forest_of mid) (key ∷ []) d.trees.held.sound space here_space (digits 4 (page / 16)) (NodeObject node) d.ends

  was_mapped : mapping_of (at (forest_of mid).keys (place_of node (page % 16))) ≡ map_of (forest_of old).keys space page
  was_mapped =
      ap mapping_of (sym (below_end (forest_of mid).keys space node (page % 16) (digits 4 (page / 16)) d.ends))
      ∙ ap (λ w. mapping_of (key_along (forest_of mid).keys (space_key space) (page % 16 ∷ w))) (sym (node_way-digits page))
      ∙ sym (map_here (forest_of mid).keys space page below)
      ∙ ap (λ (map : ℕ → Option Mapping). map page) (made.maps space starts.is_space)

  made_way : MadeOwn (outside_trees old outside) (key ∷ []) space to (forest_of old) (node_way page) (forest_of mid) d.taken
  made_way = subst (λ w. MadeOwn (outside_trees old outside) (key ∷ []) space to (forest_of old) w (forest_of mid) d.taken) (sym (node_way-digits page)) d.made

  ends_way : EndsAt (forest_of mid).keys space (node_way page) (NodeObject node)
  ends_way = subst (λ w. EndsAt (forest_of mid).keys space w (NodeObject node)) (sym (node_way-digits page)) d.ends

  module _ (put : Kernel) (puts : PutsKey mid put (place_of node (page % 16)) key) where
    outside_is : (all : Outside) → outside_trees put all ≡ outside_trees old all
    outside_is all = puts.steps.outside_now all ∙ d.outside_now all

    released_hand : Releasing put outside (at (forest_of mid).keys (place_of node (page % 16)) ∷ [])
    released_hand =
        let changed = changes_one_page (outside_trees old outside) [] space to (forest_of old) (forest_of mid) page node key d.taken
        starts.trees.held starts.is_space owner below fits owners made_way ends_way in
        record {
          shares = puts.shares outside [] d.trees.shares;
          held = subst (λ out. Held (forest_of put) out (at (forest_of mid).keys (place_of node (page % 16)) ∷ [])) (sym (outside_is outside))
              (subst (λ f. Held f (outside_trees old outside) (at (forest_of mid).keys (place_of node (page % 16)) ∷ [])) (sym puts.steps.forest_now) changed.held);
          in_hand = (was_tree, tt);
        }

    remapped : (new : Kernel) → Lets put new (at (forest_of mid).keys (place_of node (page % 16)) ∷ []) []
        → TreesGood new outside [] × ChangesMap (forest_of old) (forest_of new) space (with_at (map_of (forest_of old).keys space) page (mapping_of key))
    remapped new lets =
        let after = lets.lets outside [] released_hand in
        let release = subst (λ f. Release f (at (forest_of mid).keys (place_of node (page % 16)) ∷ []) (forest_of new) []) puts.steps.forest_now after.1 in
        let call = call_changes_map (outside_trees old outside) space to (forest_of old) (forest_of mid) (forest_of new) page node key d.taken
        starts.trees.held is_space owner below fits owners made_way ends_way release in (
          record {
            shares = after.0.shares;
            held = after.0.held;
            in_hand = tt;
            short = omega arith;
            in_trees = released_in_trees (forest_of put) (forest_of new) (at (forest_of mid).keys (place_of node (page % 16)) ∷ []) [] after.1
                (subst (λ (f : Forest). AllTreeKeys f.keys) (sym puts.steps.forest_now)
                (written_in_trees (forest_of mid).keys (place_of node (page % 16)) key (fits_tree 1 key fits) d.trees.in_trees));
            single = subst (λ out. AllSingle (forest_of new) out) (sym (lets.outside_now outside ∙ puts.steps.outside_now outside))
                (λ object some. d.trees.single object (ap (λ (f : Forest). is_some (f.owner object)) (sym puts.steps.forest_now) ∙ lets.keeps.fewer object some));
          },
          call.1,
        )

    put_filled : key ≢ Null → NoneEmpty (forest_of old).keys → NoneEmpty (forest_of put).keys
    put_filled some filled =
        let last = descent_leaves_last_empty (outside_trees old outside) (key ∷ []) space to (forest_of old) (forest_of mid) (digits 4 (page / 16)) d.taken node
        starts.trees.held starts.is_space owner way (omega (arith, long)) (page_top page below) d.made d.ends filled in
        subst (λ (f : Forest). NoneEmpty f.keys) (sym puts.steps.forest_now) (write_fills (forest_of mid).keys node (page % 16) key last (omega arith) fits some)

    mid_way : OwnWay (forest_of mid) space (node_way page)
    mid_way = subst (OwnWay (forest_of mid) space) (sym (node_way-digits page)) made.own

    mid_end : OwnEnd (forest_of mid).keys space (node_way page) node
    mid_end = own_end (forest_of mid) (outside_trees mid outside) (key ∷ []) space node (node_way page) d.trees.held.sound d.trees.held.exact here_space (way_of_node page) mid_way ends_way

    put_own : OwnWay (forest_of put) space (node_way page)
    put_own = subst (λ f. OwnWay f space (node_way page)) (sym puts.steps.forest_now)
        (own_kept (forest_of mid) space node (page % 16) (node_way page) key mid_end (omega arith) (node_way page) (way_of_node page) (omega arith) mid_way)

    put_ways : (mine other : ℕ) → IsSpace (forest_of old) [] mine → OwnWay (forest_of old) mine (node_way other) → OwnWay (forest_of put) mine (node_way other)
    put_ways mine other is own =
        let four = length-node_way page in
        let four_other = length-node_way other in
        let is_mine = space_leaf (forest_of old) [] key mine fits is in
        let start : AtEnd (forest_of old) (outside_trees old outside) (key ∷ []) space to [] =
        record { held = starts.trees.held; is_space = starts.is_space; space_owner = owner; is_way = tt; own = tt } in
        subst (λ f. OwnWay f mine (node_way other)) (sym puts.steps.forest_now)
        (written_keeps_way (forest_of mid) space node (page % 16) (node_way page) key mid_end (omega arith) mine ((made.spaces mine).0 is_mine).unnamed (node_way other) (way_of_node other) (omega arith)
        (made_keeps_way (outside_trees old outside) (key ∷ []) space to d.made start way (omega (arith, long)) (page_top page below) mine is_mine (node_way other) (way_of_node other) own))

    put_none : OwnWay (forest_of old) space (node_way page) → put.machine.nodes_taken ≡ old.machine.nodes_taken
    put_none own =
        let none = (made.unchanged (subst (OwnWay (forest_of old) space) (node_way-digits page) own)).0 in
        let a = puts.steps.number in
        let b = d.number in
        omega arith

    put_ends : EndsAt (forest_of put).keys space (node_way page) (NodeObject node)
    put_ends = subst (λ (f : Forest). EndsAt f.keys space (node_way page) (NodeObject node)) (sym puts.steps.forest_now)
        (ap named (short_way (forest_of mid).keys space node (page % 16) (node_way page) key mid_end (omega arith) space mid_end.free (node_way page) (way_of_node page) (omega arith)) ∙ ends_way)

    put_but : NoneEmpty (forest_of old).keys → NoneEmptyBut (forest_of put).keys node
    put_but filled =
        let last = descent_leaves_last_empty (outside_trees old outside) (key ∷ []) space to (forest_of old) (forest_of mid) (digits 4 (page / 16)) d.taken node
        starts.trees.held starts.is_space owner way (omega (arith, long)) (page_top page below) d.made d.ends filled in
        subst (λ (f : Forest). NoneEmptyBut f.keys node) (sym puts.steps.forest_now) (leaf_written (forest_of mid).keys node (page % 16) key last (omega arith) fits)

    put_owners : (object : Object) → IsSome ((forest_of old).owner object) → (forest_of put).owner object ≡ (forest_of old).owner object
    put_owners object some = ap (λ (f : Forest). f.owner object) puts.steps.forest_now ∙ made.owners object some

    put_most : put.machine.nodes_taken ≤ old.machine.nodes_taken + 4
    put_most = let a = puts.steps.number in let b = d.number in let c = d.few in omega (arith, long)

-- a way that is made own takes no page
pub made_pages : {outside : Object → ℕ} {hand : List Key} {space : ℕ} {owner : Owner} {first last : Forest} {way : List ℕ} {taken : ℕ}
    → MadeOwn outside hand space owner first way last taken → (number : ℕ) → last.owner (PageObject number) ≡ first.owner (PageObject number)
unfolding with_object
made_pages root number = refl
made_pages (kept digit made once) number = made_pages made number
made_pages (copied digit node fresh made shared ends free within) number = made_pages made number

-- put together, for whatever is outside
pub puts_leaf : (old mid put : Kernel) (space page node : ℕ) (to : Owner) (key : Key) (fits : FitsUnder 1 key) (below : page < 2 ^ 19)
    → IsSpace (forest_of old) [] space → (forest_of old).owner (NodeObject space) ≡ Some to
    → ((object : Object) → named key ≡ Some object → (forest_of old).owner object ≡ Some to)
    → (known : Outside) → TreesGood old known (key ∷ [])
    → ((outside : Outside) → TreesGood old outside (key ∷ []) → Descends old mid outside (key ∷ []) space to (digits 4 (page / 16)) node)
    → PutsKey mid put (place_of node (page % 16)) key
    → PutsLeaf old put space page key (at (forest_of mid).keys (place_of node (page % 16)))
puts_leaf old mid put space page node to key fits below is_space owner owners known known_trees descends puts =
    let d = descends known known_trees in
    record {
      leaf = under old mid known space page node to key fits below known_trees is_space owner owners d;
      mapping = was_mapped old mid known space page node to key fits below known_trees is_space owner owners d;
      hand = λ outside trees. released_hand old mid outside space page node to key fits below trees is_space owner owners (descends outside trees) put puts;
      after = λ outside trees new lets. remapped old mid outside space page node to key fits below trees is_space owner owners (descends outside trees) put puts new lets;
      filled = put_filled old mid known space page node to key fits below known_trees is_space owner owners d put puts;
      place = place_of node (page % 16);
      stands = ap (λ (f : Forest). at f.keys (place_of node (page % 16))) puts.steps.forest_now ∙ at-with_at (forest_of mid).keys (place_of node (page % 16)) key;
      own = put_own old mid known space page node to key fits below known_trees is_space owner owners d put puts;
      ways = put_ways old mid known space page node to key fits below known_trees is_space owner owners d put puts;
      node = node;
      ends = put_ends old mid known space page node to key fits below known_trees is_space owner owners d put puts;
      but = put_but old mid known space page node to key fits below known_trees is_space owner owners d put puts;
      owners = put_owners old mid known space page node to key fits below known_trees is_space owner owners d put puts;
      outside_now = outside_is old mid known space page node to key fits below known_trees is_space owner owners d put puts;
      rows_now = λ mine apart. puts.steps.rows_now mine apart ∙ d.rows_now mine apart;
      apart_now = puts.steps.apart_now ∙ d.apart_now;
      owners_now = puts.steps.owners_now ∙ d.owners_now;
      pages_now = λ number. ap (λ (f : Forest). f.owner (PageObject number)) puts.steps.forest_now ∙ made_pages d.made number;
      rest = rest_trans old mid put d.rest puts.steps.rest;
      most = put_most old mid known space page node to key fits below known_trees is_space owner owners d put puts;
      none = put_none old mid known space page node to key fits below known_trees is_space owner owners d put puts;
    }

-- .. where the key that stood there is told in another way
pub leaf_told : (old new : Kernel) (space page : ℕ) (key was told : Key) → was ≡ told → PutsLeaf old new space page key told → PutsLeaf old new space page key was
leaf_told old new space page key was told is put = subst (λ (k : Key). PutsLeaf old new space page key k) (sym is) put

-- what a key names is of the space's tree
pub owners_told : (kernel : Kernel) (key : Key) (space : ℕ) (to : Owner) → ((object : Object) → named key ≡ Some object → (forest_of kernel).owner object ≡ (forest_of kernel).owner (NodeObject space))
    → (forest_of kernel).owner (NodeObject space) ≡ Some to → (object : Object) → named key ≡ Some object → (forest_of kernel).owner object ≡ Some to
owners_told kernel key space to owners is object h = owners object h ∙ is

-- a page that a tree has after a key was put is one that it had
pub put_inside : (old new : Kernel) (space page : ℕ) (key was : Key) → PutsLeaf old new space page key was → (outside : Outside) → KeepsInside old new outside
put_inside old new space page key was put outside = inside_same old new outside (put.outside_now outside) (λ number some. ap is_some (sym (put.pages_now number)) ∙ some)

-- nothing stood where nothing was mapped
pub was_null : (old new : Kernel) (space page : ℕ) (key was : Key) → PutsLeaf old new space page key was → map_of (forest_of old).keys space page ≡ None → was ≡ Null
was_null old new space page key was put none = leaf_null was put.leaf (put.mapping ∙ none)
