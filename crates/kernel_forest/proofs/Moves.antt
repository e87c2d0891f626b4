-- What the bank's changes are for the forest in its tables.
use Rattle.std.proofs.Common.{◌≡◌, ◌≢◌, ◌<◌, ◌≤◌, ◌+◌, ◌-◌, ◌*◌, ◌/◌, ◌==◌, ◌&&◌, not, ℕ, Bool, true, false, nat_lt, Option, Some, None, List, ◌∷◌, length, set, refl, ap, sym, subst, ◌∙◌, arith, if◌then◌else◌, ⊎_elim, ◌↔◌, ◌^◌, add-zero, get_or, get_or-set_same, get_or-set_other}
use Rattle.std.specs.Option.{is_some, IsSome}
use Rattle.std.proofs.Math.Path.{fun_ext}
use Rattle.std.proofs.lemmas.Bool.{cases_Bool, cases_eq, cases_lt, eq-eqb, lt-ltb, le-ltb, ne_eqb}
use Rattle.kn_base.specs.declared.key.Key.{Key}
use Rattle.kn_base.specs.declared.key.Key.TheVariants.{Null, Number, Page, Node, Segment, Start, Resume, Domain, Meter, Service}
use Rattle.kn_base.specs.declared.key.NodeId.{NodeId}
use Rattle.kn_base.specs.declared.key.PageId.{PageId}
use Rattle.kernel_tables.specs.declared.entry.PageOwner.{PageOwner}
use Rattle.kernel_tables.specs.declared.entry.NodeOwner.{NodeOwner}
use Rattle.kernel_tables.specs.declared.entry.Entry.{Entry}
use Rattle.kernel_tables.specs.declared.entry.Entry.TheVariants.{Free, Taken, Fixed, Unspelled}
use Rattle.kernel_tables.specs.Kernel.{Kernel, first_page, IsBankPage}
use Rattle.kernel_tables.specs.Rows.{entry_at, key_table, KeepsRows}
use Rattle.space_bank.specs.FreeList.{shares, is_free}
use Rattle.space_bank.specs.Bank.{BankGood, TakesNode}
use Rattle.space_bank.specs.Shares.{Outside, Shares, Unnamed, PutsNodeInHand, NamesNothing, key_names_node, node_places, node_in_hand}
use Rattle.space_bank.proofs.HandLaws.{nothing-in_hand}
use Rattle.space_bank.proofs.FreeListLaws.{entry_inside}
use Rattle.space_bank.specs.Changes.{IsTaken, with_count as entry_with_count, page_counted, node_counted, key_written, PutsPageKeyInHand, PutsNodeKeyInHand, TakesPageKeyOutOfHand, TakesNodeKeyOutOfHand, ExchangesKeys}
use Rattle.space_bank.proofs.EntryLaws.{set_cases}
use Rattle.unix_model.specs.Tables.{at, with_at}
use Rattle.unix_model.proofs.TableLaws.{at-with_at, at-with_at-other}
use Rattle.forest.specs.Objects.{Object, PageObject, NodeObject, Owner, named, names, with_object}
use Rattle.forest.specs.Walks.{place_of}
use Rattle.forest.specs.Forest.{Forest, masked}
use Rattle.forest.specs.Changes.{with_count, with_key, with_taken, raised, counted_more, counted_less, IsFree}
use Rattle.forest.proofs.ExactLaws.{count_same}
use Rattle.forest.proofs.MaskLaws.{masked_writes, masked_owners}
use Rattle.kernel_forest.specs.Trees.{owner_of, count_of, tree_shares, forest_of, tree_in, page_tree, node_tree, is_counted, is_elsewhere, elsewhere, outside_by, outside_trees, IsTreeKey, AreTreeKeys}
use Rattle.kernel_forest.proofs.Bridge.{counts_alike, count_places, places_split, hand_alike, tree_below, tree_taken, page_inside, PageInside, shares_tree}
use Rattle.kernel_forest.specs.Apart.{apart_of, KeepsApart}
use Rattle.kernel_forest.specs.Owners.{page_owners, KeepsOwners}
use Rattle.kernel_forest.proofs.ApartLaws.{apart-node_counted, apart-page_counted, apart-node_taken}
use Rattle.kernel_forest.proofs.Owners.{owners-page_counted}
use Rattle.kernel_forest.proofs.RowLaws.{rows-node_counted, rows-node_taken, rows-tree_written}
use Rattle.kernel_forest.specs.Moves.{KeepsRest, RaisesKey, PutsKey, TakesFresh, LowersKey, MayRaise}

counted_owner : {O : Type 0} (tree : O → Option Owner) (entry : Entry O) (count : ℕ) → tree_in tree (entry_with_count entry count) ≡ tree_in tree entry
counted_owner tree (Free next) count = refl
counted_owner tree (Taken owner old) count = refl
counted_owner tree Fixed count = refl
counted_owner tree Unspelled count = refl

counted_shares : {O : Type 0} (tree : O → Option Owner) (entry : Entry O) (count : ℕ) → IsSome (tree_in tree entry) → tree_shares tree (entry_with_count entry count) ≡ count
counted_shares tree (Free next) count h = cc
counted_shares tree (Taken owner old) count h = rw h refl
counted_shares tree Fixed count h = cc
counted_shares tree Unspelled count h = cc

-- a node is counted
node_owner : (first : ℕ) (pages : List (Entry PageOwner)) (nodes : List (Entry NodeOwner)) (n count : ℕ) → n < length nodes
    → (object : Object) → owner_of first pages (set nodes n (entry_with_count (entry_at nodes n) count)) object ≡ owner_of first pages nodes object
unfolding owner_of
node_owner first pages nodes n count inside (PageObject page) = refl
node_owner first pages nodes n count inside (NodeObject node) =
    set_cases (λ e. tree_in node_tree e ≡ tree_in node_tree (entry_at nodes node)) nodes n node (entry_with_count (entry_at nodes n) count) inside
    (λ same. counted_owner node_tree (entry_at nodes n) count ∙ ap (λ k. tree_in node_tree (entry_at nodes k)) same)
    (λ other. refl)

node_count : (first : ℕ) (pages : List (Entry PageOwner)) (nodes : List (Entry NodeOwner)) (n count : ℕ) → n < length nodes → IsSome (tree_in node_tree (entry_at nodes n))
    → (object : Object) → count_of first pages (set nodes n (entry_with_count (entry_at nodes n) count)) object ≡ with_object (count_of first pages nodes) (NodeObject n) count object
unfolding count_of with_object
node_count first pages nodes n count inside taken (PageObject page) = refl
node_count first pages nodes n count inside taken (NodeObject node) =
    set_cases (λ e. tree_shares node_tree e ≡ (if node == n then count else tree_shares node_tree (entry_at nodes node))) nodes n node (entry_with_count (entry_at nodes n) count) inside
    (λ same. rw (eq-eqb node n (sym same)) (counted_shares node_tree (entry_at nodes n) count taken))
    (λ other. rw (ne_eqb node n (λ e. other (sym e))) refl)

-- a forest whose owners and counts are others
pub forest_same : (nodes : ℕ) (keys : ℕ → Key) (owner new_owner : Object → Option Owner) (count new_count : Object → ℕ) → new_owner ≡ owner → new_count ≡ count
    → (let f : Forest = record { nodes = nodes; keys = masked new_owner keys; owner = new_owner; count = new_count } in f)
    ≡ record { nodes = nodes; keys = masked owner keys; owner = owner; count = count }
forest_same nodes keys owner new_owner count new_count o c = rw (o, c) refl

pub forest-node_counted : (kernel : Kernel) (n count : ℕ) → n < length kernel.node_entries → IsSome (tree_in node_tree (entry_at kernel.node_entries n))
    → forest_of (node_counted kernel n count) ≡ with_count (forest_of kernel) (NodeObject n) count
forest-node_counted kernel n count inside taken =
    forest_same kernel.nodes (key_table kernel.keys) (forest_of kernel).owner (forest_of (node_counted kernel n count)).owner
    (with_object (forest_of kernel).count (NodeObject n) count) (forest_of (node_counted kernel n count)).count
    (fun_ext (node_owner (first_page kernel.size) kernel.page_entries kernel.node_entries n count inside))
    (fun_ext (node_count (first_page kernel.size) kernel.page_entries kernel.node_entries n count inside taken))

pub outside-node_counted : (kernel : Kernel) (n count : ℕ) (outside : Outside) → n < length kernel.node_entries
    → outside_trees (node_counted kernel n count) outside ≡ outside_trees kernel outside
outside-node_counted kernel n count outside inside =
    ap (λ owner. outside_by kernel.nodes (key_table kernel.keys) (masked owner (key_table kernel.keys)) outside)
    (fun_ext (node_owner (first_page kernel.size) kernel.page_entries kernel.node_entries n count inside))

-- a page is counted
page_owner : (first : ℕ) (pages : List (Entry PageOwner)) (nodes : List (Entry NodeOwner)) (n count : ℕ) → n < length pages
    → (object : Object) → owner_of first (set pages n (entry_with_count (entry_at pages n) count)) nodes object ≡ owner_of first pages nodes object
unfolding owner_of
page_owner first pages nodes n count inside (NodeObject node) = refl
page_owner first pages nodes n count inside (PageObject page) =
    set_cases (λ e. (if nat_lt page first then None else tree_in page_tree e) ≡ (if nat_lt page first then None else tree_in page_tree (entry_at pages (page - first)))) pages n (page - first) (entry_with_count (entry_at pages n) count) inside
    (λ same. ap (λ o. if nat_lt page first then None else o) (counted_owner page_tree (entry_at pages n) count ∙ ap (λ k. tree_in page_tree (entry_at pages k)) same))
    (λ other. refl)

page_count : (first : ℕ) (pages : List (Entry PageOwner)) (nodes : List (Entry NodeOwner)) (n count : ℕ) → n < length pages → IsSome (tree_in page_tree (entry_at pages n))
    → (object : Object) → count_of first (set pages n (entry_with_count (entry_at pages n) count)) nodes object ≡ with_object (count_of first pages nodes) (PageObject (first + n)) count object
unfolding count_of with_object
page_count first pages nodes n count inside taken (NodeObject node) = refl
page_count first pages nodes n count inside taken (PageObject page) = ⊎_elim
    (λ (t : page < first). rw (lt-ltb page first t, ne_eqb page (first + n) (λ e. absurd (omega arith))) refl)
    (λ (t : first ≤ page).
    rw (le-ltb page first t)
    (set_cases (λ e. tree_shares page_tree e ≡ (if page == first + n then count else tree_shares page_tree (entry_at pages (page - first)))) pages n (page - first) (entry_with_count (entry_at pages n) count) inside
    (λ same. let is : page ≡ first + n = omega arith in rw (eq-eqb page (first + n) is) (counted_shares page_tree (entry_at pages n) count taken))
    (λ other. rw (ne_eqb page (first + n) (λ e. other (omega arith))) refl)))
    (cases_lt page first)

pub forest-page_counted : (kernel : Kernel) (n count : ℕ) → n < length kernel.page_entries → IsSome (tree_in page_tree (entry_at kernel.page_entries n))
    → forest_of (page_counted kernel n count) ≡ with_count (forest_of kernel) (PageObject (first_page kernel.size + n)) count
forest-page_counted kernel n count inside taken =
    forest_same kernel.nodes (key_table kernel.keys) (forest_of kernel).owner (forest_of (page_counted kernel n count)).owner
    (with_object (forest_of kernel).count (PageObject (first_page kernel.size + n)) count) (forest_of (page_counted kernel n count)).count
    (fun_ext (page_owner (first_page kernel.size) kernel.page_entries kernel.node_entries n count inside))
    (fun_ext (page_count (first_page kernel.size) kernel.page_entries kernel.node_entries n count inside taken))

pub outside-page_counted : (kernel : Kernel) (n count : ℕ) (outside : Outside) → n < length kernel.page_entries
    → outside_trees (page_counted kernel n count) outside ≡ outside_trees kernel outside
outside-page_counted kernel n count outside inside =
    ap (λ owner. outside_by kernel.nodes (key_table kernel.keys) (masked owner (key_table kernel.keys)) outside)
    (fun_ext (page_owner (first_page kernel.size) kernel.page_entries kernel.node_entries n count inside))

-- a node is taken for a tree
taken_owner : (first : ℕ) (pages : List (Entry PageOwner)) (nodes : List (Entry NodeOwner)) (n : ℕ) (owner : NodeOwner) → n < length nodes
    → (object : Object) → owner_of first pages (set nodes n (Taken owner 1)) object ≡ with_object (owner_of first pages nodes) (NodeObject n) (node_tree owner) object
unfolding owner_of with_object
taken_owner first pages nodes n owner inside (PageObject page) = refl
taken_owner first pages nodes n owner inside (NodeObject node) =
    set_cases (λ e. tree_in node_tree e ≡ (if node == n then node_tree owner else tree_in node_tree (entry_at nodes node))) nodes n node (Taken owner 1) inside
    (λ same. rw (eq-eqb node n (sym same)) refl)
    (λ other. rw (ne_eqb node n (λ e. other (sym e))) refl)

taken_once : (first : ℕ) (pages : List (Entry PageOwner)) (nodes : List (Entry NodeOwner)) (n : ℕ) (owner : NodeOwner) → n < length nodes → IsSome (node_tree owner)
    → (object : Object) → count_of first pages (set nodes n (Taken owner 1)) object ≡ with_object (count_of first pages nodes) (NodeObject n) 1 object
unfolding count_of with_object
taken_once first pages nodes n owner inside tree (PageObject page) = refl
taken_once first pages nodes n owner inside tree (NodeObject node) =
    set_cases (λ e. tree_shares node_tree e ≡ (if node == n then 1 else tree_shares node_tree (entry_at nodes node))) nodes n node (Taken owner 1) inside
    (λ same. rw (eq-eqb node n (sym same), tree) refl)
    (λ other. rw (ne_eqb node n (λ e. other (sym e))) refl)

-- the node that is taken has Null keys
fresh_null : (keys : List (Option Key)) (n : ℕ) → ((place : ℕ) → place < 16 → get_or keys (16 * n + place) None ≡ Some Null)
    → (place : ℕ) → NodeObject (place / 16) ≡ NodeObject n → at (key_table keys) place ≡ Null
unfolding at key_table
fresh_null keys n nulls place same =
    let is : place / 16 ≡ n = cc in
    let k : ℕ = place - 16 * n in
    let split : 16 * n + (place - 16 * n) ≡ place = omega arith in
    let null : get_or keys place None ≡ Some Null = rw split at (nulls (place - 16 * n) (omega arith)) in
    rw null refl

module _ (old new : Kernel) (n : ℕ) (owner : NodeOwner) (to : Owner) (inside : n < length old.node_entries) (takes : TakesNode old new n owner) (tree : node_tree owner ≡ Some to) where
  now_owner : owner_of (first_page old.size) old.page_entries (set old.node_entries n (Taken owner 1)) ≡ with_object (forest_of old).owner (NodeObject n) (Some to)
  now_owner = fun_ext (taken_owner (first_page old.size) old.page_entries old.node_entries n owner inside) ∙ ap (with_object (forest_of old).owner (NodeObject n)) tree

  was_null : (place : ℕ) → place < 16 → get_or old.keys (16 * n + place) None ≡ Some Null
  was_null place low = ap (λ (k : Kernel). get_or k.keys (16 * n + place) None) (sym takes.state) ∙ takes.nulls place low

  now_masked : masked (owner_of (first_page old.size) old.page_entries (set old.node_entries n (Taken owner 1))) (key_table old.keys) ≡ (forest_of old).keys
  now_masked =
      ap (λ o. masked o (key_table old.keys)) now_owner
      ∙ masked_owners (forest_of old).owner (key_table old.keys) (NodeObject n) (Some to) (fresh_null old.keys n was_null)

  pub forest-node_taken : forest_of new ≡ with_taken (forest_of old) (NodeObject n) to
  forest-node_taken =
      ap forest_of takes.state
      ∙ rw (now_masked, now_owner, fun_ext (taken_once (first_page old.size) old.page_entries old.node_entries n owner inside (ap is_some tree))) refl

  pub outside-node_taken : (outside : Outside) → outside_trees new outside ≡ outside_trees old outside
  outside-node_taken outside =
      ap (λ k. outside_trees k outside) takes.state
      ∙ ap (λ trees. outside_by old.nodes (key_table old.keys) trees outside) now_masked

-- a key is written in a node of a tree
pub key_table-set : (keys : List (Option Key)) (place : ℕ) (key : Key) → place < length keys → key_table (set keys place (Some key)) ≡ with_at (key_table keys) place key
unfolding key_table with_at
key_table-set keys place key inside = fun_ext (λ p. ⊎_elim
    (λ (t : p ≡ place). rw (t, get_or-set_same keys place (Some key) None inside, eq-eqb place place refl) refl)
    (λ (t : p ≢ place). rw (get_or-set_other keys place p (Some key) None t, ne_eqb p place t) refl)
    (cases_eq p place))

and_not : (b : Bool) → (b && not b) ≡ false
and_not true = refl
and_not false = refl

tree_nowhere : (object : Object) (key : Key) → is_counted object ≡ true → IsTreeKey key → is_elsewhere object key key ≡ false
tree_nowhere object key counted tree = rw (counts_alike object key counted tree) (and_not (names object key))

elsewhere-written : (nodes : ℕ) (keys trees : ℕ → Key) (place : ℕ) (key : Key) → at trees place ≡ at keys place → IsTreeKey key → IsTreeKey (at keys place)
    → (object : Object) → is_counted object ≡ true → elsewhere nodes (with_at keys place key) (with_at trees place key) object ≡ elsewhere nodes keys trees object
unfolding elsewhere
elsewhere-written nodes keys trees place key same now was object counted =
    count_same (λ p. is_elsewhere object (at (with_at keys place key) p) (at (with_at trees place key) p)) (λ p. is_elsewhere object (at keys p) (at trees p)) (16 * nodes)
    (λ p below. ⊎_elim
    (λ (t : p ≡ place).
    rw (t, at-with_at keys place key, at-with_at trees place key, same, tree_nowhere object key counted now)
    (sym (tree_nowhere object (at keys place) counted was)))
    (λ (t : p ≢ place). rw (at-with_at-other keys place p key t, at-with_at-other trees place p key t) refl)
    (cases_eq p place))

outside-written : (nodes : ℕ) (keys trees : ℕ → Key) (place : ℕ) (key : Key) (outside : Outside) → at trees place ≡ at keys place → IsTreeKey key → IsTreeKey (at keys place)
    → outside_by nodes (with_at keys place key) (with_at trees place key) outside ≡ outside_by nodes keys trees outside
unfolding outside_by
outside-written nodes keys trees place key outside same now was = fun_ext (λ object. ⊎_elim
    (λ (t : is_counted object ≡ true). rw (t, elsewhere-written nodes keys trees place key same now was object t) refl)
    (λ (t : is_counted object ≡ false). rw t refl)
    (cases_Bool (is_counted object)))

masked_here : (owner : Object → Option Owner) (keys : ℕ → Key) (place : ℕ) → IsSome (owner (NodeObject (place / 16))) → at (masked owner keys) place ≡ at keys place
unfolding masked at
masked_here owner keys place some = rw some refl

module _ (kernel : Kernel) (node place : ℕ) (key : Key) (inside : 16 * node + place < length kernel.keys) (below : place < 16)
    (owned : IsSome ((forest_of kernel).owner (NodeObject node))) where
  its_node : (16 * node + place) / 16 ≡ node
  its_node = omega arith

  owned_place : IsSome ((forest_of kernel).owner (NodeObject ((16 * node + place) / 16)))
  owned_place = rw its_node owned

  pub written-masked : masked (forest_of kernel).owner (key_table (set kernel.keys (16 * node + place) (Some key))) ≡ with_at (forest_of kernel).keys (16 * node + place) key
  written-masked =
      ap (masked (forest_of kernel).owner) (key_table-set kernel.keys (16 * node + place) key inside)
      ∙ (masked_writes (forest_of kernel).owner (key_table kernel.keys) (16 * node + place) key).1 owned_place

  pub forest-key_written : forest_of (key_written kernel node place key) ≡ with_key (forest_of kernel) (16 * node + place) key
  forest-key_written = rw written-masked refl

  pub outside-key_written : (outside : Outside) → IsTreeKey key → IsTreeKey (at (forest_of kernel).keys (16 * node + place))
      → outside_trees (key_written kernel node place key) outside ≡ outside_trees kernel outside
  outside-key_written outside now was =
      let here = masked_here (forest_of kernel).owner (key_table kernel.keys) (16 * node + place) owned_place in
      ap (λ keys. outside_by kernel.nodes keys (forest_of (key_written kernel node place key)).keys outside) (key_table-set kernel.keys (16 * node + place) key inside)
      ∙ ap (λ trees. outside_by kernel.nodes (with_at (key_table kernel.keys) (16 * node + place) key) trees outside) written-masked
      ∙ outside-written kernel.nodes (key_table kernel.keys) (forest_of kernel).keys (16 * node + place) key outside here now (subst IsTreeKey here was)

pub owner_entry : (kernel : Kernel) (node : ℕ) → (forest_of kernel).owner (NodeObject node) ≡ tree_in node_tree (entry_at kernel.node_entries node)
unfolding owner_of
owner_entry kernel node = refl

-- a node of a tree, and what stands in it
pub node_below : (kernel : Kernel) (node : ℕ) → BankGood kernel → IsSome ((forest_of kernel).owner (NodeObject node)) → node < kernel.nodes
unfolding owner_of
node_below kernel node good owned =
    tree_below node_tree kernel.node_entries 0 kernel.nodes kernel.machine.free_node kernel.machine.nodes_taken node good.nodes.entries_good owned

pub node_taken : (kernel : Kernel) (node : ℕ) → IsSome ((forest_of kernel).owner (NodeObject node)) → IsTaken (entry_at kernel.node_entries node)
unfolding owner_of
node_taken kernel node owned = tree_taken node_tree (entry_at kernel.node_entries node) owned

pub node_used : (kernel : Kernel) (node : ℕ) → IsSome ((forest_of kernel).owner (NodeObject node)) → is_free (entry_at kernel.node_entries node) ≡ false
node_used kernel node owned = used (entry_at kernel.node_entries node) (node_taken kernel node owned)
  where
    used : (entry : Entry NodeOwner) → IsTaken entry → is_free entry ≡ false
    used (Free next) h = absurd h
    used (Taken owner count) h = refl
    used Fixed h = absurd h
    used Unspelled h = absurd h

pub node_in_entries : (kernel : Kernel) (node : ℕ) → IsSome ((forest_of kernel).owner (NodeObject node)) → node < length kernel.node_entries
unfolding owner_of
node_in_entries kernel node owned = entry_inside kernel.node_entries node (λ e. let no : IsSome (tree_in node_tree Unspelled) = rw e at owned in cc)

pub tree_place : (kernel : Kernel) (node digit : ℕ) → IsSome ((forest_of kernel).owner (NodeObject node)) → digit < 16
    → at (forest_of kernel).keys (place_of node digit) ≡ key_table kernel.keys (16 * node + digit)
unfolding at
tree_place kernel node digit owned below =
    let is : (16 * node + digit) / 16 ≡ node = omega arith in
    masked_here (forest_of kernel).owner (key_table kernel.keys) (16 * node + digit) (rw is owned)

rest_of : (old new other : Kernel) → new ≡ other → KeepsRest old other → KeepsRest old new
rest_of old new other e rest = subst (λ (k : Kernel). KeepsRest old k) (sym e) rest

rows_of : (old new other : Kernel) → new ≡ other → KeepsRows old other → KeepsRows old new
rows_of old new other e rows = subst (λ (k : Kernel). KeepsRows old k) (sym e) rows

-- a key is put at a place
pub puts_key : (old new : Kernel) (node digit : ℕ) (key : Key) → BankGood old → IsSome ((forest_of old).owner (NodeObject node)) → digit < 16
    → IsTreeKey key → IsTreeKey (at (forest_of old).keys (place_of node digit)) → new ≡ key_written old node digit key → ExchangesKeys old new node digit key
    → PutsKey old new (place_of node digit) key
puts_key old new node digit key good owned below now was e exchanges =
    let under = node_below old node good owned in
    let inside : 16 * node + digit < length old.keys = omega (arith, good.nodes.all_keys, under, below) in
    record {
      steps = record {
        forest_now = ap forest_of e ∙ forest-key_written old node digit key inside below owned;
        outside_now = λ outside. ap (λ k. outside_trees k outside) e ∙ outside-key_written old node digit key inside below owned outside now was;
        rows_now = rows_of old new (key_written old node digit key) e (rows-tree_written old node digit key below (rw (← owner_entry old node) owned));
        apart_now = ap apart_of e;
        owners_now = ap page_owners e;
        rest = rest_of old new (key_written old node digit key) e refl;
        number = ap (λ (k : Kernel). k.machine.nodes_taken) e ∙ sym (add-zero old.machine.nodes_taken);
      };
      shares = λ outside hand counted.
          subst (λ was. Shares new outside (was ∷ hand)) (sym (tree_place old node digit owned below)) (exchanges outside hand counted);
    }

-- a key that names nothing that is counted is in hand, or isn't
names_nothing : (key : Key) → named key ≡ None → IsTreeKey key → NamesNothing (Some key)
names_nothing Null none tree = tt
names_nothing (Number body) none tree = tt
names_nothing (Page page writable) none tree = ⊎_elim
    (λ (t : page.0 ≡ 0). t)
    (λ (t : page.0 ≢ 0). let some : Some (PageObject page.0) ≡ None = rw (ne_eqb page.0 0 t) at none in cc)
    (cases_eq page.0 0)
names_nothing (Node node) none tree = tree
names_nothing (Segment node height) none tree = let no : Some (NodeObject node.0) ≡ None = none in cc
names_nothing (Start root byte) none tree = tree
names_nothing (Resume root count) none tree = tree
names_nothing (Domain root) none tree = tree
names_nothing (Meter slot) none tree = tt
names_nothing (Service code) none tree = tt

pub uncounted_in_hand : (kernel : Kernel) (outside : Outside) (hand : List Key) (key : Key) → named key ≡ None → IsTreeKey key
    → Shares kernel outside hand ↔ Shares kernel outside (key ∷ hand)
uncounted_in_hand kernel outside hand key none tree =
    let same = nothing-in_hand kernel outside hand key (names_nothing key none tree) in
    (same.1, same.0)

pub node_shares : (kernel : Kernel) (node : ℕ) → IsSome ((forest_of kernel).owner (NodeObject node)) → (forest_of kernel).count (NodeObject node) ≡ shares (entry_at kernel.node_entries node)
unfolding count_of owner_of
node_shares kernel node owned = shares_tree node_tree (entry_at kernel.node_entries node) owned

pub page_shares : (kernel : Kernel) (page : ℕ) → PageInside kernel page → (forest_of kernel).count (PageObject page) ≡ shares (entry_at kernel.page_entries (page - first_page kernel.size))
unfolding count_of
page_shares kernel page inside = rw (le-ltb page (first_page kernel.size) inside.low) (shares_tree page_tree (entry_at kernel.page_entries (page - first_page kernel.size)) inside.some)

-- a key is raised
raises : (old new : Kernel) (key : Key) (forest : Forest) → raised (forest_of old) key ≡ forest → forest_of new ≡ forest
    → ((outside : Outside) → outside_trees new outside ≡ outside_trees old outside) → KeepsRows old new → KeepsApart old new → KeepsOwners old new → KeepsRest old new → new.machine.nodes_taken ≡ old.machine.nodes_taken
    → ((outside : Outside) (hand : List Key) → Shares old outside hand → Shares new outside (key ∷ hand)) → RaisesKey old new key
raises old new key forest is now outside rows apart owners rest number shares = record {
  steps = record { forest_now = now ∙ sym is; outside_now = outside; rows_now = rows; apart_now = apart; owners_now = owners; rest = rest; number = number ∙ sym (add-zero old.machine.nodes_taken) };
  shares = shares;
}

pub raises_node : (old new : Kernel) (node : NodeId) (height : ℕ) → IsSome ((forest_of old).owner (NodeObject node.0))
    → new ≡ node_counted old node.0 (shares (entry_at old.node_entries node.0) + 1) → PutsNodeKeyInHand old new node.0 → RaisesKey old new (Segment node height)
unfolding count_of
raises_node old new node height owned e puts =
    let inside = node_in_entries old node.0 owned in
    let count = shares (entry_at old.node_entries node.0) + 1 in
    raises old new (Segment node height) (with_count (forest_of old) (NodeObject node.0) (shares (entry_at old.node_entries node.0) + 1))
    (ap (λ n. with_count (forest_of old) (NodeObject node.0) (n + 1)) (node_shares old node.0 owned))
    (ap forest_of e ∙ forest-node_counted old node.0 (shares (entry_at old.node_entries node.0) + 1) inside (rw (← owner_entry old node.0) owned))
    (λ outside. ap (λ k. outside_trees k outside) e ∙ outside-node_counted old node.0 (shares (entry_at old.node_entries node.0) + 1) outside inside)
    (rows_of old new (node_counted old node.0 (shares (entry_at old.node_entries node.0) + 1)) e (rows-node_counted old node.0 (shares (entry_at old.node_entries node.0) + 1) inside))
    (ap apart_of e ∙ apart-node_counted old node.0 (shares (entry_at old.node_entries node.0) + 1) inside (rw (← owner_entry old node.0) owned))
    (ap page_owners e)
    (rest_of old new (node_counted old node.0 (shares (entry_at old.node_entries node.0) + 1)) e refl)
    (ap (λ (k : Kernel). k.machine.nodes_taken) e)
    (λ outside hand counted. puts outside hand (Segment node height) (eq-eqb node.0 node.0 refl) counted)

pub raises_page : (old new : Kernel) (page : PageId) (writable : Bool) → BankGood old → page.0 ≢ 0 → IsSome ((forest_of old).owner (PageObject page.0))
    → new ≡ page_counted old (page.0 - first_page old.size) (shares (entry_at old.page_entries (page.0 - first_page old.size)) + 1) → PutsPageKeyInHand old new page.0
    → RaisesKey old new (Page page writable)
unfolding count_of
raises_page old new page writable good real owned e puts =
    let here = page_inside old page.0 good owned in
    let n = page.0 - first_page old.size in
    let low = here.low in
    let number : first_page old.size + (page.0 - first_page old.size) ≡ page.0 = omega arith in
    let taken = tree_taken page_tree (entry_at old.page_entries (page.0 - first_page old.size)) here.some in
    let inside = entry_inside old.page_entries (page.0 - first_page old.size) (λ s. let no : IsTaken {O = PageOwner} Unspelled = rw s at taken in absurd no) in
    let count = shares (entry_at old.page_entries (page.0 - first_page old.size)) + 1 in
    raises old new (Page page writable) (with_count (forest_of old) (PageObject page.0) (shares (entry_at old.page_entries (page.0 - first_page old.size)) + 1))
    (ap (counted_more (forest_of old)) (let is : named (Page page writable) ≡ Some (PageObject page.0) = rw (ne_eqb page.0 0 real) refl in is)
    ∙ ap (λ n. with_count (forest_of old) (PageObject page.0) (n + 1)) (page_shares old page.0 here))
    (ap forest_of e ∙ rw number at (forest-page_counted old (page.0 - first_page old.size) (shares (entry_at old.page_entries (page.0 - first_page old.size)) + 1) inside here.some))
    (λ outside. ap (λ k. outside_trees k outside) e ∙ outside-page_counted old (page.0 - first_page old.size) (shares (entry_at old.page_entries (page.0 - first_page old.size)) + 1) outside inside)
    (rows_of old new (page_counted old (page.0 - first_page old.size) (shares (entry_at old.page_entries (page.0 - first_page old.size)) + 1)) e (λ mine apart. refl))
    (ap apart_of e ∙ apart-page_counted old (page.0 - first_page old.size) (shares (entry_at old.page_entries (page.0 - first_page old.size)) + 1) inside here.some)
    (ap page_owners e ∙ owners-page_counted old (page.0 - first_page old.size) (shares (entry_at old.page_entries (page.0 - first_page old.size)) + 1) inside)
    (rest_of old new (page_counted old (page.0 - first_page old.size) (shares (entry_at old.page_entries (page.0 - first_page old.size)) + 1)) e refl)
    (ap (λ (k : Kernel). k.machine.nodes_taken) e)
    (λ outside hand counted. puts outside hand (Page page writable) (eq-eqb page.0 page.0 refl) counted)

pub raises_nothing : (old : Kernel) (key : Key) → named key ≡ None → IsTreeKey key → RaisesKey old old key
raises_nothing old key none tree =
    raises old old key (forest_of old) (ap (counted_more (forest_of old)) none) refl (λ outside. refl) (λ mine apart. refl) refl refl refl refl
    (λ outside hand counted. (uncounted_in_hand old outside hand key none tree).0 counted)

-- what a key that is raised asks of the bank
pub may_raise_page : (kernel : Kernel) (key : Key) (page : PageId) (writable : Bool) → MayRaise (forest_of kernel) key → key ≡ Page page writable → page.0 ≢ 0
    → IsSome ((forest_of kernel).owner (PageObject page.0)) × ((forest_of kernel).count (PageObject page.0) + 1 < 2 ^ 32)
may_raise_page kernel key page writable may e real = may (PageObject page.0) (ap named e ∙ rw (ne_eqb page.0 0 real) refl)

pub may_raise_node : (kernel : Kernel) (key : Key) (node : NodeId) (height : ℕ) → MayRaise (forest_of kernel) key → key ≡ Segment node height
    → IsSome ((forest_of kernel).owner (NodeObject node.0)) × ((forest_of kernel).count (NodeObject node.0) + 1 < 2 ^ 32)
may_raise_node kernel key node height may e = may (NodeObject node.0) (ap named e)

pub bank_page : (kernel : Kernel) (page : ℕ) → PageInside kernel page → IsBankPage kernel.size page
bank_page kernel page inside = let low = inside.low in let below = inside.below in record { low = low; high = omega arith }

pub unnamed_zero : (key : Key) (page : PageId) (writable : Bool) → key ≡ Page page writable → page.0 ≡ 0 → named key ≡ None
unnamed_zero key page writable e zero_page = ap named e ∙ rw zero_page refl

pub neither : (key : Key) → ((page : PageId) (writable : Bool) → key ≡ Page page writable → ⊥) → ((node : NodeId) (height : ℕ) → key ≡ Segment node height → ⊥) → named key ≡ None
neither (Page page writable) no_page no_node = absurd (no_page page writable refl)
neither (Segment node height) no_page no_node = absurd (no_node node height refl)
neither _ no_page no_node = refl

free_unowned : (entry : Entry NodeOwner) → is_free entry ≡ true → tree_in node_tree entry ≡ None
free_unowned (Free next) free = refl
free_unowned (Taken owner count) free = let no : false ≡ true = free in cc
free_unowned Fixed free = refl
free_unowned Unspelled free = refl

fresh_unowned : (kernel : Kernel) (node : ℕ) → is_free (entry_at kernel.node_entries node) ≡ true → (forest_of kernel).owner (NodeObject node) ≡ None
unfolding owner_of
fresh_unowned kernel node free = free_unowned (entry_at kernel.node_entries node) free

fresh_free : (kernel : Kernel) (node : ℕ) (outside : Outside) (hand : List Key) → BankGood kernel → 15 ≤ node → is_free (entry_at kernel.node_entries node) ≡ true
    → Unnamed (node_places kernel.keys node) (outside.nodes node) (node_in_hand hand node) → AreTreeKeys hand
    → IsFree (forest_of kernel) (outside_trees kernel outside) hand (NodeObject node)
unfolding outside_by node_places node_in_hand
fresh_free kernel node outside hand good high free unnamed trees =
    let real : nat_lt node 15 ≡ false = le-ltb node 15 high in
    let yes : is_counted (NodeObject node) ≡ true = ap not real in
    let places = count_places (key_names_node node) kernel.keys refl in
    let split = rw (← good.nodes.all_keys) at (places_split kernel (NodeObject node)) in
    let held = hand_alike (NodeObject node) hand yes trees in
    let a = unnamed.no_place in
    let b = unnamed.none_outside in
    let c = unnamed.none_in_hand in
    record {
      unowned = fresh_unowned kernel node free;
      none_outside = rw real (omega arith);
      none_in_hand = omega arith;
    }

pub takes_fresh : (old new : Kernel) (node : NodeId) (owner : NodeOwner) (to : Owner) → BankGood old → node_tree owner ≡ Some to
    → TakesNode old new node.0 owner → PutsNodeInHand old new node.0 → TakesFresh old new node.0 to
takes_fresh old new node owner to good tree takes puts =
    let low = takes.low in
    let high = takes.high in
    let inside : node.0 < length old.node_entries = entry_inside old.node_entries node.0 (good.nodes.entries_good.spelled node.0 high) in
    record {
      steps = record {
        forest_now = forest-node_taken old new node.0 owner to inside takes tree;
        outside_now = outside-node_taken old new node.0 owner to inside takes tree;
        rows_now = rows-node_taken old new node.0 owner inside (ap is_some tree) takes;
        apart_now = apart-node_taken old new node.0 owner inside (ap is_some tree) takes;
        owners_now = ap page_owners takes.state;
        rest = rest_of old new (record old {
          machine = record old.machine { free_node = new.machine.free_node; nodes_taken = old.machine.nodes_taken + 1 };
          node_entries = set old.node_entries node.0 (Taken owner 1);
        }) takes.state refl;
        number = ap (λ (k : Kernel). k.machine.nodes_taken) takes.state;
      };
      high = low;
      within = high;
      unowned = fresh_unowned old node.0 takes.was_free;
      free = λ outside hand trees counted. fresh_free old node.0 outside hand good low takes.was_free (puts.unnamed outside hand counted) trees;
      shares = λ outside hand height counted. puts.counted outside hand (Segment node height) (eq-eqb node.0 node.0 refl) counted;
    }

-- a node in hand is lowered
pub lowers_node : (old new : Kernel) (node : NodeId) (height : ℕ) → IsSome ((forest_of old).owner (NodeObject node.0))
    → new ≡ node_counted old node.0 (shares (entry_at old.node_entries node.0) - 1) → TakesNodeKeyOutOfHand old new node.0 → LowersKey old new (Segment node height)
unfolding count_of
lowers_node old new node height owned e takes =
    let inside = node_in_entries old node.0 owned in
    record {
      steps = record {
        forest_now = ap forest_of e ∙ forest-node_counted old node.0 (shares (entry_at old.node_entries node.0) - 1) inside (rw (← owner_entry old node.0) owned)
            ∙ ap (λ n. with_count (forest_of old) (NodeObject node.0) (n - 1)) (sym (node_shares old node.0 owned));
        outside_now = λ outside. ap (λ k. outside_trees k outside) e ∙ outside-node_counted old node.0 (shares (entry_at old.node_entries node.0) - 1) outside inside;
        rows_now = rows_of old new (node_counted old node.0 (shares (entry_at old.node_entries node.0) - 1)) e (rows-node_counted old node.0 (shares (entry_at old.node_entries node.0) - 1) inside);
        apart_now = ap apart_of e ∙ apart-node_counted old node.0 (shares (entry_at old.node_entries node.0) - 1) inside (rw (← owner_entry old node.0) owned);
        owners_now = ap page_owners e;
        rest = rest_of old new (node_counted old node.0 (shares (entry_at old.node_entries node.0) - 1)) e refl;
        number = ap (λ (k : Kernel). k.machine.nodes_taken) e ∙ sym (add-zero old.machine.nodes_taken);
      };
      shares = λ outside hand counted. takes outside hand (Segment node height) (eq-eqb node.0 node.0 refl) counted;
    }

-- .. and a page
pub lowers_page_key : (old new : Kernel) (page : PageId) (writable : Bool) → BankGood old → page.0 ≢ 0 → IsSome ((forest_of old).owner (PageObject page.0))
    → new ≡ page_counted old (page.0 - first_page old.size) (shares (entry_at old.page_entries (page.0 - first_page old.size)) - 1) → TakesPageKeyOutOfHand old new page.0
    → LowersKey old new (Page page writable)
unfolding count_of
lowers_page_key old new page writable good real owned e takes =
    let here = page_inside old page.0 good owned in
    let low = here.low in
    let number : first_page old.size + (page.0 - first_page old.size) ≡ page.0 = omega arith in
    let taken = tree_taken page_tree (entry_at old.page_entries (page.0 - first_page old.size)) here.some in
    let inside = entry_inside old.page_entries (page.0 - first_page old.size) (λ s. let no : IsTaken {O = PageOwner} Unspelled = rw s at taken in absurd no) in
    record {
      steps = record {
        forest_now = ap forest_of e ∙ rw number at (forest-page_counted old (page.0 - first_page old.size) (shares (entry_at old.page_entries (page.0 - first_page old.size)) - 1) inside here.some)
            ∙ ap (λ n. with_count (forest_of old) (PageObject page.0) (n - 1)) (sym (page_shares old page.0 here))
            ∙ sym (ap (counted_less (forest_of old)) (let is : named (Page page writable) ≡ Some (PageObject page.0) = rw (ne_eqb page.0 0 real) refl in is));
        outside_now = λ outside. ap (λ k. outside_trees k outside) e ∙ outside-page_counted old (page.0 - first_page old.size) (shares (entry_at old.page_entries (page.0 - first_page old.size)) - 1) outside inside;
        rows_now = rows_of old new (page_counted old (page.0 - first_page old.size) (shares (entry_at old.page_entries (page.0 - first_page old.size)) - 1)) e (λ mine apart. refl);
        apart_now = ap apart_of e ∙ apart-page_counted old (page.0 - first_page old.size) (shares (entry_at old.page_entries (page.0 - first_page old.size)) - 1) inside here.some;
        owners_now = ap page_owners e ∙ owners-page_counted old (page.0 - first_page old.size) (shares (entry_at old.page_entries (page.0 - first_page old.size)) - 1) inside;
        rest = rest_of old new (page_counted old (page.0 - first_page old.size) (shares (entry_at old.page_entries (page.0 - first_page old.size)) - 1)) e refl;
        number = ap (λ (k : Kernel). k.machine.nodes_taken) e ∙ sym (add-zero old.machine.nodes_taken);
      };
      shares = λ outside hand counted. takes outside hand (Page page writable) (eq-eqb page.0 page.0 refl) counted;
    }

pub never_taken : (entry : Entry NodeOwner) → ((owner : NodeOwner) (count : ℕ) → entry ≡ Taken owner count → ⊥) → IsTaken entry → ⊥
never_taken (Free next) none h = h
never_taken (Taken owner count) none h = none owner count refl
never_taken Fixed none h = h
never_taken Unspelled none h = h
