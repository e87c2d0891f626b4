-- What the bank's calls are for nodes that belong to no tree.
use Rattle.std.proofs.Common.{◌≡◌, ◌<◌, ◌≤◌, ◌+◌, ◌*◌, ◌/◌, ◌&&◌, ℕ, Option, Some, None, Bool, true, false, nat_lt, List, length, set, get_or, get_or-set_same, get_or-set_other, refl, ap, sym, subst, ◌∙◌, arith, if◌then◌else◌, ⊎_elim, replicate}
use Rattle.std.proofs.Math.Path.{fun_ext}
use Rattle.std.proofs.lemmas.Bool.{cases_Bool, cases_lt}
use Rattle.std.proofs.lemmas.List.{get_or_past}
use Rattle.kn_base.specs.declared.key.Key.{Key}
use Rattle.kn_base.specs.declared.key.Key.TheVariants.{Null}
use Rattle.kernel_tables.specs.declared.entry.PageOwner.{PageOwner}
use Rattle.kernel_tables.specs.declared.entry.NodeOwner.{NodeOwner}
use Rattle.kernel_tables.specs.declared.entry.NodeOwner.TheVariants.{Domain, Tree, FileTree}
use Rattle.kernel_tables.specs.declared.entry.Entry.{Entry}
use Rattle.kernel_tables.specs.declared.entry.Entry.TheVariants.{Free, Taken, Fixed, Unspelled}
use Rattle.kernel_tables.specs.Kernel.{Kernel, first_page}
use Rattle.kernel_tables.specs.Rows.{entry_at, key_table, rows, of_domain}
use Rattle.space_bank.specs.FreeList.{is_free}
use Rattle.space_bank.specs.Laws.{and_outside}
use Rattle.space_bank.specs.Shares.{Outside, key_names_node, node_places}
use Rattle.space_bank.proofs.EntryLaws.{set_cases}
use Rattle.space_bank.proofs.FreeListLaws.{entry_inside}
use Rattle.unix_model.specs.Tables.{at, with_at}
use Rattle.unix_model.proofs.TableLaws.{at-with_at}
use Rattle.forest.specs.Objects.{Object, PageObject, NodeObject, Owner}
use Rattle.forest.specs.Forest.{masked}
use Rattle.forest.proofs.CountLaws.{counted_one}
use Rattle.forest.proofs.ExactLaws.{bit, count_changed}
use Rattle.forest.proofs.MaskLaws.{masked_writes}
use Rattle.unix_model.proofs.TableLaws.{at-with_at-other}
use Rattle.kernel_forest.specs.Trees.{owner_of, count_of, tree_in, tree_shares, node_tree, forest_of, outside_trees, outside_by, elsewhere, is_elsewhere, is_counted, raw_names}
use Rattle.kernel_forest.proofs.Bridge.{count_places}
use Rattle.kernel_forest.proofs.Moves.{forest_same, key_table-set}
use Rattle.kernel_forest.proofs.RowLaws.{rows-own_taken, rows-written, rows-written_elsewhere}
use Rattle.kernel_forest.proofs.Outside.{more_outside}
use Rattle.kernel_forest.specs.Moves.{KeepsRest}
use Rattle.kernel_forest.specs.Laws.{TakesDomainNode, WritesRow, GivesDomainNode}
use Rattle.kernel_forest.proofs.GivingNodes.{nulls_over}
use Rattle.kn_base.specs.Rows.{overwritten}
use Rattle.std.proofs.lemmas.Bool.{ltb-true}

-- a node that is taken for a domain belongs to no tree, as before
free_none : (entry : Entry NodeOwner) → is_free entry ≡ true → tree_in node_tree entry ≡ None
free_none (Free next) free = refl
free_none (Taken owner count) free = cc
free_none Fixed free = refl
free_none Unspelled free = refl

free_zero : (entry : Entry NodeOwner) → is_free entry ≡ true → tree_shares node_tree entry ≡ 0
free_zero (Free next) free = refl
free_zero (Taken owner count) free = cc
free_zero Fixed free = refl
free_zero Unspelled free = refl

owner_same : (first : ℕ) (pages : List (Entry PageOwner)) (nodes : List (Entry NodeOwner)) (n : ℕ) → n < length nodes → is_free (entry_at nodes n) ≡ true
    → (object : Object) → owner_of first pages (set nodes n (Taken Domain 1)) object ≡ owner_of first pages nodes object
unfolding owner_of
owner_same first pages nodes n inside free (PageObject page) = refl
owner_same first pages nodes n inside free (NodeObject node) =
    set_cases (λ e. tree_in node_tree e ≡ tree_in node_tree (entry_at nodes node)) nodes n node (Taken Domain 1) inside
    (λ same. sym (ap (λ k. tree_in node_tree (entry_at nodes k)) (sym same) ∙ free_none (entry_at nodes n) free))
    (λ other. refl)

count_same_now : (first : ℕ) (pages : List (Entry PageOwner)) (nodes : List (Entry NodeOwner)) (n : ℕ) → n < length nodes → is_free (entry_at nodes n) ≡ true
    → (object : Object) → count_of first pages (set nodes n (Taken Domain 1)) object ≡ count_of first pages nodes object
unfolding count_of
count_same_now first pages nodes n inside free (PageObject page) = refl
count_same_now first pages nodes n inside free (NodeObject node) =
    set_cases (λ e. tree_shares node_tree e ≡ tree_shares node_tree (entry_at nodes node)) nodes n node (Taken Domain 1) inside
    (λ same. sym (ap (λ k. tree_shares node_tree (entry_at nodes k)) (sym same) ∙ free_zero (entry_at nodes n) free))
    (λ other. refl)

past_null : (keys : List (Option Key)) (place : ℕ) → length keys ≤ place → key_table keys place ≡ Null
unfolding key_table
past_null keys place past = rw (get_or_past keys place None past) refl

row_unnamed : (n : ℕ) (b : Bool) (key : Key) → (b ≡ true → key_names_node n key ≡ true → ⊥) → key_names_node n (if b then key else Null) ≡ false
row_unnamed n true key named = ⊎_elim
    (λ (t : key_names_node n key ≡ true). absurd (named refl t))
    (λ (t : key_names_node n key ≡ false). t)
    (cases_Bool (key_names_node n key))
row_unnamed n false key named = refl

-- what no place names, no row names
nobody_in : (kernel : Kernel) (n : ℕ) → node_places kernel.keys n ≡ 0 → (mine : Entry NodeOwner → Bool) (a i : ℕ) → key_names_node n (rows mine kernel.node_entries kernel.keys a i) ≡ false
unfolding rows node_places
nobody_in kernel n none mine a i = row_unnamed n (mine (entry_at kernel.node_entries a) && nat_lt i 16) (key_table kernel.keys (16 * a + i)) (λ b h.
    let places = count_places (key_names_node n) kernel.keys refl in
    ⊎_elim
    (λ (t : 16 * a + i < length kernel.keys).
    let one = counted_one (λ p. key_names_node n (key_table kernel.keys p)) (length kernel.keys) (16 * a + i) t h in
    omega arith)
    (λ (t : length kernel.keys ≤ 16 * a + i).
    let no : false ≡ true = ap (key_names_node n) (sym (past_null kernel.keys (16 * a + i) t)) ∙ h in cc)
    (cases_lt (16 * a + i) (length kernel.keys)))

null_spelled : (keys : List (Option Key)) (place : ℕ) → get_or keys place None ≡ Some Null → key_table keys place ≡ Null
unfolding key_table
null_spelled keys place e = rw e refl

pub takes_row : TakesDomainNode
takes_row old new node good takes puts =
    let high = takes.high in
    let inside : node < length old.node_entries = entry_inside old.node_entries node (good.nodes.entries_good.spelled node high) in
    let keys : new.keys ≡ old.keys = ap (λ (k : Kernel). k.keys) takes.state in
    record {
      high = takes.low;
      within = high;
      forest_now = ap forest_of takes.state
          ∙ forest_same old.nodes (key_table old.keys) (forest_of old).owner (owner_of (first_page old.size) old.page_entries (set old.node_entries node (Taken Domain 1)))
          (forest_of old).count (count_of (first_page old.size) old.page_entries (set old.node_entries node (Taken Domain 1)))
          (fun_ext (owner_same (first_page old.size) old.page_entries old.node_entries node inside takes.was_free))
          (fun_ext (count_same_now (first_page old.size) old.page_entries old.node_entries node inside takes.was_free));
      outside_now = λ outside. ap (λ k. outside_trees k outside) takes.state
          ∙ ap (λ owner. outside_by old.nodes (key_table old.keys) (masked owner (key_table old.keys)) outside)
          (fun_ext (owner_same (first_page old.size) old.page_entries old.node_entries node inside takes.was_free));
      rows_now = λ mine apart. rows-own_taken mine apart old new node Domain inside takes;
      entry = ap (λ (k : Kernel). entry_at k.node_entries node) takes.state ∙ get_or-set_same old.node_entries node (Taken Domain 1) Unspelled inside;
      others = λ other apart. ap (λ (k : Kernel). entry_at k.node_entries other) takes.state ∙ get_or-set_other old.node_entries node other (Taken Domain 1) Unspelled apart;
      nulls = λ place low. null_spelled new.keys (16 * node + place) (takes.nulls place low);
      unnamed = λ outside hand counted mine a i. nobody_in new node
          (ap (λ keys. node_places keys node) keys ∙ (puts.unnamed outside hand counted).no_place) mine a i;
      shares = λ outside hand key names_it counted. puts.counted outside hand key names_it counted;
      pages_now = ap (λ (k : Kernel). k.page_entries) takes.state;
      rest = subst (λ (k : Kernel). KeepsRest old k) (sym takes.state) refl;
      number = ap (λ (k : Kernel). k.machine.nodes_taken) takes.state;
    }

-- a key is written in a node that belongs to no tree
masked_none : (owner : Object → Option Owner) (keys : ℕ → Key) (place : ℕ) → owner (NodeObject (place / 16)) ≡ None → at (masked owner keys) place ≡ Null
unfolding masked at
masked_none owner keys place none = rw none refl

and_true : (b : Bool) → (b && true) ≡ b
and_true true = refl
and_true false = refl

elsewhere-put : (nodes : ℕ) (keys trees : ℕ → Key) (place : ℕ) (key : Key) (object : Object) → place < 16 * nodes → at trees place ≡ Null
    → elsewhere nodes (with_at keys place key) trees object + bit (raw_names object (at keys place)) ≡ elsewhere nodes keys trees object + bit (raw_names object key)
unfolding elsewhere
elsewhere-put nodes keys trees place key object inside null =
    let changed = count_changed (λ p. is_elsewhere object (at (with_at keys place key) p) (at trees p)) (λ p. is_elsewhere object (at keys p) (at trees p)) (16 * nodes) place inside
    (λ q apart. ap (λ k. is_elsewhere object k (at trees q)) (at-with_at-other keys place q key apart)) in
    let was : bit (is_elsewhere object (at keys place) (at trees place)) ≡ bit (raw_names object (at keys place)) =
    ap (λ t. bit (is_elsewhere object (at keys place) t)) null ∙ ap bit (and_true (raw_names object (at keys place))) in
    let now : bit (is_elsewhere object (at (with_at keys place key) place) (at trees place)) ≡ bit (raw_names object key) =
    ap (λ t. bit (is_elsewhere object (at (with_at keys place key) place) t)) null ∙ ap (λ k. bit (raw_names object k && true)) (at-with_at keys place key) ∙ ap bit (and_true (raw_names object key)) in
    omega arith

pub outside-put : (nodes : ℕ) (keys trees : ℕ → Key) (place : ℕ) (key : Key) (outside : Outside) → place < 16 * nodes → at trees place ≡ Null
    → outside_by nodes (with_at keys place key) trees (and_outside outside (at keys place)) ≡ outside_by nodes keys trees (and_outside outside key)
unfolding outside_by
outside-put nodes keys trees place key outside inside null = fun_ext (λ object. ⊎_elim
    (λ (t : is_counted object ≡ true).
    let put = elsewhere-put nodes keys trees place key object inside null in
    let one = more_outside outside (at keys place) object in
    let two = more_outside outside key object in
    rw t (omega arith))
    (λ (t : is_counted object ≡ false). rw t refl)
    (cases_Bool (is_counted object)))

at_key : (f : ℕ → Key) (n : ℕ) → at f n ≡ f n
unfolding at
at_key f n = refl

pub puts_row : WritesRow
puts_row old new node place key good under none low e exchanges =
    let inside : 16 * node + place < length old.keys = omega (arith, good.nodes.all_keys) in
    let within : 16 * node + place < 16 * old.nodes = omega arith in
    let here : (16 * node + place) / 16 ≡ node = omega arith in
    let unowned : (forest_of old).owner (NodeObject ((16 * node + place) / 16)) ≡ None = rw here none in
    let table = key_table-set old.keys (16 * node + place) key inside in
    let trees : masked (forest_of old).owner (key_table (set old.keys (16 * node + place) (Some key))) ≡ (forest_of old).keys =
    ap (masked (forest_of old).owner) table ∙ (masked_writes (forest_of old).owner (key_table old.keys) (16 * node + place) key).0 unowned in
    record {
      state = e;
      forest_now = ap forest_of e ∙ rw trees refl;
      outside_now = λ outside.
          ap (λ k. outside_trees k (and_outside outside (key_table old.keys (16 * node + place)))) e
          ∙ ap (λ t. outside_by old.nodes (key_table (set old.keys (16 * node + place) (Some key))) t (and_outside outside (key_table old.keys (16 * node + place)))) trees
          ∙ ap (λ t. outside_by old.nodes t (forest_of old).keys (and_outside outside (key_table old.keys (16 * node + place)))) table
          ∙ ap (λ was. outside_by old.nodes (with_at (key_table old.keys) (16 * node + place) key) (forest_of old).keys (and_outside outside was)) (sym (at_key (key_table old.keys) (16 * node + place)))
          ∙ outside-put old.nodes (key_table old.keys) (forest_of old).keys (16 * node + place) key outside within (masked_none (forest_of old).owner (key_table old.keys) (16 * node + place) unowned);
      rows_now = λ mine own. ap (λ (k : Kernel). rows mine k.node_entries k.keys) e ∙ rows-written mine old node place key low inside own;
      others_now = λ mine none_of. ap (λ (k : Kernel). rows mine k.node_entries k.keys) e ∙ rows-written_elsewhere mine old node place key low none_of;
      shares = exchanges;
    }

-- a node of a domain with Null keys is given back
domain_zero : (entry : Entry NodeOwner) → of_domain entry ≡ true → tree_shares node_tree entry ≡ 0
domain_zero (Free next) mine = refl
domain_zero (Taken Domain count) mine = refl
domain_zero (Taken Tree count) mine = cc
domain_zero (Taken FileTree count) mine = cc
domain_zero Fixed mine = refl
domain_zero Unspelled mine = refl

domain_none : (entry : Entry NodeOwner) → of_domain entry ≡ true → tree_in node_tree entry ≡ None
domain_none (Free next) mine = refl
domain_none (Taken Domain count) mine = refl
domain_none (Taken Tree count) mine = cc
domain_none (Taken FileTree count) mine = cc
domain_none Fixed mine = refl
domain_none Unspelled mine = refl

owner_given : (first : ℕ) (pages : List (Entry PageOwner)) (nodes : List (Entry NodeOwner)) (n next : ℕ) → n < length nodes → of_domain (entry_at nodes n) ≡ true
    → (object : Object) → owner_of first pages (set nodes n (Free next)) object ≡ owner_of first pages nodes object
unfolding owner_of
owner_given first pages nodes n next inside mine (PageObject page) = refl
owner_given first pages nodes n next inside mine (NodeObject node) =
    set_cases (λ e. tree_in node_tree e ≡ tree_in node_tree (entry_at nodes node)) nodes n node (Free next) inside
    (λ same. sym (ap (λ k. tree_in node_tree (entry_at nodes k)) (sym same) ∙ domain_none (entry_at nodes n) mine))
    (λ other. refl)

count_given : (first : ℕ) (pages : List (Entry PageOwner)) (nodes : List (Entry NodeOwner)) (n next : ℕ) → n < length nodes → of_domain (entry_at nodes n) ≡ true
    → (object : Object) → count_of first pages (set nodes n (Free next)) object ≡ count_of first pages nodes object
unfolding count_of
count_given first pages nodes n next inside mine (PageObject page) = refl
count_given first pages nodes n next inside mine (NodeObject node) =
    set_cases (λ e. tree_shares node_tree e ≡ tree_shares node_tree (entry_at nodes node)) nodes n node (Free next) inside
    (λ same. sym (ap (λ k. tree_shares node_tree (entry_at nodes k)) (sym same) ∙ domain_zero (entry_at nodes n) mine))
    (λ other. refl)

shown_null : (a b low : Bool) (key : Key) → (low ≡ true → key ≡ Null) → (if a && low then key else Null) ≡ (if b && low then key else Null)
shown_null true true low key h = refl
shown_null true false true key h = h refl
shown_null true false false key h = refl
shown_null false true true key h = sym (h refl)
shown_null false true false key h = refl
shown_null false false low key h = refl

rows-given : (mine : Entry NodeOwner → Bool) (entries : List (Entry NodeOwner)) (keys : List (Option Key)) (n next : ℕ) → n < length entries
    → ((place : ℕ) → place < 16 → key_table keys (16 * n + place) ≡ Null) → rows mine (set entries n (Free next)) keys ≡ rows mine entries keys
unfolding rows
rows-given mine entries keys n next inside nulls = fun_ext (λ node. fun_ext (λ place.
    set_cases (λ e. (if mine e && nat_lt place 16 then key_table keys (16 * node + place) else Null) ≡ (if mine (entry_at entries node) && nat_lt place 16 then key_table keys (16 * node + place) else Null))
    entries n node (Free next) inside
    (λ same. shown_null (mine (Free next)) (mine (entry_at entries node)) (nat_lt place 16) (key_table keys (16 * node + place))
    (λ low. ap (λ m. key_table keys (16 * m + place)) (sym same) ∙ nulls place (ltb-true place 16 low)))
    (λ other. refl)))

rows-table : (own : Entry NodeOwner → Bool) (entries : List (Entry NodeOwner)) (keys new_keys : List (Option Key)) → key_table new_keys ≡ key_table keys → rows own entries new_keys ≡ rows own entries keys
unfolding rows
rows-table own entries keys new_keys same = ap (λ (t : ℕ → Key). λ n p. if own (entry_at entries n) && nat_lt p 16 then t (16 * n + p) else Null) same

pub gives_row : GivesDomainNode
gives_row old new node good under mine nulls e =
    let inside : node < length old.node_entries = entry_inside old.node_entries node (good.nodes.entries_good.spelled node under) in
    let within : 16 * node + 16 ≤ length old.keys = omega (arith, good.nodes.all_keys) in
    let table : key_table (overwritten old.keys (16 * node) (replicate 16 (Some Null))) ≡ key_table old.keys = fun_ext (nulls_over old.keys node within nulls) in
    let owners = fun_ext (owner_given (first_page old.size) old.page_entries old.node_entries node old.machine.free_node inside mine) in
    let trees : masked (owner_of (first_page old.size) old.page_entries (set old.node_entries node (Free old.machine.free_node))) (key_table (overwritten old.keys (16 * node) (replicate 16 (Some Null)))) ≡ (forest_of old).keys =
    ap (masked (owner_of (first_page old.size) old.page_entries (set old.node_entries node (Free old.machine.free_node)))) table ∙ ap (λ o. masked o (key_table old.keys)) owners in
    record {
      forest_now = ap forest_of e ∙ rw (trees, owners, fun_ext (count_given (first_page old.size) old.page_entries old.node_entries node old.machine.free_node inside mine)) refl;
      outside_now = λ outside. ap (λ k. outside_trees k outside) e
          ∙ ap (λ t. outside_by old.nodes (key_table (overwritten old.keys (16 * node) (replicate 16 (Some Null)))) t outside) trees
          ∙ ap (λ t. outside_by old.nodes t (forest_of old).keys outside) table;
      rows_now = λ mine_too apart. ap (λ (k : Kernel). rows mine_too k.node_entries k.keys) e
          ∙ rows-table mine_too (set old.node_entries node (Free old.machine.free_node)) old.keys (overwritten old.keys (16 * node) (replicate 16 (Some Null))) table
          ∙ rows-given mine_too old.node_entries old.keys node old.machine.free_node inside nulls;
      rest = subst (λ (k : Kernel). KeepsRest old k) (sym e) refl;
    }
