-- A node in hand is counted less often, or given back where it is empty.
use Rattle.std.proofs.Common.{◌≡◌, ◌≢◌, ◌<◌, ◌≤◌, ◌+◌, ◌-◌, ◌*◌, ◌/◌, ◌==◌, ℕ, Option, Some, None, List, [], ◌∷◌, length, set, get_or, replicate, refl, ap, sym, subst, ◌∙◌, arith, if◌then◌else◌, ⊎_elim}
use Rattle.std.specs.Option.{IsSome}
use Rattle.std.proofs.Math.Path.{fun_ext}
use Rattle.std.proofs.lemmas.Bool.{cases_lt, eq-eqb, ne_eqb}
use Rattle.std.proofs.lemmas.List.{get_or-replicate, length-replicate}
use Rattle.kn_base.specs.declared.key.Key.{Key}
use Rattle.kn_base.specs.declared.key.Key.TheVariants.{Null, Segment}
use Rattle.kn_base.specs.declared.key.NodeId.{NodeId}
use Rattle.kn_base.specs.Rows.{overwritten}
use Rattle.kn_base.proofs.RowLaws.{get_or-overwritten_in, get_or-overwritten_below, get_or-overwritten_above}
use Rattle.kernel_tables.specs.declared.entry.PageOwner.{PageOwner}
use Rattle.kernel_tables.specs.declared.entry.NodeOwner.{NodeOwner}
use Rattle.kernel_tables.specs.declared.entry.Entry.{Entry}
use Rattle.kernel_tables.specs.declared.entry.Entry.TheVariants.{Free}
use Rattle.kernel_tables.specs.Kernel.{Kernel, first_page, bank_page}
use Rattle.kernel_tables.specs.Rows.{entry_at, key_table, spelled_or_null, KeepsRows}
use Rattle.space_bank.specs.Bank.{BankGood, IsTakenOnce, node_given}
use Rattle.space_bank.specs.Shares.{TakesNodeOutOfHand, NamesNothing, node_places}
use Rattle.space_bank.specs.Fixed.{key_in}
use Rattle.space_bank.proofs.EntryLaws.{set_cases}
use Rattle.space_bank.proofs.HandLaws.{node-in_hand_unnamed}
use Rattle.space_bank.proofs.ChangeLaws.{taken_high}
use Rattle.unix_model.specs.Tables.{at}
use Rattle.forest.specs.Objects.{Object, PageObject, NodeObject, with_object}
use Rattle.forest.specs.Walks.{place_of}
use Rattle.forest.specs.Forest.{masked}
use Rattle.forest.specs.Changes.{with_given, with_count}
use Rattle.forest.specs.Release.{shared as shared_step, empty_node as empty_step}
use Rattle.forest.proofs.MaskLaws.{masked_owners}
use Rattle.forest.proofs.ReleaseLaws.{front_owned}
use Rattle.kernel_forest.specs.Trees.{owner_of, count_of, forest_of, tree_in, tree_shares, node_tree, outside_by, outside_trees}
use Rattle.kernel_forest.specs.Moves.{LowersKey}
use Rattle.kernel_forest.specs.Releases.{Lets, InHand}
use Rattle.kernel_forest.proofs.RowLaws.{rows_same, tree_apart}
use Rattle.kernel_forest.proofs.Moves.{node_below, node_taken, node_in_entries, node_shares, tree_place, owner_entry}
use Rattle.kernel_forest.specs.Moves.{KeepsRest, LowersKey}
use Rattle.kernel_forest.specs.Laws.{GivesNode}
use Rattle.kernel_forest.specs.Apart.{apart_of}
use Rattle.kernel_forest.specs.Owners.{page_owners}
use Rattle.kernel_forest.proofs.ApartLaws.{apart-node_given}
use Rattle.kernel_forest.proofs.Owners.{keeps-leaves}
use Rattle.kernel_forest.specs.Releases.{KeepsUnreleased}
use Rattle.kernel_forest.proofs.Giving.{lets_step, once_by, keeps_bytes, given_fewer}

-- what other calls of the bank leave, a release leaves too
pub unreleased : (old new : Kernel) → KeepsRest old new → KeepsUnreleased old new
unreleased old new rest = subst (λ (k : Kernel). KeepsUnreleased old k) (sym rest) refl

pub same_bytes : (old new : Kernel) → KeepsRest old new → (page : ℕ) → bank_page new page ≡ bank_page old page
same_bytes old new rest page = ap (λ (k : Kernel). bank_page k page) rest

-- what a key in hand names
pub hand_owned : (kernel : Kernel) (node : NodeId) (height : ℕ) → InHand kernel (Segment node height ∷ []) → IsSome ((forest_of kernel).owner (NodeObject node.0))
hand_owned kernel node height h = front_owned (forest_of kernel) (outside_trees kernel h.0) (Segment node height) h.1 h.2.held.counts (NodeObject node.0) refl

pub hand_alive : (kernel : Kernel) (node : NodeId) (height : ℕ) → InHand kernel (Segment node height ∷ []) → 1 ≤ (forest_of kernel).count (NodeObject node.0)
hand_alive kernel node height h = h.2.held.alive (NodeObject node.0) (hand_owned kernel node height h)

-- the node is lowered
pub lets_node_lowered : (old new : Kernel) (node : NodeId) (height : ℕ) → InHand old (Segment node height ∷ []) → (forest_of old).count (NodeObject node.0) ≢ 1
    → LowersKey old new (Segment node height) → Lets old new (Segment node height ∷ []) []
lets_node_lowered old new node height h many lowers =
    let alive = hand_alive old node height h in
    lets_step old new (Segment node height) (with_count (forest_of old) (NodeObject node.0) ((forest_of old).count (NodeObject node.0) - 1))
    lowers.steps.forest_now lowers.steps.outside_now lowers.steps.rows_now lowers.steps.apart_now (keeps-leaves old new lowers.steps.owners_now) (unreleased old new lowers.steps.rest)
    (keeps_bytes old new (with_count (forest_of old) (NodeObject node.0) ((forest_of old).count (NodeObject node.0) - 1)) lowers.steps.forest_now (λ object some. some) (same_bytes old new lowers.steps.rest))
    lowers.shares
    (λ outside hand r. shared_step (Segment node height) (NodeObject node.0) refl (omega arith))

-- the node is given back
given_owner : (first : ℕ) (pages : List (Entry PageOwner)) (nodes : List (Entry NodeOwner)) (n next : ℕ) → n < length nodes
    → (object : Object) → owner_of first pages (set nodes n (Free next)) object ≡ with_object (owner_of first pages nodes) (NodeObject n) None object
unfolding owner_of with_object
given_owner first pages nodes n next inside (PageObject number) = refl
given_owner first pages nodes n next inside (NodeObject node) =
    set_cases (λ e. tree_in node_tree e ≡ (if node == n then None else tree_in node_tree (entry_at nodes node))) nodes n node (Free next) inside
    (λ same. rw (eq-eqb node n (sym same)) refl)
    (λ other. rw (ne_eqb node n (λ e. other (sym e))) refl)

given_count : (first : ℕ) (pages : List (Entry PageOwner)) (nodes : List (Entry NodeOwner)) (n next : ℕ) → n < length nodes
    → (object : Object) → count_of first pages (set nodes n (Free next)) object ≡ with_object (count_of first pages nodes) (NodeObject n) 0 object
unfolding count_of with_object
given_count first pages nodes n next inside (PageObject number) = refl
given_count first pages nodes n next inside (NodeObject node) =
    set_cases (λ e. tree_shares node_tree e ≡ (if node == n then 0 else tree_shares node_tree (entry_at nodes node))) nodes n node (Free next) inside
    (λ same. rw (eq-eqb node n (sym same)) refl)
    (λ other. rw (ne_eqb node n (λ e. other (sym e))) refl)

pub nulls_over : (keys : List (Option Key)) (n : ℕ) → 16 * n + 16 ≤ length keys → ((d : ℕ) → d < 16 → key_table keys (16 * n + d) ≡ Null)
    → (p : ℕ) → key_table (overwritten keys (16 * n) (replicate 16 (Some Null))) p ≡ key_table keys p
unfolding key_table
nulls_over keys n within nulls p =
    let sixteen : length (replicate 16 (Some Null)) ≡ 16 = length-replicate 16 (Some Null) in
    let fits : 16 * n + length (replicate 16 (Some Null)) ≤ length keys = omega arith in
    ⊎_elim
    (λ (t : p < 16 * n). ap spelled_or_null (get_or-overwritten_below keys (16 * n) (replicate 16 (Some Null)) p None fits t))
    (λ (t : 16 * n ≤ p). ⊎_elim
    (λ (u : p < 16 * n + 16).
    let whole : 16 * n + (p - 16 * n) ≡ p = omega arith in
    ap spelled_or_null (get_or-overwritten_in keys (16 * n) (replicate 16 (Some Null)) p None fits t (omega arith) ∙ get_or-replicate 16 (p - 16 * n) (Some Null) None (omega arith))
    ∙ sym (rw whole at (nulls (p - 16 * n) (omega arith))))
    (λ (u : 16 * n + 16 ≤ p). ap spelled_or_null (get_or-overwritten_above keys (16 * n) (replicate 16 (Some Null)) p None fits (omega arith)))
    (cases_lt p (16 * n + 16)))
    (cases_lt p (16 * n))

null_nothing : (there : Option Key) → spelled_or_null there ≡ Null → NamesNothing there
null_nothing None e = tt
null_nothing (Some Null) e = tt
null_nothing (Some key) e = subst (λ k. NamesNothing (Some k)) (sym e) tt

spelled_is : (keys : List (Option Key)) (place : ℕ) → key_table keys place ≡ Null → spelled_or_null (get_or keys place None) ≡ Null
unfolding key_table
spelled_is keys place e = e

null_there : (keys : List (Option Key)) (n : ℕ) → ((d : ℕ) → d < 16 → key_table keys (16 * n + d) ≡ Null) → (place : ℕ) → NodeObject (place / 16) ≡ NodeObject n → at (key_table keys) place ≡ Null
unfolding at
null_there keys n nulls place same =
    let is : place / 16 ≡ n = cc in
    let split : 16 * n + (place - 16 * n) ≡ place = omega arith in
    rw split at (nulls (place - 16 * n) (omega arith))

module _ (old new : Kernel) (node : NodeId) (height : ℕ) (good : BankGood old) (h : InHand old (Segment node height ∷ []))
    (nulls : (d : ℕ) → d < 16 → at (forest_of old).keys (place_of node.0 d) ≡ Null) (once : (forest_of old).count (NodeObject node.0) ≡ 1) where
  owned : IsSome ((forest_of old).owner (NodeObject node.0))
  owned = hand_owned old node height h

  pub give_within : node.0 < old.nodes
  give_within = node_below old node.0 good owned

  pub give_once : IsTakenOnce (entry_at old.node_entries node.0)
  give_once = once_by (entry_at old.node_entries node.0) (node_taken old node.0 owned) (sym (node_shares old node.0 owned) ∙ once)

  pub give_unnamed : node_places old.keys node.0 ≡ 0
  give_unnamed = node-in_hand_unnamed old h.0 h.1 (Segment node height) node.0 (taken_high old node.0 (node_taken old node.0 owned) good) give_within give_once (eq-eqb node.0 node.0 refl) h.2.shares

  table_null : (d : ℕ) → d < 16 → key_table old.keys (16 * node.0 + d) ≡ Null
  table_null d less = sym (tree_place old node.0 d owned less) ∙ nulls d less

  inside : node.0 < length old.node_entries
  inside = node_in_entries old node.0 owned

  fits_keys : 16 * node.0 + 16 ≤ length old.keys
  fits_keys = let within = give_within in omega (arith, good.nodes.all_keys)

  table_same : key_table (overwritten old.keys (16 * node.0) (replicate 16 (Some Null))) ≡ key_table old.keys
  table_same = fun_ext (nulls_over old.keys node.0 fits_keys table_null)

  owners : owner_of (first_page old.size) old.page_entries (set old.node_entries node.0 (Free old.machine.free_node)) ≡ with_object (forest_of old).owner (NodeObject node.0) None
  owners = fun_ext (given_owner (first_page old.size) old.page_entries old.node_entries node.0 old.machine.free_node inside)

  masked_same : masked (owner_of (first_page old.size) old.page_entries (set old.node_entries node.0 (Free old.machine.free_node))) (key_table (overwritten old.keys (16 * node.0) (replicate 16 (Some Null)))) ≡ (forest_of old).keys
  masked_same =
      ap (λ t. masked (owner_of (first_page old.size) old.page_entries (set old.node_entries node.0 (Free old.machine.free_node))) t) table_same
      ∙ ap (λ o. masked o (key_table old.keys)) owners
      ∙ masked_owners (forest_of old).owner (key_table old.keys) (NodeObject node.0) None (null_there old.keys node.0 table_null)

  pub given_forest : new ≡ node_given old node.0 → forest_of new ≡ with_given (forest_of old) (NodeObject node.0)
  given_forest e = ap forest_of e ∙ rw (masked_same, owners, fun_ext (given_count (first_page old.size) old.page_entries old.node_entries node.0 old.machine.free_node inside)) refl

  pub lets_node_given : new ≡ node_given old node.0 → TakesNodeOutOfHand old new node.0 → Lets old new (Segment node height ∷ []) []
  lets_node_given e takes =
      lets_step old new (Segment node height) (with_given (forest_of old) (NodeObject node.0))
      (given_forest e)
      (λ outside. ap (λ k. outside_trees k outside) e
      ∙ ap (λ trees. outside_by old.nodes (key_table (overwritten old.keys (16 * node.0) (replicate 16 (Some Null)))) trees outside) masked_same
      ∙ ap (λ t. outside_by old.nodes t (forest_of old).keys outside) table_same)
      (subst (λ (k : Kernel). KeepsRows old k) (sym e) (λ mine apart.
      rows_same mine old.node_entries (set old.node_entries node.0 (Free old.machine.free_node)) old.keys (overwritten old.keys (16 * node.0) (replicate 16 (Some Null)))
      (λ m. set_cases (λ x. mine x ≡ mine (entry_at old.node_entries m)) old.node_entries node.0 m (Free old.machine.free_node) inside
      (λ same. apart.free old.machine.free_node ∙ sym (ap (λ k. mine (entry_at old.node_entries k)) (sym same) ∙ tree_apart mine apart (entry_at old.node_entries node.0) (rw (← owner_entry old node.0) owned)))
      (λ other. refl))
      (λ m place own low. ap (λ (t : ℕ → Key). t (16 * m + place)) table_same)))
      (ap apart_of e ∙ apart-node_given old node.0 inside (rw (← owner_entry old node.0) owned))
      (keeps-leaves old new (ap page_owners e))
      (subst (λ (k : Kernel). KeepsUnreleased old k) (sym e) refl)
      (keeps_bytes old new (with_given (forest_of old) (NodeObject node.0)) (given_forest e) (λ object some. given_fewer (forest_of old).owner (NodeObject node.0) object some) (λ page. ap (λ (k : Kernel). bank_page k page) e))
      (λ outside hand counted. takes.nothing outside hand (Segment node height) (eq-eqb node.0 node.0 refl) (nothing_at old) counted)
      (λ outside hand r. empty_step (Segment node height) node.0 refl once nulls)
    where
      nothing_at : (k : Kernel) → (place : ℕ) → place < 16 → NamesNothing (key_in old.keys node.0 place)
      nothing_at k place less = null_nothing (key_in old.keys node.0 place) (spelled_is old.keys (16 * node.0 + place) (table_null place less))

pub gives_node : GivesNode
gives_node old new node height good h nulls once e takes = lets_node_given old new node height good h nulls once e takes
