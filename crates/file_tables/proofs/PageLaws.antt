-- What a page that belongs to no tree is for the forest: as good as nothing.
use Rattle.std.proofs.Common.{◌≡◌, ◌≢◌, ℕ, ◌+◌, ◌-◌, ◌<◌, ◌≤◌, None, List, length, set, refl, ap, sym, subst, ◌∙◌, ⊎_elim, arith, if◌then◌else◌, true, false, cond}
use Rattle.std.specs.Option.{IsSome, is_some}
use Rattle.std.proofs.Math.Path.{fun_ext}
use Rattle.std.proofs.lemmas.Bool.{cases_lt, eq-eqb, lt-ltb, le-ltb, ne_eqb}
use Rattle.kn_base.specs.declared.key.Key.{Key}
use Rattle.kernel_tables.specs.declared.entry.PageOwner.{PageOwner}
use Rattle.kernel_tables.specs.declared.entry.NodeOwner.{NodeOwner}
use Rattle.kernel_tables.specs.declared.entry.Entry.{Entry}
use Rattle.kernel_tables.specs.declared.entry.Entry.TheVariants.{Free, Taken, Fixed, Unspelled}
use Rattle.kernel_tables.specs.Kernel.{Kernel, first_page}
use Rattle.kernel_tables.specs.Rows.{entry_at, key_table}
use Rattle.space_bank.specs.FreeList.{is_free}
use Rattle.space_bank.specs.Shares.{Outside, Shares, key_names_page}
use Rattle.space_bank.specs.Laws.{and_outside}
use Rattle.space_bank.proofs.EntryLaws.{set_cases, free_spelled}
use Rattle.space_bank.proofs.FreeListLaws.{entry_inside}
use Rattle.space_bank.proofs.HandLaws.{handed-out}
use Rattle.unix_model.specs.Tables.{at}
use Rattle.forest.specs.Objects.{Object, PageObject, NodeObject}
use Rattle.forest.specs.Forest.{Forest, Held}
use Rattle.forest.proofs.ReleaseLaws.{some_not_none}
use Rattle.forest.proofs.ThinLaws.{held_outside}
use Rattle.kernel_forest.specs.Trees.{owner_of, count_of, forest_by, forest_of, tree_in, tree_shares, page_tree, bank_outside, elsewhere, is_counted, outside_by, outside_trees, IsTreeKey, TreesGood}
use Rattle.kernel_forest.proofs.Giving.{masked_pages}
use Rattle.file_tables.specs.Roots.{pipe_key}
use Rattle.file_tables.specs.Laws.{OtherPageTaken, OtherPageGiven}

none_zero : (entry : Entry PageOwner) → tree_in page_tree entry ≡ None → tree_shares page_tree entry ≡ 0
none_zero (Free next) e = refl
none_zero (Taken owner count) e = ap (λ o. if is_some o then count else 0) e
none_zero Fixed e = refl
none_zero Unspelled e = refl

-- the entry of a page of no tree is written, with one that belongs to none
owner_same : (first : ℕ) (pages : List (Entry PageOwner)) (nodes : List (Entry NodeOwner)) (n : ℕ) (entry : Entry PageOwner) → n < length pages
    → tree_in page_tree (entry_at pages n) ≡ None → tree_in page_tree entry ≡ None
    → (object : Object) → owner_of first (set pages n entry) nodes object ≡ owner_of first pages nodes object
unfolding owner_of
owner_same first pages nodes n entry inside was now (NodeObject node) = refl
owner_same first pages nodes n entry inside was now (PageObject page) = ⊎_elim
    (λ (t : page < first). rw (lt-ltb page first t) refl)
    (λ (t : first ≤ page).
    rw (le-ltb page first t)
    (set_cases (λ e. tree_in page_tree e ≡ tree_in page_tree (entry_at pages (page - first))) pages n (page - first) entry inside
    (λ same. now ∙ sym (ap (λ k. tree_in page_tree (entry_at pages k)) (sym same) ∙ was))
    (λ other. refl)))
    (cases_lt page first)

count_same : (first : ℕ) (pages : List (Entry PageOwner)) (nodes : List (Entry NodeOwner)) (n : ℕ) (entry : Entry PageOwner) → n < length pages
    → tree_in page_tree (entry_at pages n) ≡ None → tree_in page_tree entry ≡ None
    → (object : Object) → count_of first (set pages n entry) nodes object ≡ count_of first pages nodes object
unfolding count_of
count_same first pages nodes n entry inside was now (NodeObject node) = refl
count_same first pages nodes n entry inside was now (PageObject page) = ⊎_elim
    (λ (t : page < first). rw (lt-ltb page first t) refl)
    (λ (t : first ≤ page).
    rw (le-ltb page first t)
    (set_cases (λ e. tree_shares page_tree e ≡ tree_shares page_tree (entry_at pages (page - first))) pages n (page - first) entry inside
    (λ same. none_zero entry now ∙ sym (ap (λ k. tree_shares page_tree (entry_at pages k)) (sym same) ∙ none_zero (entry_at pages n) was))
    (λ other. refl)))
    (cases_lt page first)

forest_same : (old : Kernel) (n : ℕ) (entry : Entry PageOwner) → n < length old.page_entries → tree_in page_tree (entry_at old.page_entries n) ≡ None → tree_in page_tree entry ≡ None
    → forest_by (first_page old.size) old.nodes (set old.page_entries n entry) old.node_entries old.keys ≡ forest_of old
forest_same old n entry inside was now =
    rw (
      masked_pages (first_page old.size) old.page_entries (set old.page_entries n entry) old.node_entries (key_table old.keys),
      fun_ext (owner_same (first_page old.size) old.page_entries old.node_entries n entry inside was now),
      fun_ext (count_same (first_page old.size) old.page_entries old.node_entries n entry inside was now),
    ) refl

outside_same : (old : Kernel) (n : ℕ) (entry : Entry PageOwner) (outside : Outside)
    → outside_by old.nodes (key_table old.keys) (forest_by (first_page old.size) old.nodes (set old.page_entries n entry) old.node_entries old.keys).keys outside ≡ outside_trees old outside
outside_same old n entry outside =
    ap (λ trees. outside_by old.nodes (key_table old.keys) trees outside)
    (masked_pages (first_page old.size) old.page_entries (set old.page_entries n entry) old.node_entries (key_table old.keys))

-- a page's key outside is one key more at the page alone
bank_same : (outside : Outside) (page : ℕ) (object : Object) → object ≢ PageObject page → bank_outside (and_outside outside (pipe_key page)) object ≡ bank_outside outside object
bank_same outside page (NodeObject node) apart = omega arith
bank_same outside page (PageObject id) apart =
    let none : cond {A = ℕ} (key_names_page id (pipe_key page)) 1 0 ≡ 0 = ap (λ b. cond {A = ℕ} b 1 0) (ne_eqb page id (λ e. apart (ap PageObject (sym e)))) in
    omega arith

others_same : (kernel : Kernel) (outside : Outside) (page : ℕ) (object : Object) → object ≢ PageObject page
    → outside_trees kernel (and_outside outside (pipe_key page)) object ≡ outside_trees kernel outside object
unfolding outside_by
others_same kernel outside page object apart =
    ap (λ n. if is_counted object then n + elsewhere kernel.nodes (key_table kernel.keys) (forest_of kernel).keys object else 0) (bank_same outside page object apart)

-- the forest is the same, and so is what names its objects from outside
trees_again : (old new : Kernel) (outside other : Outside) (hand : List Key) → forest_of new ≡ forest_of old
    → ((object : Object) → IsSome ((forest_of old).owner object) → outside_trees new other object ≡ outside_trees old outside object)
    → Shares new other hand → TreesGood old outside hand → TreesGood new other hand
trees_again old new outside other hand forest same shares trees = record {
  shares = shares;
  held = subst (λ f. Held f (outside_trees new other) hand) (sym forest) (held_outside (forest_of old) (outside_trees old outside) (outside_trees new other) hand same trees.held);
  in_hand = trees.in_hand;
  short = trees.short;
  in_trees = subst (λ (f : Forest). (place : ℕ) → IsTreeKey (at f.keys place)) (sym forest) trees.in_trees;
  single = subst (λ (f : Forest). (object : Object) → IsSome (f.owner object) → outside_trees new other object ≤ 1) (sym forest)
      (λ object some. let e = same object some in let one = trees.single object some in omega arith);
}

free_none : (entry : Entry PageOwner) → is_free entry ≡ true → tree_in page_tree entry ≡ None
free_none (Free next) free = refl
free_none (Taken owner count) free = let no : false ≡ true = free in cc
free_none Fixed free = refl
free_none Unspelled free = refl

entry_none : (first page : ℕ) (pages : List (Entry PageOwner)) (nodes : List (Entry NodeOwner)) → first ≤ page → owner_of first pages nodes (PageObject page) ≡ None → tree_in page_tree (entry_at pages (page - first)) ≡ None
unfolding owner_of
entry_none first page pages nodes low e = rw (le-ltb page first low) at e

none_entry : (first page : ℕ) (pages : List (Entry PageOwner)) (nodes : List (Entry NodeOwner)) → first ≤ page → tree_in page_tree (entry_at pages (page - first)) ≡ None → owner_of first pages nodes (PageObject page) ≡ None
unfolding owner_of
none_entry first page pages nodes low e = rw (le-ltb page first low) e

pub page_taken : OtherPageTaken
page_taken old new page owner outside hand good none takes puts trees =
    let n = page - first_page old.size in
    let was : tree_in page_tree (entry_at old.page_entries (page - first_page old.size)) ≡ None = free_none (entry_at old.page_entries (page - first_page old.size)) takes.was_free in
    let inside : page - first_page old.size < length old.page_entries = entry_inside old.page_entries (page - first_page old.size) (free_spelled (entry_at old.page_entries (page - first_page old.size)) takes.was_free) in
    let unowned : (forest_of old).owner (PageObject page) ≡ None = none_entry (first_page old.size) page old.page_entries old.node_entries takes.low was in
    trees_again old new outside (and_outside outside (pipe_key page)) hand
    (ap forest_of takes.state ∙ forest_same old (page - first_page old.size) (Taken owner 1) inside was none)
    (λ object some.
    ap (λ (k : Kernel). outside_trees k (and_outside outside (pipe_key page)) object) takes.state
    ∙ ap (λ (out : Object → ℕ). out object) (outside_same old (page - first_page old.size) (Taken owner 1) (and_outside outside (pipe_key page)))
    ∙ others_same old outside page object (λ e. some_not_none ((forest_of old).owner object) some (ap (forest_of old).owner e ∙ unowned)))
    ((handed-out new outside hand (pipe_key page)).0 (puts.counted outside hand (pipe_key page) (eq-eqb page page refl) trees.shares)) trees

pub page_given_back : OtherPageGiven
page_given_back old new page outside hand good inside unowned e out trees =
    let low = inside.low in
    let high = inside.high in
    let was : tree_in page_tree (entry_at old.page_entries (page - first_page old.size)) ≡ None = entry_none (first_page old.size) page old.page_entries old.node_entries inside.low unowned in
    let within : page - first_page old.size < length old.page_entries = entry_inside old.page_entries (page - first_page old.size) (good.pages.entries_good.spelled (page - first_page old.size) (omega arith)) in
    trees_again old new (and_outside outside (pipe_key page)) outside hand
    (ap forest_of e ∙ forest_same old (page - first_page old.size) (Free old.machine.free_page) within was refl)
    (λ object some.
    ap (λ (k : Kernel). outside_trees k outside object) e
    ∙ ap (λ (o : Object → ℕ). o object) (outside_same old (page - first_page old.size) (Free old.machine.free_page) outside)
    ∙ sym (others_same old outside page object (λ same. some_not_none ((forest_of old).owner object) some (ap (forest_of old).owner same ∙ unowned))))
    (out outside hand (pipe_key page) (eq-eqb page page refl) ((handed-out old outside hand (pipe_key page)).1 trees.shares)) trees
