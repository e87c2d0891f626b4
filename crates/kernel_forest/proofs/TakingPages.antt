-- A page is taken for a tree.
use Rattle.std.proofs.Common.{◌≡◌, ◌≢◌, ◌<◌, ◌≤◌, ◌+◌, ◌-◌, ◌==◌, not, ℕ, true, false, None, List, [], length, set, get_or, refl, ap, sym, subst, ◌∙◌, arith, if◌then◌else◌, ⊎_elim}
use Rattle.std.specs.Option.{is_some, IsSome}
use Rattle.std.proofs.Math.Path.{fun_ext}
use Rattle.std.proofs.lemmas.Bool.{cases_lt, eq-eqb, lt-ltb, le-ltb, ne_eqb}
use Rattle.kn_base.specs.declared.key.Key.{Key}
use Rattle.kn_base.specs.declared.key.Key.TheVariants.{Page}
use Rattle.kernel_tables.specs.declared.entry.PageOwner.{PageOwner}
use Rattle.kernel_tables.specs.declared.entry.NodeOwner.{NodeOwner}
use Rattle.kernel_tables.specs.declared.entry.Entry.{Entry}
use Rattle.kernel_tables.specs.declared.entry.Entry.TheVariants.{Free, Taken, Fixed, Unspelled}
use Rattle.kernel_tables.specs.Kernel.{Kernel, first_page}
use Rattle.kernel_tables.specs.Rows.{entry_at, key_table, KeepsRows}
use Rattle.space_bank.specs.FreeList.{is_free}
use Rattle.space_bank.specs.Bank.{BankGood}
use Rattle.space_bank.specs.Shares.{Outside, Unnamed, key_names_page, page_places, page_in_hand}
use Rattle.space_bank.proofs.EntryLaws.{set_cases}
use Rattle.space_bank.proofs.FreeListLaws.{entry_inside}
use Rattle.forest.specs.Objects.{Object, PageObject, NodeObject, with_object}
use Rattle.forest.specs.Changes.{IsFree}
use Rattle.kernel_forest.specs.Trees.{owner_of, count_of, forest_of, tree_in, tree_shares, page_tree, is_counted, outside_by, outside_trees, AreTreeKeys}
use Rattle.kernel_forest.specs.Laws.{TakesTreePage}
use Rattle.kernel_forest.proofs.Bridge.{count_places, places_split, hand_alike}
use Rattle.kernel_forest.proofs.Giving.{masked_pages}
use Rattle.kernel_forest.specs.Owners.{page_owners}
use Rattle.kernel_forest.proofs.ApartLaws.{apart-page_taken}
use Rattle.kernel_forest.proofs.Owners.{owners-set}

taken_owner : (first : ℕ) (pages : List (Entry PageOwner)) (nodes : List (Entry NodeOwner)) (n : ℕ) (owner : PageOwner) → n < length pages
    → (object : Object) → owner_of first (set pages n (Taken owner 1)) nodes object ≡ with_object (owner_of first pages nodes) (PageObject (first + n)) (page_tree owner) object
unfolding owner_of with_object
taken_owner first pages nodes n owner inside (NodeObject node) = refl
taken_owner first pages nodes n owner inside (PageObject page) = ⊎_elim
    (λ (t : page < first). rw (lt-ltb page first t, ne_eqb page (first + n) (λ e. absurd (omega arith))) refl)
    (λ (t : first ≤ page).
    rw (le-ltb page first t)
    (set_cases (λ e. tree_in page_tree e ≡ (if page == first + n then page_tree owner else tree_in page_tree (entry_at pages (page - first)))) pages n (page - first) (Taken owner 1) inside
    (λ same. let is : page ≡ first + n = omega arith in rw (eq-eqb page (first + n) is) refl)
    (λ other. rw (ne_eqb page (first + n) (λ e. other (omega arith))) refl)))
    (cases_lt page first)

taken_count : (first : ℕ) (pages : List (Entry PageOwner)) (nodes : List (Entry NodeOwner)) (n : ℕ) (owner : PageOwner) → n < length pages → IsSome (page_tree owner)
    → (object : Object) → count_of first (set pages n (Taken owner 1)) nodes object ≡ with_object (count_of first pages nodes) (PageObject (first + n)) 1 object
unfolding count_of with_object
taken_count first pages nodes n owner inside tree (NodeObject node) = refl
taken_count first pages nodes n owner inside tree (PageObject page) = ⊎_elim
    (λ (t : page < first). rw (lt-ltb page first t, ne_eqb page (first + n) (λ e. absurd (omega arith))) refl)
    (λ (t : first ≤ page).
    rw (le-ltb page first t)
    (set_cases (λ e. tree_shares page_tree e ≡ (if page == first + n then 1 else tree_shares page_tree (entry_at pages (page - first)))) pages n (page - first) (Taken owner 1) inside
    (λ same. let is : page ≡ first + n = omega arith in rw (eq-eqb page (first + n) is, tree) refl)
    (λ other. rw (ne_eqb page (first + n) (λ e. other (omega arith))) refl)))
    (cases_lt page first)

free_none : (entry : Entry PageOwner) → is_free entry ≡ true → tree_in page_tree entry ≡ None
free_none (Free next) free = refl
free_none (Taken owner count) free = let no : false ≡ true = free in cc
free_none Fixed free = refl
free_none Unspelled free = refl

free_spelled : (entry : Entry PageOwner) → is_free entry ≡ true → entry ≢ Unspelled
free_spelled entry free e = let no : false ≡ true = sym (ap is_free e) ∙ free in cc

page_unowned : (kernel : Kernel) (page : ℕ) → first_page kernel.size ≤ page → is_free (entry_at kernel.page_entries (page - first_page kernel.size)) ≡ true → (forest_of kernel).owner (PageObject page) ≡ None
unfolding owner_of
page_unowned kernel page low free = rw (le-ltb page (first_page kernel.size) low) (free_none (entry_at kernel.page_entries (page - first_page kernel.size)) free)

page_free : (kernel : Kernel) (page : ℕ) (outside : Outside) (hand : List Key) → BankGood kernel → first_page kernel.size ≤ page → is_free (entry_at kernel.page_entries (page - first_page kernel.size)) ≡ true
    → Unnamed (page_places kernel.keys page) (outside.pages page) (page_in_hand hand page) → AreTreeKeys hand
    → IsFree (forest_of kernel) (outside_trees kernel outside) hand (PageObject page)
unfolding outside_by page_places page_in_hand first_page
page_free kernel page outside hand good low free unnamed trees =
    let real : (page == 0) ≡ false = ne_eqb page 0 (λ e. absurd (omega arith)) in
    let yes : is_counted (PageObject page) ≡ true = ap not real in
    let places = count_places (key_names_page page) kernel.keys refl in
    let split = rw (← good.nodes.all_keys) at (places_split kernel (PageObject page)) in
    let held = hand_alike (PageObject page) hand yes trees in
    let a = unnamed.no_place in
    let b = unnamed.none_outside in
    let c = unnamed.none_in_hand in
    record { unowned = page_unowned kernel page low free; none_outside = rw real (omega arith); none_in_hand = omega arith }

pub takes_page : TakesTreePage
takes_page old new page owner to good tree takes puts =
    let low = takes.low in
    let high = takes.high in
    let n = page - first_page old.size in
    let number : first_page old.size + (page - first_page old.size) ≡ page = omega arith in
    let inside : page - first_page old.size < length old.page_entries = entry_inside old.page_entries (page - first_page old.size) (free_spelled (entry_at old.page_entries (page - first_page old.size)) takes.was_free) in
    let size : new.size ≡ old.size = ap (λ (k : Kernel). k.size) takes.state in
    record {
      inside = record { low = low; high = high };
      forest_now = ap forest_of takes.state
          ∙ rw (
            masked_pages (first_page old.size) old.page_entries (set old.page_entries (page - first_page old.size) (Taken owner 1)) old.node_entries (key_table old.keys),
            fun_ext (taken_owner (first_page old.size) old.page_entries old.node_entries (page - first_page old.size) owner inside),
            fun_ext (taken_count (first_page old.size) old.page_entries old.node_entries (page - first_page old.size) owner inside (ap is_some tree)),
            number,
            tree,
          ) refl;
      outside_now = λ outside. ap (λ k. outside_trees k outside) takes.state
          ∙ ap (λ trees. outside_by old.nodes (key_table old.keys) trees outside)
          (masked_pages (first_page old.size) old.page_entries (set old.page_entries (page - first_page old.size) (Taken owner 1)) old.node_entries (key_table old.keys));
      rows_now = subst (λ (k : Kernel). KeepsRows old k) (sym takes.state) (λ mine apart. refl);
      apart_now = apart-page_taken old new page owner inside (ap is_some tree) takes;
      owners_now = ap page_owners takes.state ∙ owners-set (first_page old.size) old.page_entries page (Taken owner 1) low inside;
      rest = takes.state ∙ ap (λ (k : Kernel). let r : Kernel = record old {
        machine = record old.machine { free_page = new.machine.free_page; memory_taken = k.machine.memory_taken; pages_taken = old.machine.pages_taken + 1 };
        page_entries = k.page_entries;
      } in r) (sym takes.state);
      zero = ap (λ s. get_or new.bank (page - first_page s) []) size ∙ takes.zero;
      unowned = page_unowned old page low takes.was_free;
      free = λ outside hand trees counted. page_free old page outside hand good low takes.was_free (puts.unnamed outside hand counted) trees;
      shares = λ outside hand writable counted. puts.counted outside hand (Page (record { 0 = page }) writable) (eq-eqb page page refl) counted;
    }
