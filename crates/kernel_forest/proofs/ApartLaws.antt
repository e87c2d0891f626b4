-- What belongs to no tree stays, while objects of trees are taken, counted, written and given back, and pages of trees are
-- named by trees.
use Rattle.std.proofs.Common.{◌≡◌, ◌≢◌, ◌<◌, ◌-◌, Some, ℕ, Bool, true, false, nat_lt, Option, None, List, [], length, set, get_or, get_or-set_other, refl, ap, sym, ◌∙◌, if◌then◌else◌, ⊎_elim}
use Rattle.std.specs.Option.{is_some, IsSome}
use Rattle.std.proofs.Math.Path.{fun_ext}
use Rattle.std.proofs.lemmas.Bool.{cases_eq}
use Rattle.kn_base.specs.Memory.{zero_page}
use Rattle.kernel_tables.specs.declared.entry.PageOwner.{PageOwner}
use Rattle.kernel_tables.specs.declared.entry.NodeOwner.{NodeOwner}
use Rattle.kernel_tables.specs.declared.entry.Entry.{Entry}
use Rattle.kernel_tables.specs.declared.entry.Entry.TheVariants.{Free, Taken, Fixed, Unspelled}
use Rattle.kernel_tables.specs.Kernel.{Kernel, first_page, with_bank_page}
use Rattle.kernel_tables.specs.Rows.{entry_at}
use Rattle.space_bank.specs.FreeList.{is_free}
use Rattle.space_bank.specs.Bank.{TakesNode, TakesPage, page_given, node_given}
use Rattle.space_bank.specs.Shares.{Outside}
use Rattle.space_bank.specs.Changes.{with_count, page_counted, node_counted}
use Rattle.space_bank.proofs.EntryLaws.{set_cases}
use Rattle.forest.specs.Objects.{Object, PageObject, Owner}
use Rattle.kernel_forest.specs.Trees.{owner_of, forest_of, outside_trees, tree_in, page_tree, node_tree}
use Rattle.kernel_forest.specs.Laws.{PageStaysApart, NodeStaysApart}
use Rattle.kernel_forest.specs.Apart.{apart_entry, apart_bytes, Apart, apart_by, apart_of, KeepsApart, KeepsInside}

-- what belongs to a tree, and what is free, isn't seen
in_tree : {O : Type 0} (tree : O → Option Owner) (entry : Entry O) → IsSome (tree_in tree entry) → apart_entry tree entry ≡ Free 0
in_tree tree (Free next) some = refl
in_tree tree (Taken owner count) some = rw some refl
in_tree tree Fixed some = cc
in_tree tree Unspelled some = cc

in_tree_counted : {O : Type 0} (tree : O → Option Owner) (entry : Entry O) (count : ℕ) → IsSome (tree_in tree entry) → apart_entry tree (with_count entry count) ≡ Free 0
in_tree_counted tree (Free next) count some = refl
in_tree_counted tree (Taken owner old) count some = rw some refl
in_tree_counted tree Fixed count some = cc
in_tree_counted tree Unspelled count some = cc

unseen_free : {O : Type 0} (tree : O → Option Owner) (entry : Entry O) → is_free entry ≡ true → apart_entry tree entry ≡ Free 0
unseen_free tree (Free next) free = refl
unseen_free tree (Taken owner count) free = let no : false ≡ true = free in cc
unseen_free tree Fixed free = let no : false ≡ true = free in cc
unseen_free tree Unspelled free = let no : false ≡ true = free in cc

-- one entry that isn't seen becomes another one
set_unseen : {O : Type 0} (tree : O → Option Owner) (entries : List (Entry O)) (n : ℕ) (now : Entry O) → n < length entries
    → apart_entry tree (entry_at entries n) ≡ Free 0 → apart_entry tree now ≡ Free 0
    → (m : ℕ) → apart_entry tree (entry_at (set entries n now) m) ≡ apart_entry tree (entry_at entries m)
set_unseen tree entries n now inside was is m =
    set_cases (λ e. apart_entry tree e ≡ apart_entry tree (entry_at entries m)) entries n m now inside
    (λ same. is ∙ sym (ap (λ k. apart_entry tree (entry_at entries k)) (sym same) ∙ was))
    (λ other. refl)

apart : (ℕ → Entry NodeOwner) → (ℕ → Entry PageOwner) → (ℕ → List ℕ) → Apart
apart nodes pages bytes = record { nodes = nodes; pages = pages; bytes = bytes }

module _ (pages : List (Entry PageOwner)) (nodes : List (Entry NodeOwner)) (bank : List (List ℕ)) (n : ℕ) where
  node_set : (now : Entry NodeOwner) → n < length nodes → apart_entry node_tree (entry_at nodes n) ≡ Free 0 → apart_entry node_tree now ≡ Free 0
      → apart_by pages (set nodes n now) bank ≡ apart_by pages nodes bank
  unfolding apart_by apart
  node_set now inside was is =
      ap (λ seen. apart seen (apart_by pages nodes bank).pages (apart_by pages nodes bank).bytes) (fun_ext (set_unseen node_tree nodes n now inside was is))

  page_set : (now : Entry PageOwner) → n < length pages → apart_entry page_tree (entry_at pages n) ≡ Free 0 → apart_entry page_tree now ≡ Free 0
      → apart_by (set pages n now) nodes bank ≡ apart_by pages nodes bank
  unfolding apart_by apart
  page_set now inside was is =
      ap (λ (seen : ℕ → Entry PageOwner). apart (apart_by pages nodes bank).nodes seen (λ m. apart_bytes (seen m) (get_or bank m []))) (fun_ext (set_unseen page_tree pages n now inside was is))

  -- a page that isn't seen has other bytes
  bytes_set : (bytes : List ℕ) → apart_entry page_tree (entry_at pages n) ≡ Free 0 → apart_by pages nodes (set bank n bytes) ≡ apart_by pages nodes bank
  unfolding apart_by apart
  bytes_set bytes was =
      ap (λ (there : ℕ → List ℕ). apart (apart_by pages nodes bank).nodes (apart_by pages nodes bank).pages there)
      (fun_ext (λ m. ⊎_elim
      (λ (same : m ≡ n).
      let unseen : apart_entry page_tree (entry_at pages m) ≡ Free 0 = ap (λ k. apart_entry page_tree (entry_at pages k)) same ∙ was in
      ap (λ e. apart_bytes e (get_or (set bank n bytes) m [])) unseen ∙ sym (ap (λ e. apart_bytes e (get_or bank m [])) unseen))
      (λ (other : m ≢ n). ap (apart_bytes (apart_entry page_tree (entry_at pages m))) (get_or-set_other bank n m bytes [] other))
      (cases_eq m n)))

pub apart-node_counted : (kernel : Kernel) (n count : ℕ) → n < length kernel.node_entries → IsSome (tree_in node_tree (entry_at kernel.node_entries n))
    → KeepsApart kernel (node_counted kernel n count)
apart-node_counted kernel n count inside some =
    node_set kernel.page_entries kernel.node_entries kernel.bank n (with_count (entry_at kernel.node_entries n) count) inside
    (in_tree node_tree (entry_at kernel.node_entries n) some) (in_tree_counted node_tree (entry_at kernel.node_entries n) count some)

pub apart-page_counted : (kernel : Kernel) (n count : ℕ) → n < length kernel.page_entries → IsSome (tree_in page_tree (entry_at kernel.page_entries n))
    → KeepsApart kernel (page_counted kernel n count)
apart-page_counted kernel n count inside some =
    page_set kernel.page_entries kernel.node_entries kernel.bank n (with_count (entry_at kernel.page_entries n) count) inside
    (in_tree page_tree (entry_at kernel.page_entries n) some) (in_tree_counted page_tree (entry_at kernel.page_entries n) count some)

pub apart-node_taken : (old new : Kernel) (n : ℕ) (owner : NodeOwner) → n < length old.node_entries → IsSome (node_tree owner) → TakesNode old new n owner → KeepsApart old new
apart-node_taken old new n owner inside some takes =
    ap apart_of takes.state
    ∙ node_set old.page_entries old.node_entries old.bank n (Taken owner 1) inside (unseen_free node_tree (entry_at old.node_entries n) takes.was_free) (in_tree node_tree (Taken owner 1) some)

pub apart-page_taken : (old new : Kernel) (page : ℕ) (owner : PageOwner) → page - first_page old.size < length old.page_entries → IsSome (page_tree owner) → TakesPage old new page owner
    → KeepsApart old new
apart-page_taken old new page owner inside some takes =
    ap apart_of takes.state
    ∙ page_set old.page_entries old.node_entries old.bank (page - first_page old.size) (Taken owner 1) inside
    (unseen_free page_tree (entry_at old.page_entries (page - first_page old.size)) takes.was_free) (in_tree page_tree (Taken owner 1) some)

pub apart-node_given : (kernel : Kernel) (n : ℕ) → n < length kernel.node_entries → IsSome (tree_in node_tree (entry_at kernel.node_entries n)) → KeepsApart kernel (node_given kernel n)
apart-node_given kernel n inside some =
    node_set kernel.page_entries kernel.node_entries kernel.bank n (Free kernel.machine.free_node) inside (in_tree node_tree (entry_at kernel.node_entries n) some) refl

pub apart-page_given : (kernel : Kernel) (n : ℕ) → n < length kernel.page_entries → IsSome (tree_in page_tree (entry_at kernel.page_entries n)) → KeepsApart kernel (page_given kernel n)
apart-page_given kernel n inside some =
    page_set kernel.page_entries kernel.node_entries (set kernel.bank n zero_page) n (Free kernel.machine.free_page) inside (in_tree page_tree (entry_at kernel.page_entries n) some) refl
    ∙ bytes_set kernel.page_entries kernel.node_entries kernel.bank n zero_page (in_tree page_tree (entry_at kernel.page_entries n) some)

owned_entry : (low : Bool) (there : Option Owner) → IsSome (if low then None else there) → IsSome there
owned_entry true there some = cc
owned_entry false there some = some

-- a page of a tree has other bytes
pub apart-page_written : (kernel : Kernel) (page : ℕ) (bytes : List ℕ) → IsSome ((forest_of kernel).owner (PageObject page)) → KeepsApart kernel (record kernel { bank = with_bank_page kernel page bytes })
unfolding owner_of
apart-page_written kernel page bytes owned =
    bytes_set kernel.page_entries kernel.node_entries kernel.bank (page - first_page kernel.size) bytes
    (in_tree page_tree (entry_at kernel.page_entries (page - first_page kernel.size))
    (owned_entry (nat_lt page (first_page kernel.size)) (tree_in page_tree (entry_at kernel.page_entries (page - first_page kernel.size))) owned))

-- ---- pages of trees

-- where no page comes to belong to a tree
pub inside_same : (old new : Kernel) (outside : Outside) → outside_trees new outside ≡ outside_trees old outside
    → ((page : ℕ) → IsSome ((forest_of new).owner (PageObject page)) → IsSome ((forest_of old).owner (PageObject page))) → KeepsInside old new outside
inside_same old new outside same fewer none page some = ap (λ (out : Object → ℕ). out (PageObject page)) same ∙ none page (fewer page some)

-- ---- what is told of one object

-- an entry that is seen is the entry
seen_is : {O : Type 0} (tree : O → Option Owner) (entry : Entry O) (owner : O) (count : ℕ) → apart_entry tree entry ≡ Taken owner count → entry ≡ Taken owner count
seen_is tree (Free next) owner count e = let no : Free 0 ≡ Taken owner count = e in cc
seen_is tree (Taken there shares) owner count e = shown (tree there) e
  where
    shown : (o : Option Owner) → (if is_some o then Free 0 else Taken there shares) ≡ Taken owner count → Taken there shares ≡ Taken owner count
    shown None h = h
    shown (Some x) h = let no : Free 0 ≡ Taken owner count = h in cc
seen_is tree Fixed owner count e = let no : Fixed ≡ Taken owner count = e in cc
seen_is tree Unspelled owner count e = let no : Unspelled ≡ Taken owner count = e in cc

is_seen : {O : Type 0} (tree : O → Option Owner) (entry : Entry O) (owner : O) (count : ℕ) → tree owner ≡ None → entry ≡ Taken owner count → apart_entry tree entry ≡ Taken owner count
is_seen tree entry owner count none e = ap (apart_entry tree) e ∙ rw none refl

pub page_stays_apart : PageStaysApart
unfolding apart_by
page_stays_apart old new n owner count same none =
    let seen = ap (λ (a : Apart). a.pages n) same in
    let bytes = ap (λ (a : Apart). a.bytes n) same in (
      (
        λ was. seen_is page_tree (entry_at new.page_entries n) owner count (seen ∙ is_seen page_tree (entry_at old.page_entries n) owner count none was),
        λ is. seen_is page_tree (entry_at old.page_entries n) owner count (sym seen ∙ is_seen page_tree (entry_at new.page_entries n) owner count none is),
      ),
      λ was.
          let before = is_seen page_tree (entry_at old.page_entries n) owner count none was in
          ap (λ e. apart_bytes e (get_or new.bank n [])) (sym (seen ∙ before)) ∙ bytes ∙ ap (λ e. apart_bytes e (get_or old.bank n [])) before,
    )

pub node_stays_apart : NodeStaysApart
unfolding apart_by
node_stays_apart old new n owner count same none =
    let seen = ap (λ (a : Apart). a.nodes n) same in (
      λ was. seen_is node_tree (entry_at new.node_entries n) owner count (seen ∙ is_seen node_tree (entry_at old.node_entries n) owner count none was),
      λ is. seen_is node_tree (entry_at old.node_entries n) owner count (sym seen ∙ is_seen node_tree (entry_at new.node_entries n) owner count none is),
    )
