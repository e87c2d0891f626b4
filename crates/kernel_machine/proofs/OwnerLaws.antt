-- Who owns pages that belong to no tree, and how that goes along with a page that is taken or given back.
use Rattle.std.proofs.Common.{◌≡◌, ◌≢◌, ◌<◌, ◌≤◌, ◌+◌, ◌-◌, ℕ, suc, zero, Some, None, true, false, nat_lt, List, [], ◌∷◌, length, set, get_or, refl, sym, ap, ◌∙◌, arith, ⊎_elim}
use Rattle.std.specs.Prelude.{if◌then◌else◌}
use Rattle.std.specs.Option.{IsSome, is_some}
use Rattle.std.proofs.lemmas.Bool.{cases_Bool, cases_eq, cases_lt, le-ltb, ne_eqb}
use Rattle.std.proofs.lemmas.List.{length-set, get_or-set_same, get_or-set_other}
use Rattle.kn_base.specs.declared.key.Key.TheVariants.{Page}
use Rattle.kernel_tables.specs.declared.entry.Entry.{Entry}
use Rattle.kernel_tables.specs.declared.entry.Entry.TheVariants.{Free, Taken, Fixed, Unspelled}
use Rattle.kernel_tables.specs.declared.entry.PageOwner.{PageOwner}
use Rattle.kernel_tables.specs.declared.entry.PageOwner.TheVariants.{Memory, File, Directory, Pipe, Buffer}
use Rattle.kernel_tables.specs.declared.row.Row.{Row}
use Rattle.kernel_tables.specs.declared.row.Row.TheVariants.{Unspelled as UnspelledRow}
use Rattle.kernel_tables.specs.Kernel.{Kernel, kernel_of, first_page}
use Rattle.kernel_tables.proofs.Sizes.{length-bank_page}
use Rattle.kernel_tables.specs.Rows.{entry_at}
use Rattle.space_bank.specs.Bank.{BankGood}
use Rattle.space_bank.specs.FreeList.{is_free}
use Rattle.unix_model.specs.Tables.{at}
use Rattle.forest.specs.Forest.{Forest, IsSpace, Sound}
use Rattle.forest.specs.Objects.{Object, PageObject, NodeObject, OfProcess}
use Rattle.forest.specs.Walks.{map_of, key_at_page, page_way}
use Rattle.forest.proofs.OwnLaws.{found_at, mapped_named, way_of_page}
use Rattle.forest.proofs.ReachLaws.{way_owner}
use Rattle.kernel_forest.specs.Owners.{owner_in, page_owner_of, page_owners, LeavesOwners, PagesAreOf}
use Rattle.kernel_forest.specs.Trees.{forest_of, owner_of, tree_in, tree_shares, page_tree, raw_names}
use Rattle.kernel_forest.proofs.Owners.{owned-entry, owned-in-bank, owned-inside, pages-left, tree-by-somebody}
use Rattle.user_copy.proofs.Pages.{found_owned}
use Rattle.kernel_machine.specs.Held.{AllWhole}
use Rattle.kernel_machine.specs.Keeps as law

-- ---- owners

-- the owner of a page that belongs to no tree
no-tree : (entry : Entry PageOwner) (owner : PageOwner) → owner_in entry ≡ Some owner → page_tree owner ≡ None → tree_in page_tree entry ≡ None
no-tree (Free next) owner e none = refl
no-tree (Taken held count) owner e none = let same : held ≡ owner = cc in ap page_tree same ∙ none
no-tree Fixed owner e none = refl
no-tree Unspelled owner e none = refl

pub unowned-by : (kernel : Kernel) (page : ℕ) (owner : PageOwner) → at (page_owners kernel) page ≡ Some owner → page_tree owner ≡ None → (forest_of kernel).owner (PageObject page) ≡ None
unfolding owner_of
unowned-by kernel page owner owned none =
    rw (le-ltb page (first_page kernel.size) (owned-in-bank kernel page owner owned))
    (no-tree (entry_at kernel.page_entries (page - first_page kernel.size)) owner (owned-entry kernel page owner owned) none)

-- its entry counts for no tree
pub none-shares : (entry : Entry PageOwner) → tree_in page_tree entry ≡ None → tree_shares page_tree entry ≡ 0
none-shares (Free next) e = refl
none-shares (Taken owner count) e = ap (λ o. if is_some o then count else 0) e
none-shares Fixed e = refl
none-shares Unspelled e = refl

pub owned-no-tree : (kernel : Kernel) (page : ℕ) (owner : PageOwner) → at (page_owners kernel) page ≡ Some owner → page_tree owner ≡ None → tree_in page_tree (entry_at kernel.page_entries (page - first_page kernel.size)) ≡ None
owned-no-tree kernel page owner owned none = no-tree (entry_at kernel.page_entries (page - first_page kernel.size)) owner (owned-entry kernel page owner owned) none

-- a page that is free
pub free-tree : (entry : Entry PageOwner) → is_free entry ≡ true → tree_in page_tree entry ≡ None
free-tree (Free next) free = refl
free-tree (Taken owner count) free = cc
free-tree Fixed free = refl
free-tree Unspelled free = refl

pub free-in-no-tree : (kernel : Kernel) (page : ℕ) → is_free (entry_at kernel.page_entries (page - first_page kernel.size)) ≡ true → (forest_of kernel).owner (PageObject page) ≡ None
unfolding owner_of
free-in-no-tree kernel page free = ⊎_elim
    (λ (t : nat_lt page (first_page kernel.size) ≡ true). rw t refl)
    (λ (t : nat_lt page (first_page kernel.size) ≡ false). rw t (free-tree (entry_at kernel.page_entries (page - first_page kernel.size)) free))
    (cases_Bool (nat_lt page (first_page kernel.size)))

pub owned-below : (kernel : Kernel) (page : ℕ) (owner : PageOwner) → BankGood kernel → at (page_owners kernel) page ≡ Some owner → page - first_page kernel.size < kernel.size
owned-below kernel page owner good owned = ⊎_elim
    (λ (t : page - first_page kernel.size < kernel.size). t)
    (λ (t : kernel.size ≤ page - first_page kernel.size).
    let unused = good.pages.entries_good.unused (page - first_page kernel.size) t (owned-inside kernel page owner owned) in
    let no : None ≡ Some owner = sym (ap owner_in unused) ∙ owned-entry kernel page owner owned in cc)
    (cases_lt (page - first_page kernel.size) kernel.size)

-- ---- pages of maps

-- what a space maps is in use, so that it wasn't given back
pub pages-in-use : (whose : PageOwner) (old new : Kernel) (space : ℕ) → map_of (forest_of new).keys space ≡ map_of (forest_of old).keys space
    → LeavesOwners old new → Sound (forest_of new) → IsSpace (forest_of new) [] space
    → PagesAreOf whose (page_owners old) (map_of (forest_of old).keys space) → PagesAreOf whose (page_owners new) (map_of (forest_of new).keys space)
unfolding at
pages-in-use whose old new space map leaves sound is =
    pages-left whose old new (map_of (forest_of old).keys space) (map_of (forest_of new).keys space) map leaves
    (λ page mapping mapped real. tree-by-somebody new mapping.page (found_owned (forest_of new) space page mapping sound is mapped real))

-- The pages that the space of a process maps are memory: nothing else belongs to trees of processes.
process-owner : (entry : Entry PageOwner) → tree_in page_tree entry ≡ Some OfProcess → owner_in entry ≡ Some Memory
process-owner (Free next) e = cc
process-owner (Taken Memory count) e = refl
process-owner (Taken File count) e = cc
process-owner (Taken Directory count) e = cc
process-owner (Taken Pipe count) e = cc
process-owner (Taken Buffer count) e = cc
process-owner Fixed e = cc
process-owner Unspelled e = cc

process-page : (kernel : Kernel) (page : ℕ) → (forest_of kernel).owner (PageObject page) ≡ Some OfProcess → at (page_owners kernel) page ≡ Some Memory
unfolding page_owner_of owner_of at
process-page kernel page owned = ⊎_elim
    (λ (t : nat_lt page (first_page kernel.size) ≡ true). let no : None ≡ Some OfProcess = rw t at owned in cc)
    (λ (t : nat_lt page (first_page kernel.size) ≡ false). rw t (process-owner (entry_at kernel.page_entries (page - first_page kernel.size)) (rw t at owned)))
    (cases_Bool (nat_lt page (first_page kernel.size)))

pub memory-pages : (kernel : Kernel) (space : ℕ) → Sound (forest_of kernel) → (forest_of kernel).owner (NodeObject space) ≡ Some OfProcess
    → PagesAreOf Memory (page_owners kernel) (map_of (forest_of kernel).keys space)
unfolding at
memory-pages kernel space sound owned page mapping mapped real =
    let found = found_at (forest_of kernel).keys space page mapping mapped in
    let ends = mapped_named (key_at_page (forest_of kernel).keys space page) mapping found.maps real in
    process-page kernel mapping.page (way_owner (forest_of kernel) sound space (page_way page) (way_of_page page) (PageObject mapping.page) ends ∙ owned)

-- ---- names

-- what belongs to a tree is another page
pub other-page : (forest : Forest) (object : Object) (page : ℕ) → IsSome (forest.owner object) → forest.owner (PageObject page) ≡ None → raw_names object (Page (record { 0 = page }) true) ≡ false
other-page forest (NodeObject node) page some none = refl
other-page forest (PageObject other) page some none = ne_eqb page other (λ same.
    let no : true ≡ false = sym some ∙ ap (λ n. is_some (forest.owner (PageObject n))) (sym same) ∙ ap is_some none in cc)

-- ---- bytes

-- other bytes in a page of the bank
pub whole-set : (bank : List (List ℕ)) (place : ℕ) (bytes : List ℕ) → length bytes ≡ 4096 → AllWhole bank → AllWhole (set bank place bytes)
whole-set bank place bytes size whole number low =
    let all : length (set bank place bytes) ≡ length bank = length-set bank place bytes in
    ⊎_elim
    (λ (t : number ≡ place).
    ap (λ n. length (get_or (set bank place bytes) n [])) t ∙ ap length (get_or-set_same bank place bytes [] (omega arith)) ∙ size)
    (λ (d : number ≢ place). ap length (get_or-set_other bank place number bytes [] d) ∙ whole number (omega arith))
    (cases_eq number place)

-- the pages of a store's bank have their bytes
pub store_is_whole : law.StoreIsWhole
store_is_whole memory good whole page low =
    let high = good.pages.pages in
    let same : first_page (kernel_of memory).size + page - first_page (kernel_of memory).size ≡ page = omega arith in
    ap (λ n. length (get_or (kernel_of memory).bank n [])) (sym same)
    ∙ length-bank_page memory (first_page (kernel_of memory).size + page) good.sized (record { low = omega arith; high = omega arith }) whole

-- ---- rows

-- a row that is spelled is one of the table
pub row-inside : {X : Type 0} (rows : List (Row X)) (number : ℕ) → get_or rows number UnspelledRow ≢ UnspelledRow → number < length rows
row-inside [] number spelled = absurd (spelled refl)
row-inside (row ∷ rows) zero spelled = omega arith
row-inside (row ∷ rows) (suc n) spelled = let h = row-inside rows n spelled in omega arith
