-- Who owns each page, and how that goes along with pages that are taken, counted and given back.
use Rattle.std.proofs.Common.{◌≡◌, ◌≢◌, ◌<◌, ◌≤◌, ◌-◌, ℕ, nat_lt, true, false, Option, Some, None, List, length, set, refl, ap, ap₂, sym, ◌∙◌, arith, if◌then◌else◌, ⊎_elim, ◌⊎◌, inl, inr, get_or-set_same, get_or-set_other}
use Rattle.std.specs.Option.{IsSome}
use Rattle.std.proofs.Math.Path.{fun_ext}
use Rattle.std.proofs.lemmas.Bool.{cases_Bool, cases_eq, cases_lt, eq-eqb, lt-ltb, le-ltb, ne_eqb}
use Rattle.kernel_tables.specs.declared.entry.PageOwner.{PageOwner}
use Rattle.kernel_tables.specs.declared.entry.Entry.{Entry}
use Rattle.kernel_tables.specs.declared.entry.Entry.TheVariants.{Free, Taken, Fixed, Unspelled}
use Rattle.kernel_tables.specs.Kernel.{Kernel, first_page}
use Rattle.kernel_tables.specs.Rows.{entry_at}
use Rattle.space_bank.specs.FreeList.{is_free}
use Rattle.space_bank.specs.Bank.{page_given}
use Rattle.space_bank.specs.Changes.{with_count, page_counted}
use Rattle.space_bank.proofs.EntryLaws.{set_cases}
use Rattle.space_bank.proofs.FreeListLaws.{entry_inside}
use Rattle.unix_model.specs.Tables.{at, with_at}
use Rattle.unix_model.proofs.TableLaws.{at-with_at, at-with_at-other}
use Rattle.forest.specs.Objects.{PageObject}
use Rattle.forest.specs.Walks.{Mapping}
use Rattle.kernel_forest.specs.Trees.{forest_of, owner_of, tree_in, page_tree}
use Rattle.kernel_forest.specs.Owners.{owner_in, page_owner_of, page_owners, KeepsOwners, LeavesOwners, TakesFor, PagesAreOf}

-- ---- entries

counted-owner : {O : Type 0} (entry : Entry O) (count : ℕ) → owner_in (with_count entry count) ≡ owner_in entry
counted-owner (Free next) count = refl
counted-owner (Taken owner old) count = refl
counted-owner Fixed count = refl
counted-owner Unspelled count = refl

free-owner : (entry : Entry PageOwner) → is_free entry ≡ true → owner_in entry ≡ None
free-owner (Free next) free = refl
free-owner (Taken owner count) free = cc
free-owner Fixed free = refl
free-owner Unspelled free = refl

tree-owner : (entry : Entry PageOwner) → IsSome (tree_in page_tree entry) → IsSome (owner_in entry)
tree-owner (Free next) some = some
tree-owner (Taken owner count) some = refl
tree-owner Fixed some = some
tree-owner Unspelled some = some

-- an owned page is one of the bank's, ..
pub owned-in-bank : (kernel : Kernel) (page : ℕ) (owner : PageOwner) → at (page_owners kernel) page ≡ Some owner → first_page kernel.size ≤ page
unfolding page_owner_of at
owned-in-bank kernel page owner owned = ⊎_elim
    (λ (t : page < first_page kernel.size). let no : None ≡ Some owner = rw (lt-ltb page (first_page kernel.size) t) at owned in cc)
    (λ (t : first_page kernel.size ≤ page). t)
    (cases_lt page (first_page kernel.size))

pub owned-entry : (kernel : Kernel) (page : ℕ) (owner : PageOwner) → at (page_owners kernel) page ≡ Some owner
    → owner_in (entry_at kernel.page_entries (page - first_page kernel.size)) ≡ Some owner
unfolding page_owner_of at
owned-entry kernel page owner owned = rw (le-ltb page (first_page kernel.size) (owned-in-bank kernel page owner owned)) at owned

-- .. and its entry one of those that are spelled
pub owned-inside : (kernel : Kernel) (page : ℕ) (owner : PageOwner) → at (page_owners kernel) page ≡ Some owner
    → page - first_page kernel.size < length kernel.page_entries
owned-inside kernel page owner owned =
    entry_inside kernel.page_entries (page - first_page kernel.size)
    (λ same. let no : None ≡ Some owner = sym (ap owner_in same) ∙ owned-entry kernel page owner owned in cc)

-- a page that is free is nobody's, ..
pub free-by-nobody : (kernel : Kernel) (page : ℕ) → is_free (entry_at kernel.page_entries (page - first_page kernel.size)) ≡ true
    → at (page_owners kernel) page ≡ None
unfolding page_owner_of at
free-by-nobody kernel page free = ⊎_elim
    (λ (t : nat_lt page (first_page kernel.size) ≡ true). rw t refl)
    (λ (t : nat_lt page (first_page kernel.size) ≡ false). rw t (free-owner (entry_at kernel.page_entries (page - first_page kernel.size)) free))
    (cases_Bool (nat_lt page (first_page kernel.size)))

-- .. and one of a tree somebody's
pub tree-by-somebody : (kernel : Kernel) (page : ℕ) → IsSome ((forest_of kernel).owner (PageObject page)) → IsSome (at (page_owners kernel) page)
unfolding page_owner_of owner_of at
tree-by-somebody kernel page some = ⊎_elim
    (λ (t : nat_lt page (first_page kernel.size) ≡ true). rw t (rw t at some))
    (λ (t : nat_lt page (first_page kernel.size) ≡ false). rw t (tree-owner (entry_at kernel.page_entries (page - first_page kernel.size)) (rw t at some)))
    (cases_Bool (nat_lt page (first_page kernel.size)))

-- ---- entries that change

-- one page has another entry
pub owners-set : (first : ℕ) (entries : List (Entry PageOwner)) (page : ℕ) (entry : Entry PageOwner) → first ≤ page → page - first < length entries
    → page_owner_of first (set entries (page - first) entry) ≡ with_at (page_owner_of first entries) page (owner_in entry)
unfolding page_owner_of with_at
owners-set first entries page entry low inside =
    fun_ext (λ k. ⊎_elim
    (λ (t : k ≡ page).
    let high : first ≤ k = omega arith in
    rw (eq-eqb k page t, le-ltb k first high)
    (ap (λ p. owner_in (entry_at (set entries (page - first) entry) (p - first))) t
    ∙ ap owner_in (get_or-set_same entries (page - first) entry Unspelled inside)))
    (λ (d : k ≢ page). rw (ne_eqb k page d) (⊎_elim
    (λ (t : k < first). rw (lt-ltb k first t) refl)
    (λ (t : first ≤ k).
    rw (le-ltb k first t) (ap owner_in (get_or-set_other entries (page - first) (k - first) entry Unspelled (λ same. d (omega arith)))))
    (cases_lt k first)))
    (cases_eq k page))

-- a page is counted more or less often
pub owners-page_counted : (kernel : Kernel) (n count : ℕ) → n < length kernel.page_entries → KeepsOwners kernel (page_counted kernel n count)
unfolding page_owner_of
owners-page_counted kernel n count inside =
    fun_ext (λ page. ap (λ (owner : Option PageOwner). if nat_lt page (first_page kernel.size) then None else owner)
    (set_cases (λ e. owner_in e ≡ owner_in (entry_at kernel.page_entries (page - first_page kernel.size)))
    kernel.page_entries n (page - first_page kernel.size) (with_count (entry_at kernel.page_entries n) count) inside
    (λ same. counted-owner (entry_at kernel.page_entries n) count ∙ ap (λ k. owner_in (entry_at kernel.page_entries k)) same)
    (λ other. refl)))

-- a page is given back
pub owners-page_given : (kernel : Kernel) (page : ℕ) → first_page kernel.size ≤ page → page - first_page kernel.size < length kernel.page_entries
    → page_owners (page_given kernel (page - first_page kernel.size)) ≡ with_at (page_owners kernel) page None
owners-page_given kernel page low inside = owners-set (first_page kernel.size) kernel.page_entries page (Free kernel.machine.free_page) low inside

-- ---- what calls leave

-- the same entries have the same owners
pub same-owners : (old new : Kernel) → new.page_entries ≡ old.page_entries → new.size ≡ old.size → KeepsOwners old new
same-owners old new entries size = ap₂ (λ (all : List (Entry PageOwner)) n. page_owner_of (first_page n) all) entries size

pub keeps-leaves : (old new : Kernel) → KeepsOwners old new → LeavesOwners old new
keeps-leaves old new same page owner has = ap (λ (owners : ℕ → Option PageOwner). at owners page) (sym same) ∙ has

pub leaves-leaves : (old between new : Kernel) → LeavesOwners old between → LeavesOwners between new → LeavesOwners old new
leaves-leaves old between new one two page owner has = one page owner (two page owner has)

-- a page is nobody's now
pub gone-leaves : (old new : Kernel) (page : ℕ) → page_owners new ≡ with_at (page_owners old) page None → LeavesOwners old new
gone-leaves old new page now other owner has =
    let there : at (with_at (page_owners old) page None) other ≡ Some owner = ap (λ (owners : ℕ → Option PageOwner). at owners other) (sym now) ∙ has in
    ⊎_elim
    (λ (t : other ≡ page).
    let no : None ≡ Some owner = sym (at-with_at (page_owners old) page None) ∙ ap (at (with_at (page_owners old) page None)) (sym t) ∙ there in cc)
    (λ (d : other ≢ page). sym (at-with_at-other (page_owners old) page other None d) ∙ there)
    (cases_eq other page)

-- a page that was nobody's is taken
pub taken-takes : (by : PageOwner) (old new : Kernel) (page : ℕ) → page_owners new ≡ with_at (page_owners old) page (Some by) → at (page_owners old) page ≡ None
    → TakesFor by old new
taken-takes by old new page now free other =
    let there : at (page_owners new) other ≡ at (with_at (page_owners old) page (Some by)) other = ap (λ (owners : ℕ → Option PageOwner). at owners other) now in
    ⊎_elim
    (λ (t : other ≡ page).
    inr (ap (at (page_owners old)) t ∙ free, there ∙ ap (at (with_at (page_owners old) page (Some by))) t ∙ at-with_at (page_owners old) page (Some by)))
    (λ (d : other ≢ page). inl (there ∙ at-with_at-other (page_owners old) page other (Some by) d))
    (cases_eq other page)

pub keeps-takes : (by : PageOwner) (old new : Kernel) → KeepsOwners old new → TakesFor by old new
keeps-takes by old new same page = inl (ap (λ (owners : ℕ → Option PageOwner). at owners page) same)

takes-joined : (by : PageOwner) (a b c : Option PageOwner) → (b ≡ a) ⊎ ((a ≡ None) × (b ≡ Some by)) → (c ≡ b) ⊎ ((b ≡ None) × (c ≡ Some by))
    → (c ≡ a) ⊎ ((a ≡ None) × (c ≡ Some by))
takes-joined by a b c (inl one) (inl two) = inl (two ∙ one)
takes-joined by a b c (inl one) (inr two) = inr (sym one ∙ two.0, two.1)
takes-joined by a b c (inr one) (inl two) = inr (one.0, two ∙ one.1)
takes-joined by a b c (inr one) (inr two) = let no : None ≡ Some by = sym two.0 ∙ one.1 in cc

pub takes-takes : (by : PageOwner) (old between new : Kernel) → TakesFor by old between → TakesFor by between new → TakesFor by old new
takes-takes by old between new one two page = takes-joined by (at (page_owners old) page) (at (page_owners between) page) (at (page_owners new) page) (one page) (two page)

pub takes-keeps : (by : PageOwner) (old between new : Kernel) → TakesFor by old between → KeepsOwners between new → TakesFor by old new
takes-keeps by old between new one two = takes-takes by old between new one (keeps-takes by between new two)

pub keeps-then-takes : (by : PageOwner) (old between new : Kernel) → KeepsOwners old between → TakesFor by between new → TakesFor by old new
keeps-then-takes by old between new one two = takes-takes by old between new (keeps-takes by old between one) two

-- whoever owned a page owns it still
pub takes-owned : (by : PageOwner) (old new : Kernel) (page : ℕ) (owner : PageOwner) → TakesFor by old new → at (page_owners old) page ≡ Some owner
    → at (page_owners new) page ≡ Some owner
takes-owned by old new page owner takes owned = ⊎_elim
    (λ (same : at (page_owners new) page ≡ at (page_owners old) page). same ∙ owned)
    (λ (fresh : (at (page_owners old) page ≡ None) × (at (page_owners new) page ≡ Some by)). let no : None ≡ Some owner = sym fresh.0 ∙ owned in cc)
    (takes page)

-- ---- the pages of a map

pub pages-kept : (whose : PageOwner) (old new : Kernel) (was now : ℕ → Option Mapping) → now ≡ was → KeepsOwners old new
    → PagesAreOf whose (page_owners old) was → PagesAreOf whose (page_owners new) now
pages-kept whose old new was now map same are page mapping mapped real =
    ap (λ (owners : ℕ → Option PageOwner). at owners mapping.page) same
    ∙ are page mapping (ap (λ (m : ℕ → Option Mapping). at m page) (sym map) ∙ mapped) real

pub pages-taken : (whose by : PageOwner) (old new : Kernel) (was now : ℕ → Option Mapping) → now ≡ was → TakesFor by old new
    → PagesAreOf whose (page_owners old) was → PagesAreOf whose (page_owners new) now
pages-taken whose by old new was now map takes are page mapping mapped real =
    takes-owned by old new mapping.page whose takes (are page mapping (ap (λ (m : ℕ → Option Mapping). at m page) (sym map) ∙ mapped) real)

left-as : (whose : PageOwner) (was now : Option PageOwner) → IsSome now → ((owner : PageOwner) → now ≡ Some owner → was ≡ Some owner) → was ≡ Some whose
    → now ≡ Some whose
left-as whose was None some leaves mine = cc
left-as whose was (Some owner) some leaves mine = sym (leaves owner refl) ∙ mine

-- where each page of the map is somebody's still
pub pages-left : (whose : PageOwner) (old new : Kernel) (was now : ℕ → Option Mapping) → now ≡ was → LeavesOwners old new
    → ((page : ℕ) (mapping : Mapping) → at now page ≡ Some mapping → mapping.page ≢ 0 → IsSome (at (page_owners new) mapping.page))
    → PagesAreOf whose (page_owners old) was → PagesAreOf whose (page_owners new) now
pages-left whose old new was now map leaves some are page mapping mapped real =
    left-as whose (at (page_owners old) mapping.page) (at (page_owners new) mapping.page) (some page mapping mapped real)
    (λ owner has. leaves mapping.page owner has)
    (are page mapping (ap (λ (m : ℕ → Option Mapping). at m page) (sym map) ∙ mapped) real)
