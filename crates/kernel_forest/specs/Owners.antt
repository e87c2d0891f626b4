-- Who owns each page that is taken, for a tree or for something else; and what calls leave of that.
use Rattle.std.specs.Prelude.{◌⊎◌, ◌≡◌, ◌≢◌, ℕ, ◌-◌, nat_lt, if◌then◌else◌, Option, Some, None, List}
use Rattle.kernel_tables.specs.declared.entry.Entry.{Entry}
use Rattle.kernel_tables.specs.declared.entry.Entry.TheVariants.{Free, Taken, Fixed, Unspelled}
use Rattle.kernel_tables.specs.declared.entry.PageOwner.{PageOwner}
use Rattle.kernel_tables.specs.Kernel.{Kernel, first_page}
use Rattle.kernel_tables.specs.Rows.{entry_at}
use Rattle.unix_model.specs.Tables.{at}
use Rattle.forest.specs.Walks.{Mapping}

-- who owns an object
abbrev pub owner_in : {O : Type 0} → Entry O → Option O
owner_in (Free next) = None
owner_in (Taken owner count) = Some owner
owner_in Fixed = None
owner_in Unspelled = None

unfoldable pub page_owner_of : ℕ → List (Entry PageOwner) → ℕ → Option PageOwner
page_owner_of first entries = λ page. if nat_lt page first then None else owner_in (entry_at entries (page - first))

-- who owns each page
abbrev pub page_owners : Kernel → ℕ → Option PageOwner
page_owners kernel = page_owner_of (first_page kernel.size) kernel.page_entries

-- each page has the owner that it had, ..
abbrev pub KeepsOwners : Kernel → Kernel → Type 0
KeepsOwners old new = page_owners new ≡ page_owners old

-- .. or was given back, ..
abbrev pub LeavesOwners : Kernel → Kernel → Type 0
LeavesOwners old new = (page : ℕ) (owner : PageOwner) → at (page_owners new) page ≡ Some owner → at (page_owners old) page ≡ Some owner

-- .. or was nobody's and is this one's
abbrev pub TakesFor : PageOwner → Kernel → Kernel → Type 0
TakesFor owner old new =
    (page : ℕ)
    → (at (page_owners new) page ≡ at (page_owners old) page) ⊎ ((at (page_owners old) page ≡ None) × (at (page_owners new) page ≡ Some owner))

-- Every page of a map belongs to one owner. The page of zeros is nobody's.
abbrev pub PagesAreOf : PageOwner → (ℕ → Option PageOwner) → (ℕ → Option Mapping) → Type 0
PagesAreOf whose owners map = (page : ℕ) (mapping : Mapping) → at map page ≡ Some mapping → mapping.page ≢ 0 → at owners mapping.page ≡ Some whose
