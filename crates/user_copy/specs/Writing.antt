-- Bytes are put into a space: its memory changes as flat memory does, and every other space's memory is as before.
use Rattle.std.specs.Prelude.{◌⊎◌, ◌≡◌, ◌≢◌, ◌<◌, ◌≤◌, ◌+◌, ◌*◌, ◌/◌, ◌%◌, ◌==◌, ◌↔◌, if◌then◌else◌, ℕ, zero, suc, Option, Some, None, IsSome, List, [], length}
use Rattle.kernel_tables.specs.declared.entry.PageOwner.{PageOwner}
use Rattle.kernel_tables.specs.declared.entry.PageOwner.TheVariants.{Memory, File}
use Rattle.kernel_tables.specs.Kernel.{Kernel, IsBankPage, bank_page}
use Rattle.kernel_tables.specs.Rows.{KeepsRows}
use Rattle.space_bank.specs.Shares.{Outside}
use Rattle.unix_model.specs.Memory.{with_bytes}
use Rattle.unix_model.specs.Numbers.{pages_of}
use Rattle.unix_model.specs.Tables.{with_at}
use Rattle.forest.specs.Objects.{NodeObject, Owner, OfProcess, OfFile}
use Rattle.forest.specs.Walks.{Mapping, map_of}
use Rattle.forest.specs.Forest.{Forest, IsSpace, NoneEmpty}
use Rattle.forest.specs.Changes.{KeepsRoot}
use Rattle.forest.specs.Calls.{IsOwn}
use Rattle.kernel_forest.specs.Trees.{forest_of, outside_trees, TreesGood}
use Rattle.kernel_forest.specs.Apart.{KeepsApart, KeepsInside}
use Rattle.kernel_forest.specs.Owners.{page_owners, PagesAreOf, TakesFor}
use Rattle.kernel_forest.specs.Releases.{KeepsUnreleased}
use Rattle.user_copy.specs.SpaceMemory.{space_memory}
use Rattle.seg_tree.specs.Writes.{writable_mapping}
use Rattle.seg_tree.specs.Ways.{HasOwnWay, KeepsWays}

-- A page of a space was made its own, and may have become another page of the store. Spaces are the same, and keep their roots.
pub record MakesOwn (old new : Forest) (space page result : ℕ) : Type 0 where
  pub spaces : (other : ℕ) → IsSpace old [] other ↔ IsSpace new [] other
  pub roots : (other : ℕ) → IsSpace new [] other → KeepsRoot old new [] other
  pub here : map_of new.keys space ≡ with_at (map_of old.keys space) page (Some (writable_mapping result))
  pub others : (other : ℕ) → IsSpace old [] other → other ≢ space → map_of new.keys other ≡ map_of old.keys other
  pub own : IsOwn new space page (writable_mapping result)

-- A page that may be written is own once the pages before it, from a first one on, are: this space alone reaches it, and at
-- these page numbers alone.
pub record IsOwnInTurn (forest : Forest) (space first page : ℕ) (found : Mapping) : Type 0 where
  pub mapped : map_of forest.keys space page ≡ Some found
  pub real : found.page ≢ 0
  pub alone : (other number : ℕ) (other_found : Mapping) → IsSpace forest [] other → map_of forest.keys other number ≡ Some other_found
      → other_found.page ≡ found.page → (other ≡ space) × (first ≤ number) × (number ≤ page)

-- A page is one that isn't own when it is come to, or is own then: so many of the pages so far aren't own.
pub data CountsPage (forest : Forest) (space first page before taken : ℕ) : Type 0 where
  is_own : (found : Mapping) → IsOwnInTurn forest space first page found → taken ≡ before → CountsPage forest space first page before taken
  is_other : (found : Mapping) → map_of forest.keys space page ≡ Some found → (IsOwnInTurn forest space first page found → ⊥) → taken ≡ before + 1
      → CountsPage forest space first page before taken

-- Of so many pages, from a first one on, so many aren't own when they are come to in order.
unfoldable pub NotOwn : Forest → (space first count taken : ℕ) → Type 0
NotOwn forest space first zero taken = taken ≡ 0
NotOwn forest space first (suc count) taken = (before : ℕ) × NotOwn forest space first count before × CountsPage forest space first (first + count) before taken

-- how many pages a range touches
abbrev pub pages_touched : ℕ → ℕ → ℕ
pages_touched at count = if count == 0 then 0 else pages_of (at % 4096 + count)

-- a page is one of those that a range touches
abbrev pub IsTouched : ℕ → ℕ → ℕ → Type 0
IsTouched at count page = (0 < count) × (at / 4096 ≤ page) × (4096 * page < at + count)

-- the owner of pages that are taken for a space, where nobody says another one
abbrev pub pages_for : Option Owner → PageOwner
pages_for None = Memory
pages_for (Some OfProcess) = Memory
pages_for (Some OfFile) = File

abbrev pub owner_for : Kernel → ℕ → PageOwner
owner_for kernel space = pages_for ((forest_of kernel).owner (NodeObject space))

-- Bytes that lie in one page of a space were put. If a page was taken for them, it is this owner's.
pub record PutsPiece (old new : Kernel) (space at : ℕ) (bytes : List ℕ) (owner : PageOwner) : Type 0 where
  pub result : ℕ
  pub found : Mapping
  pub mapped : map_of (forest_of old).keys space (at / 4096) ≡ Some found
  pub owns : MakesOwn (forest_of old) (forest_of new) space (at / 4096) result
  pub trees : (outside : Outside) → TreesGood old outside [] → TreesGood new outside []
  pub here : space_memory new space ≡ with_bytes (space_memory old space) at bytes
  pub others : (other : ℕ) → IsSpace (forest_of old) [] other → other ≢ space → space_memory new other ≡ space_memory old other
  pub filled : NoneEmpty (forest_of old).keys → NoneEmpty (forest_of new).keys
  pub outside_now : (outside : Outside) → outside_trees new outside ≡ outside_trees old outside
  pub rows_now : KeepsRows old new
  pub apart_now : KeepsApart old new
  pub owners_now : TakesFor owner old new
  pub owned : PagesAreOf owner (page_owners old) (map_of (forest_of old).keys space) → PagesAreOf owner (page_owners new) (map_of (forest_of new).keys space)
  pub inside : (outside : Outside) → TreesGood old outside [] → KeepsInside old new outside
  pub rest : KeepsUnreleased old new
  pub pages : (number : ℕ) → IsBankPage old.size number → number ≢ result → bank_page new number ≡ bank_page old number
  pub told : IsOwn (forest_of old) space (at / 4096) found ⊎ (IsOwn (forest_of old) space (at / 4096) found → ⊥)
  pub kept : IsOwn (forest_of old) space (at / 4096) found → new.machine.pages_taken ≡ old.machine.pages_taken
  pub copied : (IsOwn (forest_of old) space (at / 4096) found → ⊥) → new.machine.pages_taken ≡ old.machine.pages_taken + 1
  pub ways : KeepsWays old new
  pub most : new.machine.nodes_taken ≤ old.machine.nodes_taken + 4
  pub none : HasOwnWay old space (at / 4096) → new.machine.nodes_taken ≡ old.machine.nodes_taken

-- Bytes were put into a space, from an address on. The pages that they touch are own now, all other pages of the store have the
-- bytes that they had, and all the owners; what is mapped in the space is so still, and each way in any space that was its own.
-- Spaces are the same, and keep their roots, and whatever belongs to no tree is as it was. No node was taken where the ways to all
-- of these pages were the space's own.
pub record PutsBytes (old new : Kernel) (space at : ℕ) (bytes : List ℕ) : Type 0 where
  pub trees : (outside : Outside) → TreesGood old outside [] → TreesGood new outside []
  pub spaces : (other : ℕ) → IsSpace (forest_of old) [] other ↔ IsSpace (forest_of new) [] other
  pub roots : (other : ℕ) → IsSpace (forest_of new) [] other → KeepsRoot (forest_of old) (forest_of new) [] other
  pub here : space_memory new space ≡ with_bytes (space_memory old space) at bytes
  pub others : (other : ℕ) → IsSpace (forest_of old) [] other → other ≢ space → space_memory new other ≡ space_memory old other
  pub maps : (other : ℕ) → IsSpace (forest_of old) [] other → other ≢ space → map_of (forest_of new).keys other ≡ map_of (forest_of old).keys other
  pub own : (page : ℕ) → IsTouched at (length bytes) page → (result : ℕ) × IsOwn (forest_of new) space page (writable_mapping result)
  pub filled : NoneEmpty (forest_of old).keys → NoneEmpty (forest_of new).keys
  pub outside_now : (outside : Outside) → outside_trees new outside ≡ outside_trees old outside
  pub rows_now : KeepsRows old new
  pub apart_now : KeepsApart old new
  pub owners_now : TakesFor (owner_for old space) old new
  pub owned : PagesAreOf (owner_for old space) (page_owners old) (map_of (forest_of old).keys space)
      → PagesAreOf (owner_for old space) (page_owners new) (map_of (forest_of new).keys space)
  pub inside : (outside : Outside) → TreesGood old outside [] → KeepsInside old new outside
  pub rest : KeepsUnreleased old new
  pub pages : (number : ℕ) → IsBankPage old.size number
      → ((page : ℕ) (found : Mapping) → IsTouched at (length bytes) page → map_of (forest_of new).keys space page ≡ Some found → found.page ≢ number)
      → bank_page new number ≡ bank_page old number
  pub counted : (taken : ℕ) × NotOwn (forest_of old) space (at / 4096) (pages_touched at (length bytes)) taken
  pub taken : (taken : ℕ) → NotOwn (forest_of old) space (at / 4096) (pages_touched at (length bytes)) taken
      → new.machine.pages_taken ≡ old.machine.pages_taken + taken
  pub mapped : (page : ℕ) → IsSome (map_of (forest_of old).keys space page) → IsSome (map_of (forest_of new).keys space page)
  pub ways : KeepsWays old new
  pub most : new.machine.nodes_taken ≤ old.machine.nodes_taken + 8
  pub none : ((page : ℕ) → IsTouched at (length bytes) page → HasOwnWay old space page) → new.machine.nodes_taken ≡ old.machine.nodes_taken
