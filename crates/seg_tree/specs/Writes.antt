-- A page that may be written at a page number of a space is made its own.
use Rattle.std.specs.Prelude.{◌⊎◌, ◌≡◌, ◌≢◌, ◌≤◌, ◌+◌, ◌-◌, ◌↔◌, ℕ, Bool, true, false, Option, Some, None, List, [], ◌∷◌}
use Rattle.kn_base.specs.declared.key.Key.{Key}
use Rattle.kn_base.specs.declared.key.Key.TheVariants.{Page}
use Rattle.kernel_tables.specs.declared.entry.PageOwner.{PageOwner}
use Rattle.kernel_tables.specs.Kernel.{Kernel, IsBankPage, bank_page, memory_page, first_page}
use Rattle.kernel_tables.specs.Rows.{KeepsRows, entry_at}
use Rattle.space_bank.specs.FreeList.{is_free}
use Rattle.space_bank.specs.Shares.{Outside, Shares}
use Rattle.unix_model.specs.Tables.{at, with_at}
use Rattle.forest.specs.Objects.{PageObject, Owner}
use Rattle.forest.specs.Walks.{Mapping, map_of}
use Rattle.forest.specs.Forest.{Forest, IsSpace, NoneEmpty}
use Rattle.forest.specs.Changes.{with_taken, with_key, lowered, IsFree}
use Rattle.forest.specs.Calls.{ChangesMap, IsOwn}
use Rattle.kernel_forest.specs.Apart.{KeepsApart, KeepsInside}
use Rattle.kernel_forest.specs.Owners.{page_owners, TakesFor}
use Rattle.kernel_forest.specs.Trees.{forest_of, outside_trees, page_tree, AreTreeKeys, TreesGood}
use Rattle.kernel_forest.specs.Releases.{KeepsUnreleased}
use Rattle.seg_tree.specs.Ways.{HasOwnWay, KeepsWays}

-- whether what is mapped may be written
abbrev pub may_write : Option Mapping → Bool
may_write None = false
may_write (Some found) = found.writable

-- a page of the bank that isn't free
pub record IsInUse (kernel : Kernel) (page : ℕ) : Type 0 where
  pub inside : IsBankPage kernel.size page
  pub used : is_free (entry_at kernel.page_entries (page - first_page kernel.size)) ≡ false

-- the key of a page that may be written, and what it maps
abbrev pub page_key : ℕ → Key
page_key page = Page (record { 0 = page }) true

abbrev pub writable_mapping : ℕ → Mapping
writable_mapping page = record { writable = true; page = page }

-- A page was taken by an owner for a tree and has the bytes of another one, or of page 0. The forest is another one now.
pub record TakesCopy (old new : Kernel) (forest : Forest) (found fresh : ℕ) (by : PageOwner) : Type 0 where
  pub inside : IsBankPage old.size fresh
  pub forest_now : forest_of new ≡ forest
  pub outside_now : (outside : Outside) → outside_trees new outside ≡ outside_trees old outside
  pub rows_now : KeepsRows old new
  pub apart_now : KeepsApart old new
  pub owners_now : page_owners new ≡ with_at (page_owners old) fresh (Some by)
  pub rest : KeepsUnreleased old new
  pub nodes : new.machine.nodes_taken ≡ old.machine.nodes_taken
  pub pages : new.machine.pages_taken ≡ old.machine.pages_taken + 1
  pub content : bank_page new fresh ≡ memory_page old found
  pub bytes : (number : ℕ) → IsBankPage old.size number → number ≢ fresh → bank_page new number ≡ bank_page old number
  pub unowned : (forest_of old).owner (PageObject fresh) ≡ None
  pub free : (outside : Outside) (hand : List Key) → AreTreeKeys hand → Shares old outside hand
      → IsFree (forest_of old) (outside_trees old outside) hand (PageObject fresh)

-- The key of such a page is in hand, ..
pub record CopiesPage (old new : Kernel) (found fresh : ℕ) (by : PageOwner) (to : Owner) : Type 0 where
  pub takes : TakesCopy old new (with_taken (forest_of old) (PageObject fresh) to) found fresh by
  pub shares : (outside : Outside) (hand : List Key) → Shares old outside hand → Shares new outside (page_key fresh ∷ hand)

-- .. and stands in place of the page, which is counted once less.
abbrev pub leaf_copied : Forest → ℕ → ℕ → Owner → Forest
leaf_copied forest place fresh to = lowered (with_key (with_taken forest (PageObject fresh) to) place (page_key fresh)) (at forest.keys place)

pub record CopiesLeaf (old new : Kernel) (place found fresh : ℕ) (by : PageOwner) (to : Owner) : Type 0 where
  pub takes : TakesCopy old new (leaf_copied (forest_of old) place fresh to) found fresh by
  pub shares : (outside : Outside) (hand : List Key) → Shares old outside hand → Shares new outside hand

-- One page was taken by the owner for a tree, which was free, so that nothing named it, and none was given back.
pub record TakesOne (old new : Kernel) (page : ℕ) (owner : PageOwner) : Type 0 where
  pub was_free : is_free (entry_at old.page_entries (page - first_page old.size)) ≡ true
  pub unowned : (forest_of old).owner (PageObject page) ≡ None
  pub unnamed : (outside : Outside) → TreesGood old outside [] → outside_trees old outside (PageObject page) ≡ 0
  pub owned : (forest_of new).owner (PageObject page) ≡ page_tree owner
  pub owners_now : page_owners new ≡ with_at (page_owners old) page (Some owner)
  pub number : new.machine.pages_taken ≡ old.machine.pages_taken + 1

-- A page that may be written at a page number of a space was made its own: `result` is mapped there, with the bytes of the page
-- before, and no other space and no other page number reaches it. Nothing has changed where the page was own, and else one page
-- was taken for the owner. All other pages have the bytes and the owners that they had, and whatever belongs to no tree is as it
-- was. Each way in any space that was its own is so still, and no node was taken where the way to the page was.
pub record Owns (old new : Kernel) (space page result : ℕ) (owner : PageOwner) : Type 0 where
  pub found : Mapping
  pub mapped : map_of (forest_of old).keys space page ≡ Some found
  pub writable : found.writable ≡ true
  pub changes : (outside : Outside) → TreesGood old outside [] → TreesGood new outside []
      × ChangesMap (forest_of old) (forest_of new) space (with_at (map_of (forest_of old).keys space) page (Some (writable_mapping result)))
  pub spaces : (other : ℕ) → IsSpace (forest_of old) [] other ↔ IsSpace (forest_of new) [] other
  pub own : IsOwn (forest_of new) space page (writable_mapping result)
  pub in_use : IsInUse new result
  pub content : bank_page new result ≡ memory_page old found.page
  pub bytes : (number : ℕ) → IsBankPage old.size number → number ≢ result → bank_page new number ≡ bank_page old number
  pub filled : NoneEmpty (forest_of old).keys → NoneEmpty (forest_of new).keys
  pub outside_now : (outside : Outside) → outside_trees new outside ≡ outside_trees old outside
  pub rows_now : KeepsRows old new
  pub apart_now : KeepsApart old new
  pub owners_now : TakesFor owner old new
  pub inside : (outside : Outside) → TreesGood old outside [] → KeepsInside old new outside
  pub rest : KeepsUnreleased old new
  pub told : IsOwn (forest_of old) space page found ⊎ (IsOwn (forest_of old) space page found → ⊥)
  pub kept : IsOwn (forest_of old) space page found → (result ≡ found.page) × (new ≡ old)
  pub copied : (IsOwn (forest_of old) space page found → ⊥) → TakesOne old new result owner
  pub ways : KeepsWays old new
  pub most : new.machine.nodes_taken ≤ old.machine.nodes_taken + 4
  pub none : HasOwnWay old space page → new.machine.nodes_taken ≡ old.machine.nodes_taken
