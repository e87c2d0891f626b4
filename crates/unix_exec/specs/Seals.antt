-- Pages of a program become read-only: those that none of its loads makes writable.
use Rattle.std.specs.Prelude.{◌≡◌, ℕ, Bool, true, false, not, ◌&&◌, Option, option_map, IsSome, List, [], if◌then◌else◌, nat_lt}
use Rattle.kernel_tables.specs.Kernel.{Kernel}
use Rattle.kernel_tables.specs.Rows.{KeepsRows}
use Rattle.space_bank.specs.Shares.{Outside}
use Rattle.unix_model.specs.declared.elf.Load.{Load}
use Rattle.unix_model.specs.Loading.{page_mapped, page_writable}
use Rattle.forest.specs.Walks.{Mapping, map_of}
use Rattle.forest.specs.Forest.{IsSpace, NoneEmpty}
use Rattle.forest.specs.Changes.{KeepsRoot}
use Rattle.forest.specs.Calls.{KeepsOthers}
use Rattle.kernel_forest.specs.Trees.{forest_of, outside_trees, TreesGood}
use Rattle.kernel_forest.specs.Apart.{KeepsApart, KeepsInside}
use Rattle.kernel_forest.specs.Owners.{KeepsOwners}
use Rattle.kernel_forest.specs.Moves.{KeepsRest}
use Rattle.seg_tree.specs.Ways.{HasOwnWay}

-- a page of a program is read-only where none of its loads makes it writable, and it isn't of the stack
abbrev pub page_sealed : List Load → ℕ → Bool
page_sealed loads page = page_mapped loads page && not (page_writable loads page)

abbrev pub read_only : Mapping → Mapping
read_only found = record found { writable = false }

-- a map whose pages below a page number, where they are to be read-only, are
unfoldable pub sealed_below : List Load → ℕ → (ℕ → Option Mapping) → ℕ → Option Mapping
sealed_below loads limit map page = if nat_lt page limit && page_sealed loads page then option_map read_only (map page) else map page

-- Pages of a program below a page number were made read-only, in a space in which the ways to them were its own, and still are. No
-- node and no page was taken or given back, and each page has the bytes that it had.
pub record SealsPlan (old new : Kernel) (space : ℕ) (loads : List Load) (limit : ℕ) : Type 0 where
  pub trees : (outside : Outside) → TreesGood old outside [] → TreesGood new outside []
  pub stays : IsSpace (forest_of new) [] space
  pub here : map_of (forest_of new).keys space ≡ sealed_below loads limit (map_of (forest_of old).keys space)
  pub ways : (page : ℕ) → HasOwnWay old space page → HasOwnWay new space page
  pub others : KeepsOthers (forest_of old) (forest_of new) space
  pub roots : (other : ℕ) → IsSpace (forest_of new) [] other → KeepsRoot (forest_of old) (forest_of new) [] other
  pub filled : NoneEmpty (forest_of old).keys → NoneEmpty (forest_of new).keys
  pub outside_now : (outside : Outside) → outside_trees new outside ≡ outside_trees old outside
  pub rows_now : KeepsRows old new
  pub apart_now : KeepsApart old new
  pub owners_now : KeepsOwners old new
  pub inside : (outside : Outside) → KeepsInside old new outside
  pub rest : KeepsRest old new
  pub nodes : new.machine.nodes_taken ≡ old.machine.nodes_taken

-- the pages that a program needs are mapped
abbrev pub AreNeededMapped : (ℕ → Option Mapping) → List Load → Type 0
AreNeededMapped map loads = (page : ℕ) → page_mapped loads page ≡ true → IsSome (map page)
