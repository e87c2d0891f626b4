-- The pages of a program that is to be loaded into a space.
use Rattle.std.specs.Prelude.{◌≡◌, ◌<◌, ◌≤◌, ◌+◌, ◌*◌, ℕ, true, Option, Some, None, List, [], if◌then◌else◌, nat_lt}
use Rattle.kernel_tables.specs.Kernel.{Kernel}
use Rattle.kernel_tables.specs.Rows.{KeepsRows}
use Rattle.space_bank.specs.Shares.{Outside}
use Rattle.unix_model.specs.declared.elf.Load.{Load}
use Rattle.unix_model.specs.Elf.{load_end}
use Rattle.unix_model.specs.Loading.{page_mapped}
use Rattle.unix_model.specs.Tables.{count_below}
use Rattle.forest.specs.Walks.{Mapping, map_of}
use Rattle.forest.specs.Forest.{IsSpace, NoneEmpty}
use Rattle.forest.specs.Changes.{KeepsRoot}
use Rattle.forest.specs.Calls.{KeepsOthers}
use Rattle.kernel_forest.specs.Trees.{forest_of, outside_trees, TreesGood}
use Rattle.kernel_forest.specs.Apart.{KeepsApart, KeepsInside}
use Rattle.kernel_forest.specs.Owners.{KeepsOwners}
use Rattle.kernel_forest.specs.Moves.{KeepsRest}
use Rattle.seg_tree.specs.Ways.{HasOwnWay}

-- a load that lies below the stack
pub record IsLow (load : Load) : Type 0 where
  pub low : load_end load ≤ 0x7FFE_0000

-- the map of a program whose bytes are still to come: each page that is needed is the page of zeros, and may be written
abbrev pub plan_map : List Load → ℕ → Option Mapping
plan_map loads page = if page_mapped loads page then Some (record { writable = true; page = 0 }) else None

-- the part of it that is below a page
unfoldable pub plan_map_below : List Load → ℕ → ℕ → Option Mapping
plan_map_below loads limit page = if nat_lt page limit then plan_map loads page else None

-- the way to each page below a page number that a program needs is the space's own
abbrev pub AreWaysOwn : Kernel → (space : ℕ) → List Load → (limit : ℕ) → Type 0
AreWaysOwn kernel space loads limit = (page : ℕ) → page < limit → page_mapped loads page ≡ true → HasOwnWay kernel space page

-- The pages of a program below a page were mapped in a space in which nothing was, on ways that are the space's own.
pub record MapsPlan (old new : Kernel) (space : ℕ) (loads : List Load) (limit : ℕ) : Type 0 where
  pub trees : (outside : Outside) → TreesGood old outside [] → TreesGood new outside []
  pub stays : IsSpace (forest_of new) [] space
  pub here : map_of (forest_of new).keys space ≡ plan_map_below loads limit
  pub ways : AreWaysOwn new space loads limit
  pub others : KeepsOthers (forest_of old) (forest_of new) space
  pub roots : (other : ℕ) → IsSpace (forest_of new) [] other → KeepsRoot (forest_of old) (forest_of new) [] other
  pub filled : NoneEmpty (forest_of old).keys → NoneEmpty (forest_of new).keys
  pub outside_now : (outside : Outside) → outside_trees new outside ≡ outside_trees old outside
  pub rows_now : KeepsRows old new
  pub apart_now : KeepsApart old new
  pub owners_now : KeepsOwners old new
  pub inside : (outside : Outside) → KeepsInside old new outside
  pub rest : KeepsRest old new
  pub most : new.machine.nodes_taken ≤ old.machine.nodes_taken + 4 * count_below (page_mapped loads) limit
