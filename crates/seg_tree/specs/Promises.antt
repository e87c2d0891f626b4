-- What calls on spaces promise, in the words of the tables. Each keeps what holds of trees, whatever is outside. And each
-- leaves whatever belongs to no tree as it is, each page to its owner, and pages of trees to keys of trees.
use Rattle.std.specs.Prelude.{◌≡◌, ◌≤◌, ◌+◌, ◌↔◌, ℕ, Option, Some, None, IsSome, []}
use Rattle.kn_base.specs.declared.key.Key.{Key}
use Rattle.kernel_tables.specs.Kernel.{Kernel, IsBankPage, bank_page}
use Rattle.kernel_tables.specs.Rows.{KeepsRows}
use Rattle.space_bank.specs.Shares.{Outside}
use Rattle.space_bank.specs.Laws.{and_outside}
use Rattle.forest.specs.Objects.{Object, PageObject, NodeObject, Owner}
use Rattle.forest.specs.Walks.{Mapping, place_of, space_key}
use Rattle.forest.specs.Forest.{NoneEmpty, namings}
use Rattle.forest.specs.Calls.{ChangesMap, AddsSpace, DropsSpace}
use Rattle.unix_model.specs.Tables.{at}
use Rattle.kernel_forest.specs.Apart.{KeepsApart, KeepsInside}
use Rattle.kernel_forest.specs.Owners.{KeepsOwners, LeavesOwners}
use Rattle.kernel_forest.specs.Trees.{forest_of, outside_trees, TreesGood}
use Rattle.kernel_forest.specs.Moves.{KeepsRest}
use Rattle.kernel_forest.specs.Releases.{KeepsUnreleased, KeepsBytes}
use Rattle.seg_tree.specs.declared.walk.Found.{Found}
use Rattle.seg_tree.specs.Ways.{KeepsWays, KeepsOtherWays}

-- The map of a space has changed, and that of no other one. What names trees from outside, and the keys of all other nodes,
-- are as before, and at most so many nodes were taken. No node below a root is empty where none was, and each way in any space
-- that was its own is so still.
pub record Remaps (old new : Kernel) (space few : ℕ) (map : ℕ → Option Mapping) : Type 0 where
  pub changes : (outside : Outside) → TreesGood old outside [] → TreesGood new outside [] × ChangesMap (forest_of old) (forest_of new) space map
  pub filled : NoneEmpty (forest_of old).keys → NoneEmpty (forest_of new).keys
  pub ways : KeepsWays old new
  pub outside_now : (outside : Outside) → outside_trees new outside ≡ outside_trees old outside
  pub rows_now : KeepsRows old new
  pub apart_now : KeepsApart old new
  pub owners_now : KeepsOwners old new
  pub inside : (outside : Outside) → KeepsInside old new outside
  pub rest : KeepsRest old new
  pub most : new.machine.nodes_taken ≤ old.machine.nodes_taken + few

-- Likewise where a page may have been given back: each page that wasn't has the bytes that it had.
pub record Replaces (old new : Kernel) (space few : ℕ) (map : ℕ → Option Mapping) : Type 0 where
  pub changes : (outside : Outside) → TreesGood old outside [] → TreesGood new outside [] × ChangesMap (forest_of old) (forest_of new) space map
  pub filled : NoneEmpty (forest_of old).keys → NoneEmpty (forest_of new).keys
  pub outside_now : (outside : Outside) → outside_trees new outside ≡ outside_trees old outside
  pub rows_now : KeepsRows old new
  pub apart_now : KeepsApart old new
  pub owners_now : LeavesOwners old new
  pub inside : (outside : Outside) → KeepsInside old new outside
  pub rest : KeepsUnreleased old new
  pub bytes : (number : ℕ) → IsBankPage old.size number
      → (IsSome ((forest_of old).owner (PageObject number)) → IsSome ((forest_of new).owner (PageObject number)))
      → bank_page new number ≡ bank_page old number
  pub most : new.machine.nodes_taken ≤ old.machine.nodes_taken + few

-- A space was added, of this owner, with this map and with this key for its keeper. Nothing named its root before, and its one key
-- is outside.
pub record Adds (old new : Kernel) (space : ℕ) (owner : Option Owner) (keeper : Key) (map : ℕ → Option Mapping) : Type 0 where
  pub adds : (outside : Outside) → TreesGood old outside [] → TreesGood new (and_outside outside (space_key space)) [] × AddsSpace (forest_of old) (forest_of new) space map
  pub owned : (forest_of new).owner (NodeObject space) ≡ owner
  pub its_keeper : at (forest_of new).keys (place_of space 15) ≡ keeper
  pub filled : NoneEmpty (forest_of old).keys → NoneEmpty (forest_of new).keys
  pub unnamed : (outside : Outside) → TreesGood old outside [] → outside_trees old outside (NodeObject space) ≡ 0
  pub outside_now : (outside : Outside) → outside_trees new outside ≡ outside_trees old outside
  pub rows_now : KeepsRows old new
  pub apart_now : KeepsApart old new
  pub owners_now : KeepsOwners old new
  pub inside : (outside : Outside) → KeepsInside old new outside
  pub rest : KeepsRest old new
  pub number : new.machine.nodes_taken ≡ old.machine.nodes_taken + 1

-- A space whose one key was outside was released. What belonged to a tree was given back exactly where nothing names it any
-- more, and each page that wasn't has the bytes that it had. Each way in any other space that was its own is so still.
pub record Drops (old new : Kernel) (space : ℕ) : Type 0 where
  pub drops : (outside : Outside) → TreesGood old (and_outside outside (space_key space)) [] → TreesGood new outside [] × DropsSpace (forest_of old) (forest_of new) space
  pub given : (outside : Outside) → TreesGood old (and_outside outside (space_key space)) []
      → (object : Object) → IsSome ((forest_of old).owner object)
      → IsSome ((forest_of new).owner object) ↔ (1 ≤ namings (forest_of new) object + outside_trees old outside object)
  pub filled : NoneEmpty (forest_of old).keys → NoneEmpty (forest_of new).keys
  pub outside_now : (outside : Outside) → outside_trees new outside ≡ outside_trees old outside
  pub rows_now : KeepsRows old new
  pub apart_now : KeepsApart old new
  pub owners_now : LeavesOwners old new
  pub inside : (outside : Outside) → KeepsInside old new outside
  pub rest : KeepsUnreleased old new
  pub keeps : KeepsBytes old new
  pub ways : KeepsOtherWays old new space

-- the mapping that was found
abbrev pub found_mapping : Option Found → Option Mapping
found_mapping None = None
found_mapping (Some found) = Some (record { writable = found.writable; page = found.page.0 })
