-- Nodes that have become empty are taken out of the tree, from below upwards.
use Rattle.std.specs.Prelude.{◌≡◌, ◌≤◌, ◌+◌, ◌↔◌, ℕ, None, IsSome, []}
use Rattle.kn_base.specs.declared.key.Key.TheVariants.{Null}
use Rattle.kernel_tables.specs.Kernel.{Kernel}
use Rattle.kernel_tables.specs.Rows.{KeepsRows}
use Rattle.space_bank.specs.Shares.{Outside, Shares}
use Rattle.unix_model.specs.Tables.{with_at}
use Rattle.forest.specs.Objects.{Object, PageObject, NodeObject}
use Rattle.forest.specs.Walks.{map_of}
use Rattle.forest.specs.Forest.{IsSpace, namings}
use Rattle.forest.specs.Changes.{with_key, with_given, KeepsRoot}
use Rattle.kernel_forest.specs.Apart.{KeepsApart}
use Rattle.kernel_forest.specs.Owners.{LeavesOwners}
use Rattle.kernel_forest.specs.Trees.{forest_of, outside_trees, TreesGood}
use Rattle.kernel_forest.specs.Releases.{KeepsUnreleased}
use Rattle.seg_tree.specs.Ways.{KeepsOtherWays, KeepsMappedWays}
use Rattle.seg_tree.specs.Promises.{Replaces}

-- An empty node was taken from the one place that named it, and given back.
pub record TakesOff (old new : Kernel) (place node : ℕ) : Type 0 where
  pub forest_now : forest_of new ≡ with_given (with_key (forest_of old) place Null) (NodeObject node)
  pub outside_now : (outside : Outside) → outside_trees new outside ≡ outside_trees old outside
  pub rows_now : KeepsRows old new
  pub apart_now : KeepsApart old new
  pub owners_now : LeavesOwners old new
  pub rest : KeepsUnreleased old new
  pub bank : new.bank ≡ old.bank
  pub fewer : new.machine.nodes_taken ≤ old.machine.nodes_taken
  pub shares : (outside : Outside) → TreesGood old outside [] → Shares new outside []

-- Empty nodes were taken out. All spaces stay, and keep their maps and their roots, and none is new.
pub record Prunes (old new : Kernel) : Type 0 where
  pub trees : (outside : Outside) → TreesGood old outside [] → TreesGood new outside []
  pub spaces : (other : ℕ) → IsSpace (forest_of old) [] other
      → IsSpace (forest_of new) [] other × (map_of (forest_of new).keys other ≡ map_of (forest_of old).keys other)
  pub roots : (other : ℕ) → IsSpace (forest_of new) [] other → KeepsRoot (forest_of old) (forest_of new) [] other
  pub named_outside : (outside : Outside) → TreesGood old outside [] → (object : Object) → IsSome ((forest_of old).owner object)
      → 1 ≤ outside_trees old outside object → IsSome ((forest_of new).owner object)
  pub fewer_owned : (object : Object) → IsSome ((forest_of new).owner object) → IsSome ((forest_of old).owner object)
  pub outside_now : (outside : Outside) → outside_trees new outside ≡ outside_trees old outside
  pub rows_now : KeepsRows old new
  pub apart_now : KeepsApart old new
  pub owners_now : LeavesOwners old new
  pub rest : KeepsUnreleased old new
  pub bank : new.bank ≡ old.bank
  pub pages : (number : ℕ) → (forest_of new).owner (PageObject number) ≡ (forest_of old).owner (PageObject number)
  pub fewer : new.machine.nodes_taken ≤ old.machine.nodes_taken

-- Nothing is mapped at a page number of a space any more. What belonged to a tree was given back exactly where nothing names it
-- any more. Each way in any other space that was its own is so still, and in this space each to a page number that maps
-- something.
pub record Unmaps (old new : Kernel) (space page : ℕ) : Type 0 where
  pub replaces : Replaces old new space 4 (with_at (map_of (forest_of old).keys space) page None)
  pub given : (outside : Outside) → TreesGood old outside [] → (object : Object) → IsSome ((forest_of old).owner object)
      → IsSome ((forest_of new).owner object) ↔ (1 ≤ namings (forest_of new) object + outside_trees old outside object)
  pub ways : KeepsOtherWays old new space
  pub mapped_ways : KeepsMappedWays old new space
