-- A page's key is put at a page number of a space.
use Rattle.std.specs.Prelude.{◌≡◌, ◌≢◌, ◌≤◌, ◌+◌, ℕ, IsSome, [], ◌∷◌}
use Rattle.kn_base.specs.declared.key.Key.{Key}
use Rattle.kn_base.specs.declared.key.Key.TheVariants.{Null}
use Rattle.kernel_tables.specs.Kernel.{Kernel}
use Rattle.kernel_tables.specs.Rows.{KeepsRows}
use Rattle.space_bank.specs.Shares.{Outside}
use Rattle.unix_model.specs.Tables.{at, with_at}
use Rattle.forest.specs.Objects.{Object, PageObject, NodeObject}
use Rattle.forest.specs.Walks.{map_of, mapping_of}
use Rattle.forest.specs.Forest.{FitsUnder, NoneEmpty, NoneEmptyBut, EndsAt, node_way}
use Rattle.forest.specs.Calls.{ChangesMap}
use Rattle.kernel_forest.specs.Apart.{KeepsApart}
use Rattle.kernel_forest.specs.Owners.{KeepsOwners}
use Rattle.kernel_forest.specs.Trees.{forest_of, outside_trees, TreesGood}
use Rattle.kernel_forest.specs.Moves.{KeepsRest}
use Rattle.kernel_forest.specs.Releases.{Releasing, Lets}
use Rattle.seg_tree.specs.Ways.{HasOwnWay, KeepsWays}

-- A key was in hand and stands at a page number now, on a way that is the space's own, and the one that stood there is in hand.
-- Once that is released, the map of the space has changed there, and nothing else.
pub record PutsLeaf (old new : Kernel) (space page : ℕ) (key was : Key) : Type 0 where
  pub leaf : FitsUnder 1 was
  pub mapping : mapping_of was ≡ map_of (forest_of old).keys space page
  pub hand : (outside : Outside) → TreesGood old outside (key ∷ []) → Releasing new outside (was ∷ [])
  pub after : (outside : Outside) → TreesGood old outside (key ∷ []) → (next : Kernel) → Lets new next (was ∷ []) []
      → TreesGood next outside [] × ChangesMap (forest_of old) (forest_of next) space (with_at (map_of (forest_of old).keys space) page (mapping_of key))
  pub filled : key ≢ Null → NoneEmpty (forest_of old).keys → NoneEmpty (forest_of new).keys
  pub place : ℕ
  pub stands : at (forest_of new).keys place ≡ key
  pub own : HasOwnWay new space page
  pub ways : KeepsWays old new
  pub node : ℕ
  pub ends : EndsAt (forest_of new).keys space (node_way page) (NodeObject node)
  pub but : NoneEmpty (forest_of old).keys → NoneEmptyBut (forest_of new).keys node
  pub owners : (object : Object) → IsSome ((forest_of old).owner object) → (forest_of new).owner object ≡ (forest_of old).owner object
  pub outside_now : (outside : Outside) → outside_trees new outside ≡ outside_trees old outside
  pub rows_now : KeepsRows old new
  pub apart_now : KeepsApart old new
  pub owners_now : KeepsOwners old new
  pub pages_now : (number : ℕ) → (forest_of new).owner (PageObject number) ≡ (forest_of old).owner (PageObject number)
  pub rest : KeepsRest old new
  pub most : new.machine.nodes_taken ≤ old.machine.nodes_taken + 4
  pub none : HasOwnWay old space page → new.machine.nodes_taken ≡ old.machine.nodes_taken
