-- The steps of which calls on spaces are made: a node is copied, or put where none stood, down a way from a root.
use Rattle.std.specs.Prelude.{◌≡◌, ◌≢◌, ℕ, zero, suc, ◌+◌, ◌<◌, ◌^◌, Option, Some, None, IsSome, List, length, ◌≤◌}
use Rattle.kn_base.specs.declared.key.Key.{Key}
use Rattle.kn_base.specs.declared.key.Key.TheVariants.{Null, Segment}
use Rattle.kn_base.specs.declared.key.NodeId.{NodeId}
use Rattle.kernel_tables.specs.Kernel.{Kernel}
use Rattle.space_bank.specs.Shares.{Outside, Shares}
use Rattle.unix_model.specs.Tables.{at}
use Rattle.forest.specs.Objects.{Object, NodeObject, Owner, named}
use Rattle.forest.specs.Walks.{place_of}
use Rattle.forest.specs.Forest.{Forest, Sound, FitsUnder, CountedOnce, EndsAt}
use Rattle.forest.specs.Descent.{MadeOwn}
use Rattle.forest.specs.Changes.{raised, with_key, with_copy, IsFree}
use Rattle.kernel_tables.specs.Rows.{KeepsRows}
use Rattle.kernel_forest.specs.Apart.{KeepsApart}
use Rattle.kernel_forest.specs.Owners.{KeepsOwners}
use Rattle.kernel_forest.specs.Moves.{KeepsRest, MayRaise, Changes}
use Rattle.kernel_forest.specs.Trees.{TreesGood, forest_of, outside_trees, IsTreeKey, AreTreeKeys}

-- one key of a node is copied to a place of another one, and counted once more
abbrev pub key_copied : Forest → Key → ℕ → Forest
key_copied forest key place = with_key (raised forest key) place key

-- the first keys of a node are copied to another one, so many of them
unfoldable pub copying : Forest → ℕ → ℕ → ℕ → Forest
copying forest from to zero = forest
copying forest from to (suc n) = key_copied (copying forest from to n) (at forest.keys (place_of from n)) (place_of to n)

-- a key may be copied so
pub record MayCopyKey (forest : Forest) (from to digit : ℕ) : Type 0 where
  pub from_owned : IsSome (forest.owner (NodeObject from))
  pub to_owned : IsSome (forest.owner (NodeObject to))
  pub of_tree : IsTreeKey (at forest.keys (place_of from digit))
  pub was_null : at forest.keys (place_of to digit) ≡ Null
  pub may : MayRaise forest (at forest.keys (place_of from digit))

-- all sixteen keys may be copied so
pub record MayCopy (forest : Forest) (from to : ℕ) : Type 0 where
  pub from_owned : IsSome (forest.owner (NodeObject from))
  pub to_owned : IsSome (forest.owner (NodeObject to))
  pub apart : from ≢ to
  pub of_tree : (digit : ℕ) → digit < 16 → IsTreeKey (at forest.keys (place_of from digit))
  pub nulls : (digit : ℕ) → digit < 16 → at forest.keys (place_of to digit) ≡ Null
  pub may : (digit : ℕ) → digit < 16 → (object : Object) → named (at forest.keys (place_of from digit)) ≡ Some object
      → IsSome (forest.owner object) × (forest.count object + 17 < 2 ^ 32)

-- the node for which a key stands
abbrev pub segment_of : Key → Option NodeId
segment_of (Segment node height) = Some node
segment_of _ = None

-- A node of this height may be made to stand at a place alone: a key of this height or none stands there.
pub record MayOwn (forest : Forest) (node digit height : ℕ) (owner : Owner) : Type 0 where
  pub sound : Sound forest
  pub node_owner : forest.owner (NodeObject node) ≡ Some owner
  pub below : digit < 16
  pub positive : 1 ≤ height
  pub fits : FitsUnder (height + 1) (at forest.keys (place_of node digit))
  pub alive : (object : Object) → IsSome (forest.owner object) → 1 ≤ forest.count object
  pub few : (place : ℕ) (object : Object) → named (at forest.keys place) ≡ Some object → forest.count object + 17 < 2 ^ 32

-- A fresh node stands at a place now: a copy of the one that stood there and is counted elsewhere too, or an empty one.
pub record FreshChild (old new : Kernel) (place height : ℕ) (owner : Owner) (child : ℕ) : Type 0 where
  pub shared : CountedOnce (forest_of old) (at (forest_of old).keys place) → ⊥
  pub within : child < old.nodes
  pub free : (outside : Outside) (hand : List Key) → AreTreeKeys hand → Shares old outside hand
      → IsFree (forest_of old) (outside_trees old outside) hand (NodeObject child)
  pub changes : Changes old new (with_copy (forest_of old) place child height owner) 1

-- The node at a place is counted once: it was so before, or is a fresh one.
pub data OwnsChild (old new : Kernel) (place height : ℕ) (owner : Owner) (child : ℕ) : Type 0 where
  kept_child : CountedOnce (forest_of old) (at (forest_of old).keys place) → named (at (forest_of old).keys place) ≡ Some (NodeObject child) → new ≡ old
      → OwnsChild old new place height owner child
  fresh_child : FreshChild old new place height owner child → OwnsChild old new place height owner child

-- Going down a way from a space, which is this space's own afterwards and ends at a node.
pub record Descends (old new : Kernel) (outside : Outside) (hand : List Key) (space : ℕ) (owner : Owner) (way : List ℕ) (node : ℕ) : Type 0 where
  pub taken : ℕ
  pub made : MadeOwn (outside_trees old outside) hand space owner (forest_of old) way (forest_of new) taken
  pub ends : EndsAt (forest_of new).keys space way (NodeObject node)
  pub trees : TreesGood new outside hand
  pub outside_now : (all : Outside) → outside_trees new all ≡ outside_trees old all
  pub rows_now : KeepsRows old new
  pub apart_now : KeepsApart old new
  pub owners_now : KeepsOwners old new
  pub rest : KeepsRest old new
  pub number : new.machine.nodes_taken ≡ old.machine.nodes_taken + taken
  pub few : taken ≤ length way
  pub same : taken ≡ 0 → new ≡ old
