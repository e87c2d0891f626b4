-- What a disk holds through several intervals of a machine, each with its checkpoint.
use Rattle.std.specs.Prelude.{◌≡◌, ◌≤◌, ◌+◌, ℕ, Bool, List}
use Rattle.obj_store.specs.Ram.{Ram}
use Rattle.disk_layout.specs.Saved.{Machine, raw, label_in, blocks_of}
use Rattle.disk_layout.specs.Position.{Stands}
use Rattle.checkpoint.specs.Sizes.{pages_in}
use Rattle.checkpoint.specs.Commit.{MarkedSince}

-- The disk is that of a store: the position stands for it, and each block that isn't marked is as the machine has it.
pub record IsStores (ram : Ram) (generation entries moved : ℕ) (synced : Bool) (contents : List ℕ) (image : List ℕ → Type 0) : Type 0 where
  pub stands : Stands (pages_in ram) generation entries moved synced contents image
  pub marked : MarkedSince (blocks_of (raw contents)) ram

-- The checkpoint of one of the intervals from one number to another: a plan gives the blocks after each. It has the label
-- of the first bytes, and the generation goes up by one with each interval.
pub record HoldsOne (plan : ℕ → List (List ℕ)) (first : List ℕ) (generation from most : ℕ) (c : List ℕ) : Type 0 where
  pub j : ℕ
  pub least : from ≤ j
  pub few : j ≤ most
  pub label : label_in c ≡ label_in first
  pub holds : raw c ≡ Machine (generation + j) (plan j)
