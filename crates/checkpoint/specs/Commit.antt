-- What a commit asks and leaves.
use Rattle.std.specs.Prelude.{◌≡◌, ◌⊎◌, ◌<◌, ℕ, Bool, false, List, [], length, slice_index_or}
use Rattle.std.specs.List.{count_by}
use Rattle.kn_disk.specs.Images.{Only}
use Rattle.obj_store.specs.Ram.{Ram}
use Rattle.disk_layout.specs.Saved.{Machine, raw, label_in, blocks_of}
use Rattle.disk_layout.specs.Position.{Stands}
use Rattle.checkpoint.specs.Sizes.{pages_in}

-- how many blocks are marked
abbrev pub marks : Ram → ℕ
marks ram = count_by (λ (mark : Bool). mark) ram.dirty

-- each block that isn't marked is as the machine has it
pub record MarkedSince (machine : List (List ℕ)) (ram : Ram) : Type 0 where
  pub size : length machine ≡ length ram.blocks
  pub same : (b : ℕ) → b < length ram.blocks → slice_index_or ram.dirty b false ≡ false → slice_index_or machine b [] ≡ slice_index_or ram.blocks b []

-- The position stands for the disk, whose label has the store's number of bank pages; migration has ended; the disk's
-- contents are all that a crash leaves; and each block of the store that isn't marked is as the disk's machine has it.
pub record CanCommit (ram : Ram) (generation entries moved : ℕ) (synced : Bool) (contents : List ℕ) (image : List ℕ → Type 0) : Type 0 where
  pub stands : Stands (pages_in ram) generation entries moved synced contents image
  pub ended : moved ≡ entries
  pub only : Only contents image
  pub marked : MarkedSince (blocks_of (raw contents)) ram

-- the same label, and the machine as it was or this one
pub record SavedOr (old : List ℕ) (generation : ℕ) (blocks : List (List ℕ)) (new : List ℕ) : Type 0 where
  pub label : label_in new ≡ label_in old
  pub machine : (raw new ≡ raw old) ⊎ (raw new ≡ Machine generation blocks)
