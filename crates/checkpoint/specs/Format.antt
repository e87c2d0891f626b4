-- What a format asks and leaves.
use Rattle.std.specs.Prelude.{◌≡◌, ◌⊎◌, ◌<◌, ℕ, List, [], ◌∷◌, length, slice_index, slice_index_or}
use Rattle.std.specs.Int.{from_le_bytes, w32}
use Rattle.kn_base.specs.Rows.{part_at}
use Rattle.kn_disk.specs.Images.{Only, LeavesOnly}
use Rattle.disk_layout.specs.Sizes.{home_start, disk_size, area_start, home_block}
use Rattle.disk_layout.specs.Saved.{NoMachine, Machine, raw, label_in}
use Rattle.disk_layout.specs.declared.label.Label.TheVariants.{Names}
use Rattle.disk_layout.specs.Runs.{Still}

-- no machine is present
abbrev pub Blank : List ℕ → Type 0
Blank c = (length c < 4096) ⊎ (slice_index c 0 ≡ 1 → ⊥)

-- no machine, or this one of generation 0 under a label with these numbers
abbrev pub NoneOr : ℕ → ℕ → List (List ℕ) → List ℕ → Type 0
NoneOr pages quantum blocks c = (raw c ≡ NoMachine) ⊎ ((raw c ≡ Machine 0 blocks) × (label_in c ≡ Names pages quantum))

-- Calls that began with a sync, after which the disk was as before and its contents all that a crash left, and then left
-- only images that have P.
pub record FromSync {D : Type 0} (tells : Type 0) (contents : D → List ℕ) (moment : D → ℕ) (image : D → List ℕ → Type 0) (since : D → ℕ → List ℕ → Type 0) (P : List ℕ → Type 0) (old new : D) : Type 0 where
  pub synced : D
  pub still : Still tells contents moment image since old synced
  pub only : Only (contents synced) (image synced)
  pub leaves : LeavesOnly moment since P synced new

-- nineteen bytes of a label, behind its gate
pub record IsLabel (bytes : List ℕ) (p q : ℕ) : Type 0 where
  pub size : length bytes ≡ 19
  pub name : part_at bytes 0 7 ≡ 75 ∷ 69 ∷ 89 ∷ 78 ∷ 73 ∷ 88 ∷ 68 ∷ []
  pub version : from_le_bytes w32 (part_at bytes 7 4) ≡ 1
  pub pages : from_le_bytes w32 (part_at bytes 11 4) ≡ p
  pub quantum : from_le_bytes w32 (part_at bytes 15 4) ≡ q

-- a disk that lacks its gate alone: the label, gates of areas that are zero, and the home blocks
pub record Laid (blocks p q : ℕ) (bl : List (List ℕ)) (c : List ℕ) : Type 0 where
  pub size : length c ≡ disk_size blocks
  pub label : IsLabel (part_at c 1 19) p q
  pub first : slice_index c (area_start blocks 0) ≡ 0
  pub second : slice_index c (area_start blocks 1) ≡ 0
  pub homes : (b : ℕ) → b < blocks → home_block blocks c b ≡ slice_index_or bl b []

-- the first n home blocks are these, and all before home is as it was
pub record HomesLaid (blocks : ℕ) (bl : List (List ℕ)) (old new : List ℕ) (n : ℕ) : Type 0 where
  pub size : length new ≡ length old
  pub front : (k : ℕ) → k < home_start blocks → slice_index new k ≡ slice_index old k
  pub homes : (b : ℕ) → b < n → home_block blocks new b ≡ slice_index_or bl b []
