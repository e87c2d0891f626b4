-- A disk in memory as its first bytes and what was done to it, the newest first.
use Rattle.std.specs.Prelude.{◌≡◌, ◌⊎◌, ◌≤◌, ℕ, List, [], ◌∷◌, length, take, replicate}
use Rattle.kn_base.specs.Rows.{overwritten}
use Rattle.kn_disk.specs.Images.{Scarred, Resized, After, resized}
use Rattle.kn_disk.specs.declared.fill.Fill.{Fill}
use Rattle.kn_disk.specs.declared.fill.Fill.TheVariants as fill

-- Bytes were written from a place on, the length was changed, or the disk was synced.
pub data Step : Type 0 where
  Written : ℕ → List ℕ → Step
  Cut : ℕ → Step
  Synced : Step

-- bytes in which others were written, up to their end
unfoldable pub clipped : List ℕ → ℕ → List ℕ → List ℕ
clipped bytes at part = take (length bytes) (overwritten bytes at part)

-- what a step makes of the bytes that a read gives
unfoldable pub stepped : Step → List ℕ → List ℕ
stepped (Written at part) bytes = clipped bytes at part
stepped (Cut n) bytes = resized n bytes
stepped Synced bytes = bytes

-- what a read gives after these steps
unfoldable pub contents_after : List ℕ → List Step → List ℕ
contents_after first [] = first
contents_after first (step ∷ earlier) = stepped step (contents_after first earlier)

-- what a crash after these steps may leave
unfoldable pub IsImage : List ℕ → List Step → List ℕ → Type 0
IsImage first [] c = c ≡ first
IsImage first (Written at part ∷ earlier) c = After (Scarred at (length part)) (IsImage first earlier) c
IsImage first (Cut n ∷ earlier) c = After (Resized n) (IsImage first earlier) c
IsImage first (Synced ∷ earlier) c = c ≡ contents_after first earlier

-- what a crash might have left when there were so many steps, or more
unfoldable pub Since : List ℕ → List Step → ℕ → List ℕ → Type 0
Since first [] t c = c ≡ first
Since first (step ∷ earlier) t c = IsImage first (step ∷ earlier) c ⊎ ((t ≤ length earlier) × Since first earlier t c)

-- the steps up to the last sync
unfoldable pub settled : List Step → List Step
settled [] = []
settled (Written at part ∷ earlier) = settled earlier
settled (Cut n ∷ earlier) = settled earlier
settled (Synced ∷ earlier) = Synced ∷ earlier

-- the steps since the last sync
unfoldable pub pending : List Step → List Step
pending [] = []
pending (Written at part ∷ earlier) = Written at part ∷ pending earlier
pending (Cut n ∷ earlier) = Cut n ∷ pending earlier
pending (Synced ∷ earlier) = []

-- bytes in which one byte stands in each range that these steps wrote
unfoldable pub spoiled : ℕ → List ℕ → List Step → List ℕ
spoiled byte bytes [] = bytes
spoiled byte bytes (Written at part ∷ earlier) = clipped (spoiled byte bytes earlier) at (replicate (length part) byte)
spoiled byte bytes (Cut n ∷ earlier) = spoiled byte bytes earlier
spoiled byte bytes (Synced ∷ earlier) = spoiled byte bytes earlier

-- One of the images: what the last sync left, the same with one byte in each range written since, or what a read gives.
unfoldable pub crash_image : Fill → List ℕ → List Step → List ℕ
crash_image fill.Old first steps = contents_after first (settled steps)
crash_image fill.New first steps = contents_after first steps
crash_image (fill.Byte byte) first steps = spoiled byte (contents_after first (settled steps)) (pending steps)
