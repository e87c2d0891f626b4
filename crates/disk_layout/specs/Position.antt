-- How far the machine on a disk has got: what is copied home of its entries, and what a crash may spoil.
use Rattle.std.specs.Prelude.{◌≡◌, ◌<◌, ◌≤◌, ◌==◌, ℕ, zero, suc, Bool, false, ◌||◌, Some, List, length, slice_index}
use Rattle.disk_layout.specs.Sizes.{blocks_for, contents_from, home_start, disk_size, entry, content, home_block}
use Rattle.disk_layout.specs.Saved.{raw, label_in, generation_of, pages_named, area_at, entries_at}

-- one of the first n entries of an area is this block
unfoldable pub touched : List ℕ → ℕ → ℕ → Bool
touched area zero block = false
touched area (suc n) block = (entry area n == block) || touched area n block

-- any bytes may stand in the home blocks of the first n entries of an area, and all other bytes stay
pub record HomeScarred (blocks n : ℕ) (area old new : List ℕ) : Type 0 where
  pub size : length new ≡ length old
  pub front : (k : ℕ) → k < home_start blocks → slice_index new k ≡ slice_index old k
  pub others : (b : ℕ) → b < blocks → touched area n b ≡ false → home_block blocks new b ≡ home_block blocks old b

-- The disk holds a machine of this generation, of whose entries so many are copied home, and a crash may spoil the home
-- blocks of its entries alone.
pub record StandsFor (blocks generation moved : ℕ) (contents : List ℕ) (image : List ℕ → Type 0) : Type 0 where
  pub holds : generation_of (raw contents) ≡ Some generation
  pub size : length contents ≡ disk_size blocks
  pub few : moved ≤ entries_at blocks generation contents
  pub done : (i : ℕ) → i < moved → home_block blocks contents (entry (area_at blocks generation contents) i) ≡ content (contents_from blocks) (area_at blocks generation contents) i
  pub images : (c : List ℕ) → image c → HomeScarred blocks (entries_at blocks generation contents) (area_at blocks generation contents) contents c

-- A position stands for a disk with so many bank pages: it has the generation of its machine and the number of its
-- entries, and is synced exactly where all of them are moved.
pub record Stands (pages generation entries moved : ℕ) (synced : Bool) (contents : List ℕ) (image : List ℕ → Type 0) : Type 0 where
  pub named : pages_named (label_in contents) ≡ Some pages
  pub disk : StandsFor (blocks_for pages) generation moved contents image
  pub counted : entries ≡ entries_at (blocks_for pages) generation contents
  pub told : synced ≡ (moved == entries)
