-- Content blocks that are copied home.
use Rattle.std.specs.Prelude.{◌≡◌, ◌<◌, ◌≤◌, ◌+◌, ℕ, true, List, length}
use Rattle.disk_layout.specs.Sizes.{contents_from, area_size, home_start, disk_size, area_in, entry, content, home_block}
use Rattle.disk_layout.specs.Saved.{ascends}
use Rattle.disk_layout.specs.Position.{HomeScarred}

-- Of n entries of an area the first i are copied home, since the disk had these bytes.
pub record Moving (blocks n start : ℕ) (base now : List ℕ) (image : List ℕ → Type 0) (i : ℕ) : Type 0 where
  pub size : length base ≡ disk_size blocks
  pub place : start + area_size blocks ≤ home_start blocks
  pub sound : ascends blocks (area_in blocks start base) n ≡ true
  pub images : (c : List ℕ) → image c → HomeScarred blocks n (area_in blocks start base) base c
  pub now_is : HomeScarred blocks n (area_in blocks start base) base now
  pub done : (j : ℕ) → j < i → home_block blocks now (entry (area_in blocks start base) j) ≡ content (contents_from blocks) (area_in blocks start base) j

-- so, since some bytes that the disk had, with at least so many entries
pub record IsMoving (blocks until start : ℕ) (now : List ℕ) (image : List ℕ → Type 0) (i : ℕ) : Type 0 where
  pub n : ℕ
  pub base : List ℕ
  pub enough : until ≤ n
  pub moving : Moving blocks n start base now image i
