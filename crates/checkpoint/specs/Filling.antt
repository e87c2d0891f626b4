-- An area that is being filled.
use Rattle.std.specs.Prelude.{◌≡◌, ◌⊎◌, ◌≤◌, ◌+◌, ℕ, Bool, true, List, ◌++◌, length, take, drop, slice_index}
use Rattle.std.specs.List.{count_by}
use Rattle.kn_disk.specs.Images.{Scarred}
use Rattle.obj_store.specs.Ram.{Ram}
use Rattle.disk_layout.specs.Sizes.{area_size, area_in, contents_from, word, long}
use Rattle.disk_layout.specs.Saved.{overlaid, least, ascends}
use Rattle.checkpoint.specs.Commit.{MarkedSince}

-- how many of the first n marks are set
abbrev pub marks_below : Ram → ℕ → ℕ
marks_below ram n = count_by (λ (mark : Bool). mark) (take n ram.dirty)

-- The first n entries of an area give, over the home blocks, the first b of these blocks.
pub record Filled (from : ℕ) (area : List ℕ) (home blocks : List (List ℕ)) (n b : ℕ) : Type 0 where
  pub few : n ≤ b
  pub next : least area n ≤ b
  pub ascending : ascends (length blocks) area n ≡ true
  pub over : overlaid from area n home ≡ take b blocks ++ drop b home

-- changes in an area alone, its gate not open
pub record Unopened (start size : ℕ) (old new : List ℕ) : Type 0 where
  pub inside : Scarred start size old new
  pub closed : slice_index new start ≡ 1 → ⊥

-- over whatever home blocks, an entry more stands in an area
abbrev pub Goes : ℕ → List ℕ → List ℕ → Ram → ℕ → ℕ → ℕ → Type 0
Goes from old new ram n m b = (home : List (List ℕ)) → MarkedSince home ram → Filled from old home ram.blocks n b → Filled from new home ram.blocks m (b + 1)

-- over whatever home blocks, the first n entries of an area give the first b blocks of the store
abbrev pub Saves : ℕ → List ℕ → Ram → ℕ → ℕ → Type 0
Saves from area ram n b = (home : List (List ℕ)) → MarkedSince home ram → Filled from area home ram.blocks n b

-- the header has this generation, and its entries are right and give these blocks
pub record Full (blocks : ℕ) (area : List ℕ) (home : List (List ℕ)) (generation : ℕ) (given : List (List ℕ)) : Type 0 where
  pub next : long area 8 ≡ generation
  pub few : word area 16 ≤ blocks
  pub sound : ascends blocks area (word area 16) ≡ true
  pub over : overlaid (contents_from blocks) area (word area 16) home ≡ given

-- the area holds this generation of the store's blocks, over whatever home blocks
abbrev pub HoldsBlocks : ℕ → List ℕ → Ram → ℕ → Type 0
HoldsBlocks blocks area ram generation = (home : List (List ℕ)) → MarkedSince home ram → Full blocks area home generation ram.blocks

-- an area whose gate is open, with this generation of the store's blocks
pub record Opened (blocks start : ℕ) (ram : Ram) (generation : ℕ) (old new : List ℕ) : Type 0 where
  pub inside : Scarred start (area_size blocks) old new
  pub gate : slice_index new start ≡ 1
  pub holds : HoldsBlocks blocks (area_in blocks start new) ram generation

-- what the closing of a gate may leave
abbrev pub IsClosing : ℕ → List ℕ → List ℕ → Type 0
IsClosing start old new = (new ≡ old) ⊎ Unopened start 1 old new

-- what the filling and opening of an area may leave
abbrev pub IsCommitting : ℕ → ℕ → Ram → ℕ → List ℕ → List ℕ → Type 0
IsCommitting blocks start ram generation old new =
    (new ≡ old) ⊎ (Unopened start (area_size blocks) old new ⊎ Opened blocks start ram generation old new)
