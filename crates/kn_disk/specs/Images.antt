-- What a crash may leave of a disk, its images, and how these change as time goes on.
use Rattle.std.specs.Prelude.{◌≡◌, ◌⊎◌, ◌≤◌, ◌<◌, ◌+◌, ◌-◌, ℕ, List, ◌++◌, length, take, replicate, slice_index}

-- Any bytes may stand in a range, and all other bytes stay: what a write that a crash cuts short may leave.
pub record Scarred (at n : ℕ) (old new : List ℕ) : Type 0 where
  pub size : length new ≡ length old
  pub below : (k : ℕ) → k < at → slice_index new k ≡ slice_index old k
  pub above : (k : ℕ) → at + n ≤ k → slice_index new k ≡ slice_index old k

-- a disk of this length with the front that both lengths have, and any bytes behind it
pub record Recut (n : ℕ) (old new : List ℕ) : Type 0 where
  pub size : length new ≡ n
  pub front : (k : ℕ) → k < n → k < length old → slice_index new k ≡ slice_index old k

-- what a change of the length may leave: the old length or the new one
abbrev pub Resized : ℕ → List ℕ → List ℕ → Type 0
Resized n old new = (new ≡ old) ⊎ Recut n old new

-- one of these images after a step
abbrev pub After : (List ℕ → List ℕ → Type 0) → (List ℕ → Type 0) → List ℕ → Type 0
After step images new = (old : List ℕ) × images old × step old new

-- bytes cut to a length, or followed by zeros
unfoldable pub resized : ℕ → List ℕ → List ℕ
resized n bytes = take n bytes ++ replicate (n - length bytes) 0

-- a crash leaves these bytes and nothing else
abbrev pub Only : List ℕ → (List ℕ → Type 0) → Type 0
Only bytes image = (c : List ℕ) → image c → c ≡ bytes

-- Time goes on by a call: what might have been left since a moment before it, and what may be left now.
pub record Elapses {D : Type 0} (moment : D → ℕ) (image : D → List ℕ → Type 0) (since : D → ℕ → List ℕ → Type 0) (old new : D) : Type 0 where
  pub later : moment old ≤ moment new
  pub adds : (t : ℕ) (c : List ℕ) → t ≤ moment old → since new t c → since old t c ⊎ image new c
  pub keeps : (t : ℕ) (c : List ℕ) → t ≤ moment old → since old t c → since new t c

-- Each image of each moment of a run of calls has P, or was there before it.
pub record LeavesOnly {D : Type 0} (moment : D → ℕ) (since : D → ℕ → List ℕ → Type 0) (P : List ℕ → Type 0) (old new : D) : Type 0 where
  pub later : moment old ≤ moment new
  pub adds : (t : ℕ) (c : List ℕ) → t ≤ moment old → since new t c → since old t c ⊎ P c

-- A run of calls wrote inside a range and nowhere else.
pub record Inside {D : Type 0} (moment : D → ℕ) (image : D → List ℕ → Type 0) (since : D → ℕ → List ℕ → Type 0) (at n : ℕ) (old new : D) : Type 0 where
  pub later : moment old ≤ moment new
  pub images : (c : List ℕ) → image new c → After (Scarred at n) (image old) c
  pub adds : (t : ℕ) (c : List ℕ) → t ≤ moment old → since new t c → since old t c ⊎ After (Scarred at n) (image old) c
