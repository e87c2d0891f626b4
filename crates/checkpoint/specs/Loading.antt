-- A store that is being filled from a disk.
use Rattle.std.specs.Prelude.{◌≡◌, ℕ, true, List, length}
use Rattle.obj_store.specs.Ram.{Ram}
use Rattle.disk_layout.specs.Sizes.{contents_from}
use Rattle.disk_layout.specs.Saved.{ascends, least, overlaid}

-- the sizes and the marks stay
pub record KeepsSizes (old new : Ram) : Type 0 where
  pub pages : new.pages ≡ old.pages
  pub size : length new.blocks ≡ length old.blocks
  pub dirty : new.dirty ≡ old.dirty

-- The first i entries of an area are right, the next one is at least `from`, and the blocks are home's with their contents
-- over them.
pub record Laid (blocks : ℕ) (area : List ℕ) (home : List (List ℕ)) (i from : ℕ) (given : List (List ℕ)) : Type 0 where
  pub sound : ascends blocks area i ≡ true
  pub next : from ≡ least area i
  pub over : given ≡ overlaid (contents_from blocks) area i home
