-- Paths at which something new can be made.
use Rattle.std.specs.Prelude.{◌≡◌, ℕ, Bool, true, false, is_none, List, None, Result, Ok, Err}
use Rattle.unix_model.specs.declared.calls.Errno.{Errno}
use Rattle.unix_model.specs.Files.{Files, is_directory}
use Rattle.unix_model.specs.Paths.{Spot, walked}
use Rattle.unix_model.specs.Tables.{at}

-- a walk ended at a name where nothing stands
abbrev pub ends_new : Result Spot Errno → Bool
ends_new (Ok spot) = is_none spot.inode
ends_new (Err errno) = false

-- nothing stands at the path, and the directory is there in which it would stand
unfoldable pub is_new_path : Files → List ℕ → Bool
is_new_path files path = ends_new (walked files path)

-- where the walk of a new path ends
pub record IsNewSpot (files : Files) (path : List ℕ) (spot : Spot) : Type 0 where
  pub walk : walked files path ≡ Ok spot
  pub absent : spot.inode ≡ None
  pub directory : is_directory (at files.inodes spot.directory) ≡ true
