-- Paths (POSIX.1, pathname resolution, without symbolic links). Several slashes count as one. A path's names are walked
-- from the left: `.` stays, and `..` goes to the parent, which for the root is the root.
use Rattle.std.specs.Prelude.{ℕ, ◌-◌, Bool, false, not, ◌&&◌, ◌||◌, List, [], ◌∷◌, Option, Some, None, length, slice_index, codes, bytes_eq, Result, Ok, Err, ◌==◌, nat_lt, if◌then◌else◌}
use Rattle.std.specs.List.{slice_split}
use Rattle.std.specs.Option.{option_and_then}
use Rattle.unix_model.specs.declared.calls.Errno.{Errno}
use Rattle.unix_model.specs.declared.calls.Errno.TheVariants.{Enoent, Enotdir, Enametoolong}
use Rattle.unix_model.specs.Files.{Files, root_inode, is_directory, file_bytes, inode_named, parent_of, places_of}
use Rattle.unix_model.specs.Limits.{most_name_bytes}
use Rattle.unix_model.specs.Refusals.{◌>>=◌, ◌>>◌, refuse◌when◌, refuse◌where_not◌, refuse◌unless◌}
use Rattle.unix_model.specs.Tables.{at}

-- What a walk comes to: the directory of its last name, that name, and the inode that stands there, if any. Before the
-- first name it stands in the directory where it begins, without a name.
pub record Spot : Type 0 where
  pub directory : ℕ
  pub name : List ℕ
  pub inode : Option ℕ

abbrev pub start_spot : ℕ → Spot
start_spot directory = record { directory = directory; name = []; inode = Some directory }

-- the path has no name: it is `/`
abbrev pub is_root : Spot → Bool
is_root spot = length spot.name == 0

-- the path's last name is `.` or `..`
unfoldable pub is_dots : Spot → Bool
is_dots spot = bytes_eq spot.name (codes ".") || bytes_eq spot.name (codes "..")

-- the inode of a name in a directory
unfoldable pub inode_at : Files → ℕ → List ℕ → Option ℕ
inode_at files directory name =
    if bytes_eq name (codes ".") then Some directory else
    if bytes_eq name (codes "..") then Some (parent_of (at files.inodes directory)) else
    inode_named (places_of (at files.inodes directory)) name

-- one name: what was reached before has to be there and a directory
abbrev pub named : Files → Spot → List ℕ → Result Spot Errno
named files spot name = do
  directory ← refuse Enoent unless spot.inode
  refuse Enotdir where_not is_directory (at files.inodes directory)
  refuse Enametoolong when nat_lt most_name_bytes (length name)
  Ok (record { directory = directory; name = name; inode = inode_at files directory name })

-- one part between slashes; an empty one is no name
abbrev pub stepped : Files → Spot → List ℕ → Result Spot Errno
stepped files spot part = if length part == 0 then Ok spot else named files spot part

-- the parts of a path, one after the other
abbrev pub walked_from : Files → Spot → List (List ℕ) → Result Spot Errno
walked_from files spot [] = Ok spot
walked_from files spot (part ∷ parts) = do
  next ← stepped files spot part
  walked_from files next parts

abbrev pub is_slash : ℕ → Bool
is_slash byte = byte == 47

-- the path ends in a slash, which asks for a directory
abbrev pub is_slashed : List ℕ → Bool
is_slashed path = is_slash (slice_index path (length path - 1))

-- what is there is something else than a directory
abbrev pub is_no_directory : Files → Option ℕ → Bool
is_no_directory files None = false
is_no_directory files (Some inode) = not (is_directory (at files.inodes inode))

-- the walk of a path from a directory
unfoldable pub walked_in : Files → (start : ℕ) → List ℕ → Result Spot Errno
walked_in files start path = do
  spot ← walked_from files (start_spot start) (slice_split is_slash path)
  refuse Enotdir when (is_slashed path && is_no_directory files spot.inode)
  Ok spot

-- the directory where the walk of a path begins: the root, for a path that begins with a slash. There are no working
-- directories yet, so no other path names anything
abbrev pub start_directory : List ℕ → Result ℕ Errno
start_directory path = do
  refuse Enoent where_not is_slash (slice_index path 0)
  Ok root_inode

-- the walk of a path
unfoldable pub walked : Files → List ℕ → Result Spot Errno
walked files path = do
  start ← start_directory path
  walked_in files start path

-- what the walk of a path finds, or None where nothing stands there
abbrev pub spot_inode : Result Spot Errno → Option ℕ
spot_inode (Ok spot) = spot.inode
spot_inode (Err errno) = None

-- the bytes of the file that a path names, or None where it names none
unfoldable pub file_at : Files → List ℕ → Option (List ℕ)
file_at files path = option_and_then (λ number. file_bytes (at files.inodes number)) (spot_inode (walked files path))
