-- The calls on names at their server: a line for each, with its arguments. POSIX.1's calls are narrowed here to a system
-- without users, modes and times.
use Rattle.std.specs.Prelude.{ℕ, ◌%◌, Bool, false, not, ◌&&◌, ◌||◌, List, [], Option, Some, None, is_some, is_none, Result, Ok, ◌==◌, if◌then◌else◌}
use Rattle.unix_model.specs.declared.calls.Errno.{Errno}
use Rattle.unix_model.specs.declared.calls.Errno.TheVariants.{Ebusy, Eexist, Einval, Eisdir, Emfile, Enfile, Enoent, Enospc, Enotdir, Enotempty, Eperm}
use Rattle.unix_model.specs.Effect.{Line, replies}
use Rattle.unix_model.specs.Enter.{append_flag, create_flag, exclusive_flag, truncate_flag, has_flag}
use Rattle.unix_model.specs.Files.{Files, Inode, File, Directory, Pipe, Console, Description, is_directory, free_inode, with_inode, with_inode_dropped, is_full, is_within, has_names, with_name, without_name, with_name_moved, free_description, with_description}
use Rattle.unix_model.specs.Limits.{inode_count}
use Rattle.unix_model.specs.Paths.{Spot, is_root, is_dots, is_slashed, walked}
use Rattle.unix_model.specs.Process.{Process, lowest_closed, with_descriptor}
use Rattle.unix_model.specs.Refusals.{◌>>=◌, ◌>>◌, refuse◌when◌, refuse◌where_not◌, refuse◌unless◌}
use Rattle.unix_model.specs.Room.{has_room}
use Rattle.unix_model.specs.State.{Unix, with_files}
use Rattle.unix_model.specs.Tables.{at}

-- the state with a new inode at a name that isn't there
abbrev pub with_made : Unix → Spot → (inode : ℕ) → Inode → Unix
with_made unix spot inode new = with_files unix (with_name (with_inode unix.files inode new) spot.directory spot.name inode)

-- the number of a new inode, where there is one, and a place and room for it
abbrev pub made : Unix → Spot → Inode → Result ℕ Errno
made unix spot new = do
  inode ← refuse Enospc unless free_inode unix.files.inodes
  refuse Enospc when is_full unix.files spot.directory
  refuse Enospc where_not has_room (with_made unix spot inode new)
  Ok inode

-- ---- open

-- the flags ask to write, and to write, create or truncate
abbrev pub opens_to_write : ℕ → Bool
opens_to_write flags = not (flags % 4 == 0)

abbrev pub opens_to_change : ℕ → Bool
opens_to_change flags = opens_to_write flags || has_flag flags create_flag || has_flag flags truncate_flag

-- the description that an open makes
abbrev pub opening : ℕ → ℕ → Description
opening flags inode =
    record { inode = inode; readable = not (flags % 4 == 1); writable = opens_to_write flags; append = has_flag flags append_flag; offset = 0 }

-- a state, and the inode in it that is opened
pub record ToOpen : Type 0 where
  pub state : Unix
  pub inode : ℕ

-- a file, cut to no bytes where that is asked
abbrev pub with_truncated : Unix → (flags : ℕ) → (inode : ℕ) → Unix
with_truncated unix flags inode = if has_flag flags truncate_flag then with_files unix (with_inode unix.files inode (File [])) else unix

-- what is opened: an inode that is there, or a new file
abbrev pub to_open : Unix → (path : List ℕ) → (flags : ℕ) → Spot → Option ℕ → Result ToOpen Errno
to_open unix path flags spot (Some inode) = do
  refuse Eexist when (has_flag flags create_flag && has_flag flags exclusive_flag)
  refuse Eisdir when (is_directory (at unix.files.inodes inode) && opens_to_change flags)
  Ok (record { state = with_truncated unix flags inode; inode = inode })
to_open unix path flags spot None = do
  refuse Enoent where_not has_flag flags create_flag
  refuse Enotdir when is_slashed path
  inode ← made unix spot (File [])
  Ok (record { state = with_made unix spot inode (File []); inode = inode })

-- the state with a description more
abbrev pub with_opened : Unix → (number : ℕ) → Description → Unix
with_opened unix number description = with_files unix (with_description unix.files number description)

-- open(path, flags) (POSIX.1). A description is there where a descriptor is closed, so ENFILE never comes
abbrev pub open_line : Unix → ℕ → Process → (path : List ℕ) → (flags : ℕ) → Line
open_line unix slot process path flags = do
  lowest ← refuse Emfile unless lowest_closed process
  number ← refuse Enfile unless free_description unix.files.descriptions
  spot ← walked unix.files path
  file ← to_open unix path flags spot spot.inode
  replies (with_opened file.state number (opening flags file.inode)) slot (with_descriptor process lowest number) lowest

-- ---- mkdir, rmdir, unlink, link

-- mkdir(path) (POSIX.1)
abbrev pub mkdir_line : Unix → ℕ → Process → (path : List ℕ) → Line
mkdir_line unix slot process path = do
  spot ← walked unix.files path
  refuse Eexist when is_some spot.inode
  inode ← made unix spot (Directory spot.directory [])
  replies (with_made unix spot inode (Directory spot.directory [])) slot process 0

-- the files without a name, and without its inode, unless that lives on
abbrev pub removed : Files → Spot → ℕ → Files
removed files spot inode = with_inode_dropped (without_name files spot.directory spot.name) inode

-- rmdir(path) (POSIX.1)
abbrev pub rmdir_line : Unix → ℕ → Process → (path : List ℕ) → Line
rmdir_line unix slot process path = do
  spot ← walked unix.files path
  refuse Ebusy when is_root spot
  refuse Einval when is_dots spot
  inode ← refuse Enoent unless spot.inode
  refuse Enotdir where_not is_directory (at unix.files.inodes inode)
  refuse Enotempty when has_names (at unix.files.inodes inode)
  replies (with_files unix (removed unix.files spot inode)) slot process 0

-- unlink(path) (POSIX.1)
abbrev pub unlink_line : Unix → ℕ → Process → (path : List ℕ) → Line
unlink_line unix slot process path = do
  spot ← walked unix.files path
  inode ← refuse Enoent unless spot.inode
  refuse Eperm when is_directory (at unix.files.inodes inode)
  replies (with_files unix (removed unix.files spot inode)) slot process 0

-- the state with another name for an inode
abbrev pub with_link : Unix → Spot → (inode : ℕ) → Unix
with_link unix spot inode = with_files unix (with_name unix.files spot.directory spot.name inode)

-- link(old, new) (POSIX.1)
abbrev pub link_line : Unix → ℕ → Process → (old new : List ℕ) → Line
link_line unix slot process old new = do
  from ← walked unix.files old
  inode ← refuse Enoent unless from.inode
  refuse Eperm when is_directory (at unix.files.inodes inode)
  to ← walked unix.files new
  refuse Eexist when is_some to.inode
  refuse Enotdir when is_slashed new
  refuse Enospc when is_full unix.files to.directory
  refuse Enospc where_not has_room (with_link unix to inode)
  replies (with_link unix to inode) slot process 0

-- ---- rename

-- the parent of a directory that was moved
abbrev pub with_parent : Files → ℕ → ℕ → Option Inode → Files
with_parent files inode parent (Some (Directory old places)) = with_inode files inode (Directory parent places)
with_parent files inode parent (Some (File bytes)) = files
with_parent files inode parent (Some (Pipe bytes)) = files
with_parent files inode parent (Some Console) = files
with_parent files inode parent None = files

-- the old name goes, and a directory gets its new parent
abbrev pub moved : Files → (from to : Spot) → ℕ → Files
moved files from to inode =
    let after = without_name files from.directory from.name in
    with_parent after inode to.directory (at after.inodes inode)

-- onto what stands at the new name, or to a name that isn't there yet
abbrev pub renamed : Unix → (from to : Spot) → (inode : ℕ) → Option ℕ → Result Files Errno
renamed unix from to inode (Some other) = do
  refuse Enotdir when (is_directory (at unix.files.inodes inode) && not (is_directory (at unix.files.inodes other)))
  refuse Eisdir when (is_directory (at unix.files.inodes other) && not (is_directory (at unix.files.inodes inode)))
  refuse Enotempty when has_names (at unix.files.inodes other)
  Ok (with_inode_dropped (moved (with_name_moved unix.files to.directory to.name inode) from to inode) other)
renamed unix from to inode None = do
  refuse Enospc when is_full unix.files to.directory
  refuse Enospc where_not has_room (with_link unix to inode)
  Ok (moved (with_link unix to inode).files from to inode)

abbrev pub is_same : ℕ → Option ℕ → Bool
is_same inode None = false
is_same inode (Some other) = other == inode

-- rename(old, new) (POSIX.1)
abbrev pub rename_line : Unix → ℕ → Process → (old new : List ℕ) → Line
rename_line unix slot process old new = do
  from ← walked unix.files old
  refuse Ebusy when is_root from
  refuse Einval when is_dots from
  inode ← refuse Enoent unless from.inode
  to ← walked unix.files new
  refuse Ebusy when is_root to
  refuse Einval when is_dots to
  refuse Enotdir when (is_slashed new && is_none to.inode && not (is_directory (at unix.files.inodes inode)))
  if is_same inode to.inode then replies unix slot process 0 else do
    refuse Einval when (is_directory (at unix.files.inodes inode) && is_within unix.files.inodes inode inode_count to.directory)
    files ← renamed unix from to inode to.inode
    replies (with_files unix files) slot process 0
