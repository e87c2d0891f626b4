-- The places of a directory change.
use Rattle.std.specs.Prelude.{◌≡◌, ◌<◌, ◌≤◌, ◌+◌, ◌-◌, ◌*◌, ◌/◌, ◌⊎◌, ◌++◌, ◌∷◌, [], ℕ, List, Option, Some, None, is_some, length, Result, Ok, Err}
use Rattle.kernel_tables.specs.declared.entry.PageOwner.TheVariants.{Directory}
use Rattle.kernel_tables.specs.declared.inode.Inode.{Inode}
use Rattle.kernel_tables.specs.Kernel.{Kernel}
use Rattle.kn_base.specs.declared.key.Key.TheVariants.{Null}
use Rattle.space_bank.specs.Bank.{BankGood}
use Rattle.forest.specs.Objects.{OfFile}
use Rattle.unix_model.specs.declared.calls.Errno.{Errno}
use Rattle.unix_model.specs.declared.calls.Errno.TheVariants.{Eexist, Enoent, Enospc}
use Rattle.unix_model.specs.Files.{Entry, with_places, with_entry, with_name, inode_named, is_full, places_of}
use Rattle.unix_model.specs.Limits.{place_bytes}
use Rattle.unix_model.specs.Numbers.{pages_of}
use Rattle.unix_model.specs.Refusals.{◌>>◌, refuse◌when◌, refuse◌where_not◌, refuse◌unless◌}
use Rattle.unix_model.specs.Room.{has_room}
use Rattle.unix_model.specs.State.{Unix, with_files}
use Rattle.unix_model.specs.Tables.{at, with_at}
use Rattle.seg_tree.specs.Promises.{Adds}
use Rattle.kernel_machine.specs.Contents.{places_in}
use Rattle.kernel_machine.specs.Laws.{ChangesMemory}
use Rattle.kernel_machine.specs.Machine.{KernelMachine, machine_of, inodes_of}
use Rattle.kernel_machine.specs.Standing.{Standing}
use Rattle.kernel_machine.specs.View.{view, files_in}
use Rattle.file_trees.specs.Pieces.{PutsInTree}
use Rattle.dir_domain.specs.Rows.{places_seen, bytes_stored}

-- the machine with another tree, and another length, of a directory
abbrev pub with_tree : KernelMachine → ℕ → Inode → (root length : ℕ) → KernelMachine
with_tree machine dir row root length = record machine { inodes = with_at machine.inodes dir (Some (record row { root = root; length = length })) }

-- The places of a directory are others now. Of the machine its tree alone has changed, and its root and length where it has a tree, or
-- a place, more; of the flat state the directory alone. What stands stands on.
pub record ChangesPlaces (old new : Kernel) (dir : ℕ) (places : List (Option Entry)) : Type 0 where
  pub row : Inode
  pub root : ℕ
  pub there : at (inodes_of old) dir ≡ Some row
  pub machine : ChangesMemory (with_tree (machine_of old) dir row root (place_bytes * length places)) (machine_of new) root
  pub view : view (machine_of new) ≡ with_files (view (machine_of old)) (with_places (files_in (machine_of old)) dir places)
  pub standing : Standing new

-- the inode of a name, or that there is no such name
abbrev pub name_told : List (Option Entry) → List ℕ → Result ℕ Errno
name_told places name = refuse Enoent unless inode_named places name

-- the entry of a name
abbrev pub entry_of : List ℕ → ℕ → Entry
entry_of name inode = record { name = name; inode = inode }

-- the places that a directory has with another length: holes are added at its end
abbrev pub places_for : Kernel → Inode → ℕ → List (Option Entry)
places_for kernel row size = places_in (bytes_stored kernel (record row { length = size })) (size / place_bytes)

-- A tree was made, and bytes were put into it, in a page of a directory.
pub record Plants (old new : Kernel) (space place : ℕ) (bytes : List ℕ) : Type 0 where
  pub mid : Kernel
  pub adds : Adds old mid space (Some OfFile) Null (λ page. None)
  pub good : BankGood mid
  pub puts : PutsInTree mid new space place bytes Directory

-- the state with a name more in a directory, or why there is none
abbrev pub with_name_added : Unix → ℕ → List ℕ → ℕ → Result Unix Errno
with_name_added unix dir name inode = do
  refuse Eexist when is_some (inode_named (places_of (at unix.files.inodes dir)) name)
  refuse Enospc when is_full unix.files dir
  refuse Enospc where_not has_room (with_files unix (with_name unix.files dir name inode))
  Ok (with_files unix (with_name unix.files dir name inode))

-- A name was added as the definitions say, or nothing has changed.
abbrev pub AddsName : Kernel → Kernel → ℕ → List ℕ → ℕ → Result (Unit {0}) Errno → Type 0
AddsName old new dir name inode (Ok done) =
    (with_name_added (view (machine_of old)) dir name inode ≡ Ok (view (machine_of new)))
    × ChangesPlaces old new dir (with_entry (places_seen old dir) (entry_of name inode))
AddsName old new dir name inode (Err errno) = (with_name_added (view (machine_of old)) dir name inode ≡ Err errno) × (new ≡ old)

-- how many pages more a directory is promised with a place more
abbrev pub more_pages : ℕ → ℕ
more_pages length = pages_of (length + place_bytes) - pages_of length

-- A place was put behind the last one, and its page promised; or there are 1,024, or no page is left to promise.
abbrev pub Appends : Kernel → Kernel → ℕ → Inode → Option Entry → Result (Unit {0}) Errno → Type 0
Appends old new dir row place (Ok done) =
    (row.length < 32768) × (old.machine.promised + more_pages row.length ≤ old.size) × (new.machine.promised ≡ old.machine.promised + more_pages row.length)
    × ChangesPlaces old new dir (places_seen old dir ++ place ∷ [])
Appends old new dir row place (Err errno) =
    (errno ≡ Enospc) × ((row.length ≡ 32768) ⊎ (old.size < old.machine.promised + more_pages row.length)) × (new ≡ old)
