-- Files and open descriptions (POSIX.1, file, directory, pipe, open file description; the console is our own). Inode
-- numbers are below 1,024 and description numbers below 2,048. How many places name an inode, how many descriptions it has
-- open, and how many descriptors a description has is counted in the state, and stored nowhere.
use Rattle.std.specs.Prelude.{ℕ, zero, suc, ◌+◌, ◌*◌, Bool, true, false, not, ◌&&◌, ◌||◌, List, [], ◌∷◌, Option, Some, None, is_some, is_none, length, bytes_eq, ◌==◌, nat_lt, nat_le, if◌then◌else◌}
use Rattle.std.specs.List.{list_any, list_all, count_by}
use Rattle.unix_model.specs.Limits.{description_count, inode_count, most_places, place_bytes}
use Rattle.unix_model.specs.Numbers.{pages_of}
use Rattle.unix_model.specs.Tables.{at, with_at, any_below, least_below, sum_below, option_or}

-- a name in a directory, of 1 to 27 bytes
pub record Entry : Type 0 where
  pub name : List ℕ
  pub inode : ℕ

-- what an inode number stands for: a file, a directory, a pipe, or the console
pub data Inode : Type 0 where
  File : (bytes : List ℕ) → Inode
  -- the parent's inode number, and the places, of which those without an entry are holes
  Directory : (parent : ℕ) (places : List (Option Entry)) → Inode
  Pipe : (bytes : List ℕ) → Inode
  Console : Inode

-- an open file description (POSIX.1): what it is open on, how, and where the next read or write begins
pub record Description : Type 0 where
  pub inode : ℕ
  pub readable : Bool
  pub writable : Bool
  pub append : Bool
  pub offset : ℕ

-- all inodes and open descriptions by their numbers
pub record Files : Type 0 where
  pub inodes : ℕ → Option Inode
  pub descriptions : ℕ → Option Description

-- the numbers of the console and of the root, which always live
abbrev pub console_inode : ℕ
console_inode = 0

abbrev pub root_inode : ℕ
root_inode = 1

-- ---- what an inode is

abbrev pub is_directory : Option Inode → Bool
is_directory (Some (Directory parent places)) = true
is_directory (Some (File bytes)) = false
is_directory (Some (Pipe bytes)) = false
is_directory (Some Console) = false
is_directory None = false

-- the bytes of a file
abbrev pub file_bytes : Option Inode → Option (List ℕ)
file_bytes (Some (File bytes)) = Some bytes
file_bytes (Some (Directory parent places)) = None
file_bytes (Some (Pipe bytes)) = None
file_bytes (Some Console) = None
file_bytes None = None

-- the places of a directory, and none of anything else
abbrev pub places_of : Option Inode → List (Option Entry)
places_of (Some (Directory parent places)) = places
places_of (Some (File bytes)) = []
places_of (Some (Pipe bytes)) = []
places_of (Some Console) = []
places_of None = []

-- the parent of a directory
abbrev pub parent_of : Option Inode → ℕ
parent_of (Some (Directory parent places)) = parent
parent_of (Some (File bytes)) = 0
parent_of (Some (Pipe bytes)) = 0
parent_of (Some Console) = 0
parent_of None = 0

-- how many bytes it has; a place of a directory has 32
abbrev pub inode_length : Option Inode → ℕ
inode_length (Some (File bytes)) = length bytes
inode_length (Some (Directory parent places)) = place_bytes * length places
inode_length (Some (Pipe bytes)) = length bytes
inode_length (Some Console) = 0
inode_length None = 0

-- the pages that it is promised: a file or a directory has its length in whole pages, and a pipe has one
abbrev pub inode_pages : Option Inode → ℕ
inode_pages None = 0
inode_pages (Some (File bytes)) = pages_of (length bytes)
inode_pages (Some (Directory parent places)) = pages_of (place_bytes * length places)
inode_pages (Some (Pipe bytes)) = 1
inode_pages (Some Console) = 0

-- ---- names in a directory

-- the inode of a place that has this name
abbrev pub place_inode : List ℕ → Option Entry → Option ℕ
place_inode name None = None
place_inode name (Some entry) = if bytes_eq entry.name name then Some entry.inode else None

-- the inode of the first place with this name
abbrev pub inode_named : List (Option Entry) → List ℕ → Option ℕ
inode_named [] name = None
inode_named (place ∷ places) name = option_or (place_inode name place) (inode_named places name)

-- a directory has a name
abbrev pub has_names : Option Inode → Bool
has_names directory = list_any is_some (places_of directory)

-- the places with an entry more: in the first hole, else in a new place at the end
abbrev pub with_entry : List (Option Entry) → Entry → List (Option Entry)
with_entry [] entry = Some entry ∷ []
with_entry (None ∷ places) entry = Some entry ∷ places
with_entry (Some other ∷ places) entry = Some other ∷ with_entry places entry

-- the places with the first one of a name changed: to a hole, or to another entry
abbrev pub with_place : List (Option Entry) → List ℕ → Option Entry → List (Option Entry)
with_place [] name changed = []
with_place (place ∷ places) name changed =
    if is_some (place_inode name place) then changed ∷ places else place ∷ with_place places name changed

-- ---- changes

abbrev pub with_inode : Files → ℕ → Inode → Files
with_inode files number inode = record files { inodes = with_at files.inodes number (Some inode) }

-- the files with a directory's places changed
abbrev pub with_places : Files → ℕ → List (Option Entry) → Files
with_places files directory places = with_inode files directory (Directory (parent_of (at files.inodes directory)) places)

-- no name more goes into a directory: all its places are used, and there are as many as a directory has
abbrev pub is_full : Files → ℕ → Bool
is_full files directory = nat_le most_places (length (places_of (at files.inodes directory))) && list_all is_some (places_of (at files.inodes directory))

-- the files with a name for an inode
abbrev pub with_name : Files → ℕ → List ℕ → ℕ → Files
with_name files directory name inode =
    with_places files directory (with_entry (places_of (at files.inodes directory)) (record { name = name; inode = inode }))

-- the files with a name taken away
abbrev pub without_name : Files → ℕ → List ℕ → Files
without_name files directory name = with_places files directory (with_place (places_of (at files.inodes directory)) name None)

-- the files with a name for another inode
abbrev pub with_name_moved : Files → ℕ → List ℕ → ℕ → Files
with_name_moved files directory name inode =
    with_places files directory (with_place (places_of (at files.inodes directory)) name (Some (record { name = name; inode = inode })))

abbrev pub with_description : Files → ℕ → Description → Files
with_description files number description = record files { descriptions = with_at files.descriptions number (Some description) }

-- ---- what names an inode

-- the place holds an entry of this inode
abbrev pub entry_names : ℕ → Option Entry → Bool
entry_names inode None = false
entry_names inode (Some entry) = entry.inode == inode

-- the directory has an entry of this inode
abbrev pub directory_names : ℕ → Option Inode → Bool
directory_names inode (Some (Directory parent places)) = list_any (entry_names inode) places
directory_names inode (Some (File bytes)) = false
directory_names inode (Some (Pipe bytes)) = false
directory_names inode (Some Console) = false
directory_names inode None = false

-- some directory has an entry of this inode
abbrev pub is_linked : (ℕ → Option Inode) → ℕ → Bool
is_linked inodes inode = any_below (λ n. directory_names inode (at inodes n)) inode_count

-- how many places name an inode, and one more for the root
unfoldable pub links : (ℕ → Option Inode) → ℕ → ℕ
links inodes inode =
    sum_below (λ n. count_by (entry_names inode) (places_of (at inodes n))) inode_count + (if inode == root_inode then 1 else 0)

-- the description is open on this inode
abbrev pub description_names : ℕ → Option Description → Bool
description_names inode None = false
description_names inode (Some description) = description.inode == inode

-- some description is open on this inode
abbrev pub is_open : (ℕ → Option Description) → ℕ → Bool
is_open descriptions inode = any_below (λ n. description_names inode (at descriptions n)) description_count

-- a description is open on this inode for reading, and for writing
abbrev pub reads_inode : ℕ → Option Description → Bool
reads_inode inode None = false
reads_inode inode (Some description) = (description.inode == inode) && description.readable

abbrev pub writes_inode : ℕ → Option Description → Bool
writes_inode inode None = false
writes_inode inode (Some description) = (description.inode == inode) && description.writable

abbrev pub has_reader : Files → ℕ → Bool
has_reader files inode = any_below (λ n. reads_inode inode (at files.descriptions n)) description_count

abbrev pub has_writer : Files → ℕ → Bool
has_writer files inode = any_below (λ n. writes_inode inode (at files.descriptions n)) description_count

-- a directory is another, or below it: it comes to it by so many parents or fewer
unfoldable pub is_within : (ℕ → Option Inode) → (outer steps directory : ℕ) → Bool
is_within inodes outer zero directory = directory == outer
is_within inodes outer (suc steps) directory = (directory == outer) || is_within inodes outer steps (parent_of (at inodes directory))

-- ---- what lives

-- the console and the root live always, every other inode while it has an entry or an open description
abbrev pub is_kept : Files → ℕ → Bool
is_kept files inode = nat_lt inode 2 || is_linked files.inodes inode || is_open files.descriptions inode

-- the files without an inode, unless that is kept
abbrev pub with_inode_dropped : Files → ℕ → Files
with_inode_dropped files inode =
    if is_kept files inode then files else record files { inodes = with_at files.inodes inode None }

-- the files without a description, and without its inode unless that is kept
abbrev pub with_description_freed : Files → ℕ → Option Description → Files
with_description_freed files number None = files
with_description_freed files number (Some description) =
    with_inode_dropped (record files { descriptions = with_at files.descriptions number None }) description.inode

-- ---- free numbers

-- the least free inode number, or None where all 1,024 are taken; the console's and the root's never are free
unfoldable pub free_inode : (ℕ → Option Inode) → Option ℕ
free_inode inodes = least_below (λ n. nat_le 2 n && is_none (at inodes n)) inode_count

-- The least free description number, and the least one beside another. There always is one where a descriptor is closed,
-- and there are two where two are: there are as many numbers as descriptors of all processes.
unfoldable pub free_description : (ℕ → Option Description) → Option ℕ
free_description descriptions = least_below (λ n. is_none (at descriptions n)) description_count

unfoldable pub next_description : (ℕ → Option Description) → ℕ → Option ℕ
next_description descriptions number = least_below (λ n. not (n == number) && is_none (at descriptions n)) description_count
