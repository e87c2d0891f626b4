-- Inodes and open descriptions that are right by themselves, and tables of them.
use Rattle.std.specs.Prelude.{◌≡◌, ℕ, ◌<◌, ◌≤◌, ◌%◌, ◌||◌, ◌↔◌, true, Option, Some, None, List, slice_index_or, ⊤}
use Rattle.kernel_tables.specs.declared.row.Row.{Row}
use Rattle.kernel_tables.specs.declared.row.Row.TheVariants.{Free, Used, Unspelled}
use Rattle.kernel_tables.specs.declared.inode.InodeKind.{InodeKind}
use Rattle.kernel_tables.specs.declared.inode.InodeKind.TheVariants.{File, Dir, Pipe, Console}
use Rattle.kernel_tables.specs.declared.inode.Inode.{Inode}
use Rattle.kernel_tables.specs.declared.description.Description.{Description}
use Rattle.kernel_tables.specs.Kernel.{inode_count, description_count}

-- A file has at most 4,194,304 bytes.
pub record IsFile (inode : Inode) : Type 0 where
  pub length : inode.length ≤ 4194304
  pub no_parent : inode.parent ≡ 0
  pub no_start : inode.start ≡ 0

-- A directory has at most 1,024 places of 32 bytes, and the number of an inode as its parent.
pub record IsDirectory (inode : Inode) : Type 0 where
  pub length : inode.length ≤ 32768
  pub whole_places : inode.length % 32 ≡ 0
  pub parent : inode.parent < inode_count
  pub no_start : inode.start ≡ 0

-- A pipe holds at most 4,096 bytes, of which the first has a place in its page.
pub record IsPipe (inode : Inode) : Type 0 where
  pub length : inode.length ≤ 4096
  pub start : inode.start < 4096
  pub no_parent : inode.parent ≡ 0

-- The console has no bytes of its own.
pub record IsConsole (inode : Inode) : Type 0 where
  pub no_length : inode.length ≡ 0
  pub no_root : inode.root ≡ 0
  pub no_parent : inode.parent ≡ 0
  pub no_start : inode.start ≡ 0

-- an inode that is right for its kind
abbrev pub IsOfKind : InodeKind → Inode → Type 0
IsOfKind File = IsFile
IsOfKind Dir = IsDirectory
IsOfKind Pipe = IsPipe
IsOfKind Console = IsConsole

-- An inode that may stand at a number: inode 0 is the console and no other one is, and inode 1 is the root directory, which
-- is its own parent.
pub record IsInodeAt (number : ℕ) (inode : Inode) : Type 0 where
  pub of_kind : IsOfKind inode.kind inode
  pub console : (inode.kind ≡ Console) ↔ (number ≡ 0)
  pub root_kind : number ≡ 1 → inode.kind ≡ Dir
  pub root_parent : number ≡ 1 → inode.parent ≡ 1

abbrev pub IsInodeRow : ℕ → Row Inode → Type 0
IsInodeRow number Free = 2 ≤ number
IsInodeRow number (Used inode) = IsInodeAt number inode
IsInodeRow number Unspelled = ⊥

-- each row of the table of inodes is free or a right inode; the console and the root are never free
pub record InodesGood (inodes : List (Row Inode)) : Type 0 where
  pub right : (number : ℕ) → number < inode_count → IsInodeRow number (slice_index_or inodes number Unspelled)

-- An open description is open for reading or for writing, and of an inode.
pub record IsDescription (description : Description) : Type 0 where
  pub mode : (description.readable || description.writable) ≡ true
  pub inode : description.inode < inode_count

abbrev pub IsDescriptionRow : Row Description → Type 0
IsDescriptionRow Free = ⊤
IsDescriptionRow (Used description) = IsDescription description
IsDescriptionRow Unspelled = ⊥

-- each row of the table of open descriptions is free or a right description
pub record DescriptionsGood (descriptions : List (Row Description)) : Type 0 where
  pub right : (number : ℕ) → number < description_count → IsDescriptionRow (slice_index_or descriptions number Unspelled)

-- the row of what is there, or of nothing
abbrev pub row_of : {X : Type 0} → Option X → Row X
row_of None = Free
row_of (Some x) = Used x
