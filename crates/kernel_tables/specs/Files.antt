-- Inode entries and open descriptions. An inode entry has eight words: the number of its kind, then length, entries,
-- opens, root, parent and start, and 0. A description has four bytes, which are 1 for used, the mode (1 for reading, 2 for
-- writing, 3 for both), 1 for append and 0, and then the words inode, offset and number of descriptors. A row of zeros is
-- free; any other bytes spell nothing.
use Rattle.std.specs.Prelude.{◌≡◌, ℕ, ◌<◌, Bool, ◌==◌, ◌&&◌, ◌||◌, nat_lt, Option, Some, None, List, replicate, if◌then◌else◌, slice_index}
use Rattle.std.specs.Int.{from_le_bytes, w32}
use Rattle.std.specs.Str.{bytes_eq}
use Rattle.kn_base.specs.Rows.{part_at}
use Rattle.kernel_tables.specs.declared.row.Row.{Row}
use Rattle.kernel_tables.specs.declared.row.Row.TheVariants.{Free, Used, Unspelled}
use Rattle.kernel_tables.specs.declared.inode.InodeKind.{InodeKind}
use Rattle.kernel_tables.specs.declared.inode.InodeKind.TheVariants.{File, Dir, Pipe, Console}
use Rattle.kernel_tables.specs.declared.inode.Inode.{Inode}
use Rattle.kernel_tables.specs.declared.description.Description.{Description}

-- the word of a row that begins at a byte
abbrev pub row_word : List ℕ → ℕ → ℕ
row_word bytes at = from_le_bytes w32 (part_at bytes at 4)

-- the kind of inodes of a number
abbrev pub inode_kind : ℕ → Option InodeKind
inode_kind number =
    if number == 1 then Some File
    else if number == 2 then Some Dir
    else if number == 3 then Some Pipe
    else if number == 4 then Some Console
    else None

-- zeros are free, and other bytes spell nothing
abbrev pub free_or_unspelled : {X : Type 0} → List ℕ → ℕ → Row X
free_or_unspelled bytes size = if bytes_eq bytes (replicate size 0) then Free else Unspelled

-- the inode of this kind that the words spell
abbrev pub inode_of_kind : Option InodeKind → List ℕ → Row Inode
inode_of_kind None bytes = free_or_unspelled bytes 32
inode_of_kind (Some kind) bytes =
    if row_word bytes 28 == 0
    then Used (record {
      kind = kind;
      length = row_word bytes 4;
      entries = row_word bytes 8;
      opens = row_word bytes 12;
      root = row_word bytes 16;
      parent = row_word bytes 20;
      start = row_word bytes 24;
    })
    else Unspelled

-- the inode entry that 32 bytes spell
unfoldable pub inode_entry_of : List ℕ → Row Inode
inode_entry_of bytes = inode_of_kind (inode_kind (row_word bytes 0)) bytes

-- the number of the mode of a description that is open for reading and for writing as said
pub record IsMode (mode : ℕ) (readable writable : Bool) : Type 0 where
  pub few : mode < 4
  pub reads : (mode == 1 || mode == 3) ≡ readable
  pub writes : (mode == 2 || mode == 3) ≡ writable

-- the description that sixteen bytes spell
unfoldable pub description_entry_of : List ℕ → Row Description
description_entry_of bytes =
    let mode = slice_index bytes 1 in
    if slice_index bytes 0 == 1 && nat_lt mode 4 && nat_lt (slice_index bytes 2) 2 && slice_index bytes 3 == 0
    then Used (record {
      readable = mode == 1 || mode == 3;
      writable = mode == 2 || mode == 3;
      append = slice_index bytes 2 == 1;
      inode = row_word bytes 4;
      offset = row_word bytes 8;
      descriptors = row_word bytes 12;
    })
    else free_or_unspelled bytes 16
