-- What a store of a machine holds.
use Rattle.std.specs.Prelude.{◌≡◌, ℕ, ◌+◌, ◌-◌, ◌*◌, ◌/◌, ◌%◌, ◌<◌, ◌≤◌, ◌==◌, if◌then◌else◌, Option, Some, List, [], length, drop, replicate, slice_index, slice_index_or, slice_set}
use Rattle.std.specs.Int.{from_le_bytes, w32}
use Rattle.kn_base.specs.declared.key.Key.{Key}
use Rattle.kn_base.specs.declared.key.Key.TheVariants.{Null}
use Rattle.kn_base.specs.Rows.{table_at}
use Rattle.kn_base.specs.Memory.{Memory, page_at, zero_page}
use Rattle.kernel_tables.specs.declared.row.Row.{Row}
use Rattle.kernel_tables.specs.declared.row.Row.TheVariants.{Unspelled, Free as FreeRow}
use Rattle.kernel_tables.specs.declared.inode.Inode.{Inode}
use Rattle.kernel_tables.specs.declared.description.Description.{Description}
use Rattle.kernel_tables.specs.Files.{inode_entry_of, description_entry_of}
use Rattle.kernel_tables.specs.declared.entry.PageOwner.{PageOwner}
use Rattle.kernel_tables.specs.declared.entry.NodeOwner.{NodeOwner}
use Rattle.kernel_tables.specs.declared.entry.Entry.{Entry}
use Rattle.kernel_tables.specs.declared.entry.Entry.TheVariants.{Free}
use Rattle.kernel_tables.specs.declared.machine.Machine.{Machine}
use Rattle.kernel_tables.specs.Entries.{page_entry_of, node_entry_of}

-- A bank of so many pages has four nodes for each of them and 1,296 more.
abbrev pub node_count : ℕ → ℕ
node_count size = 4 * size + 1296

-- the pages that so many entries of eight bytes take
abbrev pub entry_pages : ℕ → ℕ
entry_pages entries = (entries + 511) / 512

-- The entries of pages begin at page 18, those of nodes behind them, and the pages of the bank behind these.
unfoldable pub node_entry_page : ℕ → ℕ
node_entry_page size = 18 + entry_pages size

unfoldable pub first_page : ℕ → ℕ
first_page size = 18 + entry_pages size + entry_pages (node_count size)

-- the ten words of the machine page
abbrev pub machine_of : List ℕ → Machine
machine_of words = record {
  size = slice_index words 0;
  quantum = slice_index words 1;
  position = slice_index words 2;
  next_pid = slice_index words 3;
  promised = slice_index words 4;
  free_page = slice_index words 5;
  free_node = slice_index words 6;
  memory_taken = slice_index words 7;
  pages_taken = slice_index words 8;
  nodes_taken = slice_index words 9;
}

-- the words of the machine page in which word n is another one
abbrev pub with_word : Machine → ℕ → ℕ → Machine
with_word machine n word = record {
  size = if n == 0 then word else machine.size;
  quantum = if n == 1 then word else machine.quantum;
  position = if n == 2 then word else machine.position;
  next_pid = if n == 3 then word else machine.next_pid;
  promised = if n == 4 then word else machine.promised;
  free_page = if n == 5 then word else machine.free_page;
  free_node = if n == 6 then word else machine.free_node;
  memory_taken = if n == 7 then word else machine.memory_taken;
  pages_taken = if n == 8 then word else machine.pages_taken;
  nodes_taken = if n == 9 then word else machine.nodes_taken;
}

-- The typed tables of a store. `size` is the number of pages of the bank that the store's nodes are enough for. Page 0
-- is `page_zero`, page 1 has the ten words of `machine` and 1,014 others, pages 2 to 9 have 1,024 inode entries and pages
-- 10 to 17 have 2,048 entries of descriptions. Entry n of `page_entries` and page n of `bank` are page
-- `first_page size + n` of the store.
pub record Kernel : Type 0 where
  pub size : ℕ
  pub pages : ℕ
  pub nodes : ℕ
  pub page_zero : List ℕ
  pub machine : Machine
  pub other_words : List ℕ
  pub inodes : List (Row Inode)
  pub descriptions : List (Row Description)
  pub page_entries : List (Entry PageOwner)
  pub node_entries : List (Entry NodeOwner)
  pub bank : List (List ℕ)
  pub keys : List (Option Key)

-- all words of the machine page
unfoldable pub page_words : List (List ℕ) → List ℕ
page_words pages = table_at (from_le_bytes w32) 4 1024 1 1 pages

-- the tables of a store with a bank of so many pages
unfoldable pub tables_of : ℕ → Memory → Kernel
tables_of size memory =
    record {
      size = size;
      pages = length memory.pages;
      nodes = length memory.keys / 16;
      page_zero = page_at memory 0;
      machine = machine_of (page_words memory.pages);
      other_words = drop 10 (page_words memory.pages);
      inodes = table_at inode_entry_of 32 128 2 8 memory.pages;
      descriptions = table_at description_entry_of 16 256 10 8 memory.pages;
      page_entries = table_at page_entry_of 8 512 18 (entry_pages size) memory.pages;
      node_entries = table_at node_entry_of 8 512 (node_entry_page size) (entry_pages (node_count size)) memory.pages;
      bank = drop (first_page size) memory.pages;
      keys = memory.keys;
    }

unfoldable pub kernel_of : Memory → Kernel
kernel_of memory = tables_of ((length memory.keys / 16 - 1296) / 4) memory

-- the tables of a store of zeros of the size for so many pages
unfoldable pub zero_kernel : ℕ → Kernel
zero_kernel size = record {
  size = size;
  pages = first_page size + size;
  nodes = node_count size;
  page_zero = zero_page;
  machine = machine_of [];
  other_words = replicate 1014 0;
  inodes = replicate 1024 FreeRow;
  descriptions = replicate 2048 FreeRow;
  page_entries = replicate (512 * entry_pages size) (Free 0);
  node_entries = replicate (512 * entry_pages (node_count size)) (Free 0);
  bank = replicate size zero_page;
  keys = replicate (16 * node_count size) (Some Null);
}

-- The sizes of a store for a bank of `size` pages, which are a multiple of 64 from 64 to 16,384.
pub record IsSized (size pages nodes : ℕ) : Type 0 where
  pub least : 64 ≤ size
  pub most : size ≤ 16384
  pub multiple : size % 64 ≡ 0
  pub all_pages : pages ≡ first_page size + size
  pub all_nodes : nodes ≡ node_count size

abbrev pub Sized : Kernel → Type 0
Sized kernel = IsSized kernel.size kernel.pages kernel.nodes

-- how many inodes and open descriptions there are
abbrev pub inode_count : ℕ
inode_count = 1024

abbrev pub description_count : ℕ
description_count = 2048

-- the entry of an inode and of a description
abbrev pub inode_at : Kernel → ℕ → Row Inode
inode_at kernel number = slice_index_or kernel.inodes number Unspelled

abbrev pub description_at : Kernel → ℕ → Row Description
description_at kernel number = slice_index_or kernel.descriptions number Unspelled

-- The page of this number is one of a bank of so many pages.
pub record IsBankPage (size page : ℕ) : Type 0 where
  pub low : first_page size ≤ page
  pub high : page < first_page size + size

-- the bytes of a page of the bank by its number
abbrev pub bank_page : Kernel → ℕ → List ℕ
bank_page kernel page = slice_index_or kernel.bank (page - first_page kernel.size) []

-- the bank in which the page of this number has other bytes
abbrev pub with_bank_page : Kernel → ℕ → List ℕ → List (List ℕ)
with_bank_page kernel page bytes = slice_set kernel.bank (page - first_page kernel.size) bytes

-- the bytes of a page that a key of memory may name: page 0, or a page of the bank
abbrev pub memory_page : Kernel → ℕ → List ℕ
memory_page kernel page = if page == 0 then kernel.page_zero else bank_page kernel page
