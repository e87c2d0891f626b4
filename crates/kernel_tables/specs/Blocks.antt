-- Which blocks of the store a call may change. A page is the block of its number. The blocks behind the pages hold the keys,
-- sixteen nodes to a block.
use Rattle.std.specs.Prelude.{◌≡◌, ◌⊎◌, ℕ, ◌+◌, ◌/◌, List, [], ◌∷◌, length, slice_index_or}
use Rattle.kernel_tables.specs.Kernel.{node_entry_page}

-- the block of the words of the machine page
abbrev pub machine_block : ℕ
machine_block = 1

-- the blocks of the entries of an inode, of a description, of a page and of a node, and of the keys of a node
abbrev pub inode_block : ℕ → ℕ
inode_block number = 2 + number / 128

abbrev pub description_block : ℕ → ℕ
description_block number = 10 + number / 256

abbrev pub page_entry_block : ℕ → ℕ
page_entry_block n = 18 + n / 512

abbrev pub node_entry_block : ℕ → ℕ → ℕ
node_entry_block size node = node_entry_page size + node / 512

abbrev pub key_block : ℕ → ℕ → ℕ
key_block pages node = pages + node / 16

-- a block is one of these
abbrev pub IsAmong : ℕ → List ℕ → Type 0
IsAmong block [] = ⊥
IsAmong block (other ∷ others) = (block ≡ other) ⊎ IsAmong block others

-- No block has changed but these, of which some may stand in the list twice.
pub record ChangesBlocks (old new : List (List ℕ)) (changed : List ℕ) : Type 0 where
  pub same_number : length new ≡ length old
  pub others : (block : ℕ) → (IsAmong block changed → ⊥) → slice_index_or new block [] ≡ slice_index_or old block []
