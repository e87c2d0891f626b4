-- The memory of the tree of a file of a length, whether a tree is there or not.
use Rattle.std.specs.Prelude.{◌≡◌, ◌<◌, ◌≤◌, ◌/◌, ◌%◌, ℕ, true, Some, slice_index_or}
use Rattle.unix_model.specs.Memory.{Memory, Page}
use Rattle.unix_model.specs.Numbers.{pages_of}
use Rattle.unix_model.specs.Tables.{at}
use Rattle.file_trees.specs.Trees.{tree_page}

-- a byte of a memory, which is zero where no page is there
abbrev pub byte_in : Memory → ℕ → ℕ
byte_in memory i = slice_index_or (tree_page memory (i / 4096)) (i % 4096) 0

-- no page is there that lies past the length, each may be written, and all bytes behind the length are zero
pub record IsFileMemory (memory : Memory) (size : ℕ) : Type 0 where
  pub within : (number : ℕ) (page : Page) → at memory number ≡ Some page → number < pages_of size
  pub writable : (number : ℕ) (page : Page) → at memory number ≡ Some page → page.writable ≡ true
  pub zeros : (i : ℕ) → size ≤ i → byte_in memory i ≡ 0
