-- Pages of the tree of a file are given back, and bytes are made zero: its memory changes, and every other tree and space is left.
use Rattle.std.specs.Prelude.{◌≡◌, ◌/◌, ◌%◌, ◌&&◌, ℕ, nat_le, nat_lt, if◌then◌else◌, None, replicate, option_map}
use Rattle.kn_base.specs.Rows.{overwritten}
use Rattle.kernel_tables.specs.declared.entry.PageOwner.{PageOwner}
use Rattle.kernel_tables.specs.Kernel.{Kernel}
use Rattle.unix_model.specs.Memory.{Memory, Page}
use Rattle.unix_model.specs.Tables.{at, with_at}
use Rattle.kernel_machine.specs.Standing.{LeavesSpaces}
use Rattle.file_trees.specs.Pieces.{StaysOwned}
use Rattle.file_trees.specs.Trees.{tree_memory}

-- no page is there at a page number any more
pub record CutsPage (old new : Kernel) (tree page : ℕ) : Type 0 where
  pub leaves : LeavesSpaces old new tree
  pub owned : (whose : PageOwner) → StaysOwned whose old new tree
  pub here : tree_memory new tree ≡ with_at (tree_memory old tree) page None

-- the memory without its pages from a page number on, below another one
unfoldable pub without_pages : Memory → ℕ → ℕ → Memory
without_pages memory first next = λ number. if nat_le first number && nat_lt number next then None else at memory number

pub record CutsTree (old new : Kernel) (tree first next : ℕ) : Type 0 where
  pub leaves : LeavesSpaces old new tree
  pub owned : (whose : PageOwner) → StaysOwned whose old new tree
  pub here : tree_memory new tree ≡ without_pages (tree_memory old tree) first next

-- a page in which so many bytes from a place on are zero
abbrev pub cleared : ℕ → ℕ → Page → Page
cleared place count page = record page { bytes = overwritten page.bytes place (replicate count 0) }

-- Bytes that lie in one page are zero now, where the page is there. No page was taken but for one that wasn't the tree's own, and
-- for the owner of its pages.
pub record ClearsPiece (old new : Kernel) (tree place count : ℕ) (owner : PageOwner) : Type 0 where
  pub leaves : LeavesSpaces old new tree
  pub owned : StaysOwned owner old new tree
  pub here : tree_memory new tree ≡ with_at (tree_memory old tree) (place / 4096) (option_map (cleared (place % 4096) count) (at (tree_memory old tree) (place / 4096)))
