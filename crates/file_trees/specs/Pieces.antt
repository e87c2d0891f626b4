-- Bytes are put into the tree of a file: its memory changes at one page, and every other tree and space is left.
use Rattle.std.specs.Prelude.{◌≡◌, ◌≤◌, ◌+◌, ◌/◌, ◌%◌, ℕ, true, Some, List}
use Rattle.kn_base.specs.Rows.{overwritten}
use Rattle.kernel_tables.specs.declared.entry.PageOwner.{PageOwner}
use Rattle.kernel_tables.specs.Kernel.{Kernel}
use Rattle.unix_model.specs.Memory.{Memory}
use Rattle.unix_model.specs.Tables.{with_at}
use Rattle.forest.specs.Calls.{IsOwn}
use Rattle.forest.specs.Walks.{Mapping, map_of}
use Rattle.kernel_forest.specs.Owners.{page_owners, PagesAreOf}
use Rattle.kernel_forest.specs.Trees.{forest_of}
use Rattle.kernel_machine.specs.Standing.{LeavesSpaces}
use Rattle.seg_tree.specs.Writes.{writable_mapping}
use Rattle.file_trees.specs.Trees.{tree_memory, tree_page}

-- all pages that a tree maps may be written
abbrev pub MayBeWritten : Kernel → ℕ → Type 0
MayBeWritten kernel tree = (page : ℕ) (mapping : Mapping) → map_of (forest_of kernel).keys tree page ≡ Some mapping → mapping.writable ≡ true

-- the memory with a page that is there and may be written
abbrev pub with_page_there : Memory → ℕ → Memory
with_page_there memory number = with_at memory number (Some (record { writable = true; bytes = tree_page memory number }))

-- pages of a tree are one owner's where they were
abbrev pub StaysOwned : PageOwner → Kernel → Kernel → ℕ → Type 0
StaysOwned whose old new tree =
    PagesAreOf whose (page_owners old) (map_of (forest_of old).keys tree) → PagesAreOf whose (page_owners new) (map_of (forest_of new).keys tree)

-- A page is there now, with the bytes that its page number had. No page was taken, and pages are a tree's own where they were.
pub record MapsPage (old new : Kernel) (tree page : ℕ) : Type 0 where
  pub leaves : LeavesSpaces old new tree
  pub owned : (whose : PageOwner) → StaysOwned whose old new tree
  pub here : tree_memory new tree ≡ with_page_there (tree_memory old tree) page
  pub own : (found : Mapping) → IsOwn (forest_of new) tree page found → IsOwn (forest_of old) tree page found
  pub still : (found : Mapping) → IsOwn (forest_of old) tree page found → IsOwn (forest_of new) tree page found
  pub pages : new.machine.pages_taken ≡ old.machine.pages_taken
  pub most : new.machine.nodes_taken ≤ old.machine.nodes_taken + 4

-- the memory with bytes put into one page, which is there then and may be written
abbrev pub with_piece : Memory → ℕ → List ℕ → Memory
with_piece memory place bytes =
    with_at memory (place / 4096) (Some (record { writable = true; bytes = overwritten (tree_page memory (place / 4096)) (place % 4096) bytes }))

-- Bytes that lie in one page were put into a tree of an owner's pages, and the page is its own now. A page was taken exactly where
-- it wasn't.
pub record PutsInTree (old new : Kernel) (tree place : ℕ) (bytes : List ℕ) (owner : PageOwner) : Type 0 where
  pub leaves : LeavesSpaces old new tree
  pub owned : StaysOwned owner old new tree
  pub here : tree_memory new tree ≡ with_piece (tree_memory old tree) place bytes
  pub own : (result : ℕ) × IsOwn (forest_of new) tree (place / 4096) (writable_mapping result)
  pub kept : (found : Mapping) → IsOwn (forest_of old) tree (place / 4096) found → new.machine.pages_taken ≡ old.machine.pages_taken
  pub taken : ((found : Mapping) → IsOwn (forest_of old) tree (place / 4096) found → ⊥) → new.machine.pages_taken ≡ old.machine.pages_taken + 1
  pub most : new.machine.nodes_taken ≤ old.machine.nodes_taken + 12
