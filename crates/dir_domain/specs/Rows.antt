-- The row of a directory.
use Rattle.std.specs.Prelude.{◌≡◌, ◌≢◌, ◌<◌, ◌≤◌, ℕ, ◌%◌, Some, List, Option}
use Rattle.kernel_tables.specs.declared.inode.Inode.{Inode}
use Rattle.kernel_tables.specs.declared.inode.InodeKind.TheVariants.{Dir}
use Rattle.kernel_tables.specs.Kernel.{Kernel, memory_page, inode_at, inode_count}
use Rattle.kernel_tables.specs.declared.row.Row.TheVariants.{Used}
use Rattle.kernel_forest.specs.Trees.{forest_of}
use Rattle.file_tables.specs.Rows.{IsInodeAt}
use Rattle.unix_model.specs.Files as model
use Rattle.unix_model.specs.Files.{Entry, places_of}
use Rattle.unix_model.specs.Tables.{at}
use Rattle.kernel_machine.specs.Machine.{machine_of, inodes_of}
use Rattle.kernel_machine.specs.Trees.{IsFileTree}
use Rattle.kernel_machine.specs.View.{inodes_in, stored}
use Rattle.file_trees.specs.Trees.{IsTree}

-- what a number stands for in the flat state
abbrev pub inode_seen : Kernel → ℕ → Option model.Inode
inode_seen kernel number = at (inodes_in (machine_of kernel)) number

-- the places of a directory in the flat state
abbrev pub places_seen : Kernel → ℕ → List (Option Entry)
places_seen kernel dir = places_of (inode_seen kernel dir)

-- the bytes that are stored of an inode
abbrev pub bytes_stored : Kernel → Inode → List ℕ
bytes_stored kernel row = stored (machine_of kernel) row

-- The row of a directory, which has at most 1,024 places of 32 bytes, and whose root is a space with the tree of a file of its
-- length, or 0 where it has no tree.
pub record IsDirectoryRow (kernel : Kernel) (dir : ℕ) (row : Inode) : Type 0 where
  pub there : at (inodes_of kernel) dir ≡ Some row
  pub kind : row.kind ≡ Dir
  pub few : row.length ≤ 32768
  pub whole : row.length % 32 ≡ 0
  pub tree : IsTree kernel row.root
  pub file : row.root ≢ 0 → IsFileTree (forest_of kernel).keys (memory_page kernel) row.root row.length
  pub below : dir < inode_count
  pub used : inode_at kernel dir ≡ Used row
  pub right : IsInodeAt dir row
