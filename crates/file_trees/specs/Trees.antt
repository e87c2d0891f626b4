-- The tree of a file or directory, by the root word of its inode.
use Rattle.std.specs.Prelude.{◌≢◌, ℕ, List, []}
use Rattle.kernel_tables.specs.Kernel.{Kernel}
use Rattle.unix_model.specs.Memory.{Memory}
use Rattle.unix_model.specs.Tables.{at}
use Rattle.forest.specs.Forest.{IsSpace}
use Rattle.kernel_forest.specs.Trees.{forest_of}
use Rattle.kernel_machine.specs.Contents.{mapped_bytes}
use Rattle.kernel_machine.specs.Machine.{machine_of}
use Rattle.kernel_machine.specs.View.{file_memory}

-- a root word names a space, or is 0, which stands for no tree
abbrev pub IsTree : Kernel → ℕ → Type 0
IsTree kernel root = root ≢ 0 → IsSpace (forest_of kernel) [] root

-- the pages that a tree maps, with their bytes
abbrev pub tree_memory : Kernel → ℕ → Memory
tree_memory kernel root = file_memory (machine_of kernel) root

-- the bytes of a page number of a tree, which are zero where no page is mapped
abbrev pub tree_page : Memory → ℕ → List ℕ
tree_page memory number = mapped_bytes (at memory number)
