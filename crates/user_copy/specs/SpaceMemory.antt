-- The flat memory of a space: the pages of its map, with the bytes that they have in the kernel's tables.
use Rattle.std.specs.Prelude.{ℕ, List, Option, option_map}
use Rattle.kernel_tables.specs.Kernel.{Kernel, memory_page}
use Rattle.unix_model.specs.Memory.{Memory, Page}
use Rattle.forest.specs.Walks.{Mapping, map_of}
use Rattle.kernel_forest.specs.Trees.{forest_of}

-- a page of a map, with its bytes
abbrev pub page_of : (ℕ → List ℕ) → Mapping → Page
page_of bytes mapping = record { writable = mapping.writable; bytes = bytes mapping.page }

-- the memory that a map is, where pages have these bytes
unfoldable pub memory_by : (ℕ → List ℕ) → (ℕ → Option Mapping) → Memory
memory_by bytes map = λ page. option_map (page_of bytes) (map page)

-- the memory of a space
abbrev pub space_memory : Kernel → ℕ → Memory
space_memory kernel space = memory_by (memory_page kernel) (map_of (forest_of kernel).keys space)
