-- A space in which a program is being loaded.
use Rattle.std.specs.Prelude.{◌≤◌, ◌+◌, ◌*◌, ◌^◌, ℕ, List, All}
use Rattle.kernel_tables.specs.Kernel.{Kernel}
use Rattle.unix_model.specs.declared.elf.Load.{Load}
use Rattle.unix_model.specs.Loading.{page_mapped}
use Rattle.unix_model.specs.Tables.{count_below}
use Rattle.forest.specs.Walks.{map_of}
use Rattle.kernel_forest.specs.Trees.{forest_of}
use Rattle.unix_exec.specs.Plans.{AreWaysOwn, IsLow}
use Rattle.unix_exec.specs.Seals.{AreNeededMapped}
use Rattle.tests_spaces.specs.Ready.{IsReady, IsTestSpace}

-- there are as many nodes as mapping the pages of a program may take
abbrev pub HasNodes : Kernel → List Load → Type 0
HasNodes kernel loads = kernel.machine.nodes_taken + 15 + 4 * count_below (page_mapped loads) (2 ^ 19) ≤ kernel.nodes

-- the pages that a program needs are mapped, on ways that are the space's own
pub record IsLoading (kernel : Kernel) (space : ℕ) (loads : List Load) : Type 0 where
  pub ready : IsReady kernel
  pub is : IsTestSpace kernel space
  pub low : All IsLow loads
  pub mapped : AreNeededMapped (map_of (forest_of kernel).keys space) loads
  pub ways : AreWaysOwn kernel space loads (2 ^ 19)
