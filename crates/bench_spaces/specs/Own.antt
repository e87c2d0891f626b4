-- A space whose page 0 is own, so that it may be written without more.
use Rattle.std.specs.Prelude.{◌≡◌, ◌≤◌, ◌+◌, ℕ}
use Rattle.kernel_tables.specs.declared.entry.PageOwner.{PageOwner}
use Rattle.kernel_tables.specs.Kernel.{Kernel}
use Rattle.forest.specs.Objects.{NodeObject}
use Rattle.forest.specs.Calls.{IsOwn}
use Rattle.kernel_forest.specs.Trees.{forest_of, page_tree}
use Rattle.seg_tree.specs.Writes.{writable_mapping}
use Rattle.tests_spaces.specs.Ready.{IsReady, IsTestSpace}

-- page 0 of a space is own, with pages of this owner, and there is room for a way of nodes
pub record HasOwnPage (kernel : Kernel) (space : ℕ) (owner : PageOwner) : Type 0 where
  pub ready : IsReady kernel
  pub is : IsTestSpace kernel space
  pub result : ℕ
  pub own : IsOwn (forest_of kernel) space 0 (writable_mapping result)
  pub tree : page_tree owner ≡ (forest_of kernel).owner (NodeObject space)
  pub room : kernel.machine.nodes_taken + 19 ≤ kernel.nodes
