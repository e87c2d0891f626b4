-- The machine in which servers speak: one record, and one function of the kernel's tables.
use Rattle.std.specs.Prelude.{ℕ, Option, Some, None, List}
use Rattle.kn_base.specs.declared.key.Key.{Key}
use Rattle.kernel_tables.specs.declared.row.Row.{Row}
use Rattle.kernel_tables.specs.declared.row.Row.TheVariants.{Free, Used, Unspelled}
use Rattle.kernel_tables.specs.declared.inode.Inode.{Inode}
use Rattle.kernel_tables.specs.declared.description.Description.{Description}
use Rattle.kernel_tables.specs.declared.entry.PageOwner.{PageOwner}
use Rattle.kernel_tables.specs.declared.machine.Machine.{Machine as Words}
use Rattle.kernel_tables.specs.Kernel.{Kernel, inode_at, description_at, memory_page}
use Rattle.kernel_tables.specs.Rows.{fixed_rows}
use Rattle.forest.specs.Forest.{Forest}
use Rattle.kernel_forest.specs.Trees.{forest_of}
use Rattle.kernel_forest.specs.Owners.{page_owners}
use Rattle.domain.specs.Domains.{Domain as Process, Life, domains, lives, roots}
use Rattle.domain.specs.Slots.{room_of}

-- Slots name the roots of their domains, and the resume room has the key by which the domain of a slot goes on. What a root
-- is, and whether it is called, runs or waits, is by the number of its node. Trees, the bytes of pages and who owns them,
-- inodes and open descriptions are by number; the words are those of the machine page.
pub record KernelMachine : Type 0 where
  pub roots : ℕ → Option ℕ
  pub room : ℕ → Key
  pub lives : ℕ → Life
  pub domains : ℕ → Process
  pub forest : Forest
  pub page_bytes : ℕ → List ℕ
  pub page_owner : ℕ → Option PageOwner
  pub inodes : ℕ → Option Inode
  pub descriptions : ℕ → Option Description
  pub words : Words

-- what a row holds
abbrev pub held : {X : Type 0} → Row X → Option X
held Free = None
held (Used x) = Some x
held Unspelled = None

-- the inodes and the descriptions that are there
unfoldable pub inodes_of : Kernel → ℕ → Option Inode
inodes_of kernel = λ number. held (inode_at kernel number)

unfoldable pub descriptions_of : Kernel → ℕ → Option Description
descriptions_of kernel = λ number. held (description_at kernel number)

-- the machine that the tables of the kernel hold
unfoldable pub machine_of : Kernel → KernelMachine
machine_of kernel =
    record {
      roots = roots kernel;
      room = room_of (fixed_rows kernel);
      lives = lives kernel;
      domains = domains kernel;
      forest = forest_of kernel;
      page_bytes = memory_page kernel;
      page_owner = page_owners kernel;
      inodes = inodes_of kernel;
      descriptions = descriptions_of kernel;
      words = kernel.machine;
    }
