-- Nothing is taken that nobody has.
use Rattle.std.specs.Prelude.{◌≡◌, ℕ, ◌<◌, ◌⊎◌, true, Option, Some, List, [], length, slice_index_or}
use Rattle.kn_base.specs.declared.key.Key.{Key}
use Rattle.kernel_tables.specs.declared.entry.Entry.{Entry}
use Rattle.kernel_tables.specs.declared.entry.NodeOwner.{NodeOwner}
use Rattle.kernel_tables.specs.declared.entry.PageOwner.{PageOwner}
use Rattle.kernel_tables.specs.declared.entry.PageOwner.TheVariants.{Buffer, Pipe as PipePage}
use Rattle.kernel_tables.specs.declared.inode.Inode.{Inode}
use Rattle.kernel_tables.specs.declared.inode.InodeKind.TheVariants.{Pipe}
use Rattle.unix_model.specs.Tables.{at}
use Rattle.forest.specs.Forest.{Forest, IsSpace}
use Rattle.forest.specs.Objects.{NodeObject, OfFile, OfProcess}
use Rattle.kernel_tables.specs.Rows.{entry_at, of_domain}
use Rattle.domain.specs.Domains.{Domain}
use Rattle.domain.specs.Keys.{is_meter, node_in}
use Rattle.kernel_machine.specs.Trees.{HasTree}

-- Each tree of processes is the space of a domain, and each tree of files that of a file or directory. Each page for buffers is
-- the buffer of a domain, and each page for pipes that of a pipe.
pub record AllHeld (domains : ℕ → Domain) (forest : Forest) (page_owner : ℕ → Option PageOwner) (inodes : ℕ → Option Inode) : Type 0 where
  pub spaces : (space : ℕ) → IsSpace forest [] space → forest.owner (NodeObject space) ≡ Some OfProcess
      → (root : ℕ) × ((at domains root).live ≡ true) × ((at domains root).space ≡ Some space)
  pub trees : (space : ℕ) → IsSpace forest [] space → forest.owner (NodeObject space) ≡ Some OfFile
      → (number : ℕ) × (inode : Inode) × (at inodes number ≡ Some inode) × HasTree inode.kind × (inode.root ≡ space)
  pub buffers : (page : ℕ) → at page_owner page ≡ Some Buffer → (root : ℕ) × ((at domains root).live ≡ true) × ((at domains root).buffer ≡ Some page)
  pub pipes : (page : ℕ) → at page_owner page ≡ Some PipePage
      → (number : ℕ) × (inode : Inode) × (at inodes number ≡ Some inode) × (inode.kind ≡ Pipe) × (inode.root ≡ page)

-- each page of the bank has its 4,096 bytes
abbrev pub AllWhole : List (List ℕ) → Type 0
AllWhole bank = (page : ℕ) → page < length bank → length (slice_index_or bank page []) ≡ 4096

-- A node is one of the three of the domain of a root: the root, or what its keys 3 and 4 name.
abbrev pub IsNodeOf : (ℕ → ℕ → Key) → ℕ → ℕ → Type 0
IsNodeOf rows root node = (is_meter (rows root 2) ≡ true) × ((root ≡ node) ⊎ ((node_in (rows root 3) ≡ Some node) ⊎ (node_in (rows root 4) ≡ Some node)))

-- each node that is taken for a domain is one of a domain
abbrev pub NodesHeld : (ℕ → ℕ → Key) → List (Entry NodeOwner) → Type 0
NodesHeld rows entries = (node : ℕ) → of_domain (entry_at entries node) ≡ true → (root : ℕ) × IsNodeOf rows root node
