-- What a good machine has left: pages for all that is promised, and nodes for any call, each as one statement.
use Rattle.std.specs.Prelude.{◌≡◌, ◌≢◌, ℕ, ◌<◌, ◌≤◌, ◌+◌, ◌-◌, ◌*◌, true, Some, None, []}
use Rattle.kn_base.specs.Memory.{zero_page}
use Rattle.kernel_tables.specs.declared.inode.Inode.{Inode}
use Rattle.kernel_tables.specs.Kernel.{Kernel}
use Rattle.kernel_tables.specs.Rows.{domain_rows}
use Rattle.space_bank.specs.Bank.{BankGood, NoneFree}
use Rattle.forest.specs.Calls.{IsOwn}
use Rattle.forest.specs.Forest.{Held, NoneEmpty, NoPageOutside}
use Rattle.forest.specs.Labels.{shared_page}
use Rattle.forest.specs.Walks.{Mapping, map_of}
use Rattle.kernel_forest.specs.Trees.{forest_of, outside_trees}
use Rattle.file_tables.specs.Roots.{named_by}
use Rattle.file_tables.specs.Rows.{InodesGood}
use Rattle.domain.specs.declared.types.Phase.TheVariants.{Zombie}
use Rattle.domain.specs.Domains.{Domain}
use Rattle.unix_model.specs.Calls.{Calls}
use Rattle.unix_model.specs.Limits.{inode_count}
use Rattle.unix_model.specs.Numbers.{pages_of}
use Rattle.unix_model.specs.Room.{promised}
use Rattle.unix_model.specs.Rules.{EndsAt}
use Rattle.unix_model.specs.Tables.{at, with_at}
use Rattle.kernel_machine.specs.Machine.{KernelMachine, machine_of}
use Rattle.kernel_machine.specs.View.{view}
use Rattle.kernel_machine.specs.Trees.{HasTree}
use Rattle.kernel_machine.specs.Held.{AllHeld, AllWhole, NodesHeld}
use Rattle.kernel_machine.specs.Good.{Good}

-- ---- within a call

-- a zombie has no memory and no buffer
abbrev pub HasEnded : Domain → Type 0
HasEnded domain = domain.phase ≡ Zombie → (domain.space ≡ None) × (domain.buffer ≡ None)

-- All that is taken is accounted for: it is held by a domain in a slot that isn't a zombie, or by an inode, and files map no page
-- past their length. This is what of a good machine is needed to count, so it may be used between the steps of a call too, where
-- states, marks and words don't fit each other.
pub record MachineAccounted (machine : KernelMachine) : Type 0 where
  pub held : AllHeld machine.domains machine.forest machine.page_owner machine.inodes
  pub in_slots : (root : ℕ) → (at machine.domains root).live ≡ true → at machine.roots (at machine.domains root).slot ≡ Some root
  pub zombies : (slot root : ℕ) → at machine.roots slot ≡ Some root → HasEnded (at machine.domains root)
  pub within : (number : ℕ) (inode : Inode) → at machine.inodes number ≡ Some inode → HasTree inode.kind → inode.root ≢ 0
      → (page : ℕ) (mapping : Mapping) → map_of machine.forest.keys inode.root page ≡ Some mapping → page < pages_of inode.length
  pub last : EndsAt inode_count machine.inodes

pub record Accounted (kernel : Kernel) : Type 0 where
  pub bank : BankGood kernel
  pub whole : AllWhole kernel.bank
  pub zero : kernel.page_zero ≡ zero_page
  pub trees : Held (forest_of kernel) (outside_trees kernel (named_by kernel.inodes)) []
  pub pages_inside : NoPageOutside (forest_of kernel) (outside_trees kernel (named_by kernel.inodes))
  pub filled : NoneEmpty (forest_of kernel).keys
  pub nodes_held : NodesHeld (domain_rows kernel) kernel.node_entries
  pub inodes : InodesGood kernel.inodes
  pub machine : MachineAccounted (machine_of kernel)

-- Taken pages are at most those that the flat state promises, whatever number of them is stored.
abbrev pub PagesAccounted : Type 0
PagesAccounted = (kernel : Kernel) → Accounted kernel → kernel.machine.pages_taken ≤ promised (view (machine_of kernel))

-- A promised page isn't taken yet where a process holds no buffer, ..
abbrev pub BufferIsLeft : Type 0
BufferIsLeft =
    (kernel : Kernel) (slot root : ℕ) → Accounted kernel → at (machine_of kernel).roots slot ≡ Some root
    → (at (machine_of kernel).domains root).phase ≢ Zombie → (at (machine_of kernel).domains root).buffer ≡ None
    → kernel.machine.pages_taken < promised (view (machine_of kernel))

-- .. or its memory has a blank page, for which the page of zeros stands.
abbrev pub BlankIsLeft : Type 0
BlankIsLeft =
    (kernel : Kernel) (slot root space page : ℕ) (found : Mapping) → Accounted kernel → at (machine_of kernel).roots slot ≡ Some root
    → (at (machine_of kernel).domains root).space ≡ Some space → map_of (machine_of kernel).forest.keys space page ≡ Some found → found.page ≡ 0
    → kernel.machine.pages_taken < promised (view (machine_of kernel))

-- Or a page of its memory is no page of its own: other places have it too.
abbrev pub SharedIsLeft : Type 0
SharedIsLeft =
    (kernel : Kernel) (slot root space page : ℕ) (found : Mapping) → Accounted kernel → at (machine_of kernel).roots slot ≡ Some root
    → (at (machine_of kernel).domains root).space ≡ Some space → map_of (machine_of kernel).forest.keys space page ≡ Some found
    → (IsOwn (machine_of kernel).forest space page found → ⊥)
    → kernel.machine.pages_taken < promised (view (machine_of kernel))

-- Or a file or directory has no page, or a blank one, at a page number within its length.
abbrev pub HoleIsLeft : Type 0
HoleIsLeft =
    (kernel : Kernel) (number : ℕ) (inode : Inode) (page : ℕ) → Accounted kernel → at (machine_of kernel).inodes number ≡ Some inode → HasTree inode.kind
    → page < pages_of inode.length → shared_page (machine_of kernel).forest.keys (inode.root, page) ≡ None
    → kernel.machine.pages_taken < promised (view (machine_of kernel))

-- A process has at most three nodes of its domain, one root and four nodes for each page that it maps, and an inode at most one
-- root and four nodes for each of its pages. So few nodes are taken, by the pages that are promised.
abbrev pub NodesAccounted : Type 0
NodesAccounted = (kernel : Kernel) → Accounted kernel → kernel.machine.nodes_taken ≤ 4 * promised (view (machine_of kernel)) + 1216

-- ---- between turns

abbrev pub GoodIsAccounted : Type 0
GoodIsAccounted = (calls : Calls) (kernel : Kernel) → Good calls kernel → Accounted kernel

-- The pages that are taken are at most those that are promised.
abbrev pub TakenArePromised : Type 0
TakenArePromised = (calls : Calls) (kernel : Kernel) → Good calls kernel → kernel.machine.pages_taken ≤ kernel.machine.promised

-- So a page is free wherever a promised one isn't taken yet.
abbrev pub PromisedIsFree : Type 0
PromisedIsFree =
    (calls : Calls) (kernel : Kernel) → Good calls kernel → kernel.machine.pages_taken < kernel.machine.promised → NoneFree kernel.page_entries kernel.size → ⊥

-- Beside the fifteen nodes that are fixed at least 65 are free, and four more for each page that isn't promised.
abbrev pub NodesAreFree : Type 0
NodesAreFree =
    (calls : Calls) (kernel : Kernel) → Good calls kernel
    → kernel.machine.nodes_taken + 15 + (65 + 4 * (kernel.size - kernel.machine.promised)) ≤ kernel.nodes

-- ---- what is held stays held

-- A domain changes and keeps its space and its buffer, ..
abbrev pub HeldWithDomain : Type 0
HeldWithDomain =
    (machine : KernelMachine) (root : ℕ) (domain : Domain)
    → domain.live ≡ (at machine.domains root).live → domain.space ≡ (at machine.domains root).space → domain.buffer ≡ (at machine.domains root).buffer
    → AllHeld machine.domains machine.forest machine.page_owner machine.inodes
    → AllHeld (with_at machine.domains root domain) machine.forest machine.page_owner machine.inodes

-- .. or the row of an inode changes, and keeps its kind and its root.
abbrev pub HeldWithInode : Type 0
HeldWithInode =
    (machine : KernelMachine) (number : ℕ) (inode row : Inode)
    → at machine.inodes number ≡ Some inode → row.kind ≡ inode.kind → row.root ≡ inode.root
    → AllHeld machine.domains machine.forest machine.page_owner machine.inodes
    → AllHeld machine.domains machine.forest machine.page_owner (with_at machine.inodes number (Some row))

-- Where nothing is taken, nobody has to hold anything.
abbrev pub UntakenIsHeld : Type 0
UntakenIsHeld =
    (kernel : Kernel) → BankGood kernel → kernel.machine.pages_taken ≡ 0 → kernel.machine.nodes_taken ≡ 0
    → AllHeld (machine_of kernel).domains (machine_of kernel).forest (machine_of kernel).page_owner (machine_of kernel).inodes
    × NoPageOutside (forest_of kernel) (outside_trees kernel (named_by kernel.inodes))
    × NodesHeld (domain_rows kernel) kernel.node_entries
