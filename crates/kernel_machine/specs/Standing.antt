-- What holds also within a turn, while states, counts and the flat state don't agree yet, and what agrees between turns; and how
-- single calls keep what stands, each law as one statement.
use Rattle.std.specs.Prelude.{◌≡◌, ◌≢◌, ◌↔◌, ◌<◌, ◌≤◌, ◌+◌, ℕ, true, false, Option, Some, None, List, [], length, slice_set}
use Rattle.kn_base.specs.declared.key.Key.{Key}
use Rattle.kn_base.specs.declared.key.Key.TheVariants.{Null}
use Rattle.kernel_tables.specs.declared.description.Description.{Description}
use Rattle.kernel_tables.specs.declared.entry.PageOwner.{PageOwner}
use Rattle.kernel_tables.specs.declared.inode.Inode.{Inode}
use Rattle.kernel_tables.specs.declared.row.Row.{Row}
use Rattle.kernel_tables.specs.declared.row.Row.TheVariants.{Used}
use Rattle.kernel_tables.specs.Kernel.{Kernel, inode_at, memory_page, with_bank_page}
use Rattle.kernel_tables.specs.Rows.{domain_rows, KeepsRows}
use Rattle.space_bank.specs.Bank.{BankGood}
use Rattle.space_bank.specs.Fixed.{FixedNodes, UnusedGood}
use Rattle.space_bank.specs.Shares.{Outside}
use Rattle.forest.specs.Changes.{KeepsRoot}
use Rattle.forest.specs.Forest.{IsSpace, NoneEmpty, NoPageOutside}
use Rattle.forest.specs.Objects.{NodeObject, OfProcess}
use Rattle.forest.specs.Walks.{Mapping, map_of}
use Rattle.kernel_forest.specs.Apart.{KeepsApart, KeepsInside}
use Rattle.kernel_forest.specs.Owners.{page_owners, PagesAreOf}
use Rattle.kernel_forest.specs.Releases.{KeepsUnreleased}
use Rattle.kernel_forest.specs.Trees.{forest_of, outside_trees, page_tree, TreesGood}
use Rattle.file_tables.specs.Roots.{named_by, ExchangesRoots}
use Rattle.file_tables.specs.Rows.{InodesGood, DescriptionsGood}
use Rattle.seg_tree.specs.Promises.{Adds, Remaps, Replaces}
use Rattle.seg_tree.specs.Writes.{Owns}
use Rattle.user_copy.specs.SpaceMemory.{space_memory}
use Rattle.user_copy.specs.Writing.{PutsPiece, PutsBytes}
use Rattle.domain.specs.Domains.{Domain, Life, domains}
use Rattle.domain.specs.Buffers.{WritesBuffer, DropsBuffer}
use Rattle.domain.specs.Ends.{MakesZombie, MayDrop, DropsDomain}
use Rattle.domain.specs.Life.{MakesDomain}
use Rattle.domain.specs.Rules.{RowsGood}
use Rattle.domain.specs.Sets.{WritesNumbers}
use Rattle.unix_model.specs.Calls.{Calls}
use Rattle.unix_model.specs.Room.{promised}
use Rattle.unix_model.specs.Rules.{IsUnix}
use Rattle.unix_model.specs.Tables.{at, with_at}
use Rattle.kernel_machine.specs.Counts.{InodesCounted, DescriptionsCounted}
use Rattle.kernel_machine.specs.Good.{Good, ParkedGood}
use Rattle.kernel_machine.specs.Held.{AllHeld, AllWhole, NodesHeld}
use Rattle.kernel_machine.specs.Machine.{machine_of, inodes_of}
use Rattle.kernel_machine.specs.Processes.{SlotsGood, IsInSlot, HoldingsGood}
use Rattle.kernel_machine.specs.Trees.{HasTree, IsFileTree, IsRootOf, RootsGood, KeepersGood, keeper, pages_owner}
use Rattle.kernel_machine.specs.View.{view, processes_in, inodes_in, descriptions_in}

-- The bank, trees, domains and files by themselves, and that nothing is held twice or by nobody.
pub record Standing (kernel : Kernel) : Type 0 where
  pub bank : BankGood kernel
  pub whole : AllWhole kernel.bank
  pub unused : UnusedGood kernel.page_zero kernel.other_words
  pub trees : TreesGood kernel (named_by kernel.inodes) []
  pub pages_inside : NoPageOutside (forest_of kernel) (outside_trees kernel (named_by kernel.inodes))
  pub filled : NoneEmpty (forest_of kernel).keys
  pub rows : RowsGood (domain_rows kernel)
  pub nodes_held : NodesHeld (domain_rows kernel) kernel.node_entries
  pub inodes : InodesGood kernel.inodes
  pub descriptions : DescriptionsGood kernel.descriptions
  pub holdings : HoldingsGood (domains kernel) (forest_of kernel) (page_owners kernel)
  pub roots : RootsGood (forest_of kernel) (memory_page kernel) (page_owners kernel) (inodes_of kernel)
  pub keepers : KeepersGood (forest_of kernel)
  pub held : AllHeld (domains kernel) (forest_of kernel) (page_owners kernel) (inodes_of kernel)

-- Services are available, states and keys fit the phases, and what is counted, promised and seen agrees.
pub record Settled (calls : Calls) (kernel : Kernel) : Type 0 where
  pub fixed : FixedNodes kernel.keys
  pub slots : SlotsGood (machine_of kernel).roots (machine_of kernel).room (machine_of kernel).lives (machine_of kernel).domains
  pub inodes_counted : InodesCounted (machine_of kernel).inodes (inodes_in (machine_of kernel)) (descriptions_in (machine_of kernel))
  pub descriptions_counted : DescriptionsCounted (machine_of kernel).descriptions (processes_in (machine_of kernel))
  pub promises : kernel.machine.promised ≡ promised (view (machine_of kernel))
  pub unix : IsUnix calls (view (machine_of kernel))
  pub parked : ParkedGood calls (machine_of kernel)

-- Both together are all that holds between turns.
abbrev pub GoodIsBoth : Type 0
GoodIsBoth = (calls : Calls) (kernel : Kernel) → Good calls kernel ↔ (Standing kernel × Settled calls kernel)

-- ---- single calls

-- a domain that is one as before, and has the space, the buffer and the nodes that it had
pub record HasSame (was now : Domain) : Type 0 where
  pub live : now.live ≡ was.live
  pub space : now.space ≡ was.space
  pub buffer : now.buffer ≡ was.buffer
  pub regs_node : now.regs_node ≡ was.regs_node
  pub descriptors_node : now.descriptors_node ≡ was.descriptors_node

-- Numbers were written in a domain: all but what these say of it is as before, ..
abbrev pub StandingWithNumbers : Type 0
StandingWithNumbers =
    (old new : Kernel) (root : ℕ) (domain : Domain)
    → WritesNumbers old new → domains new ≡ with_at (domains old) root domain → HasSame (at (domains old) root) domain
    → BankGood new → RowsGood (domain_rows new) → Standing old → Standing new

-- .. or in one of which they say nothing, as its state.
abbrev pub StandingWithLife : Type 0
StandingWithLife =
    (old new : Kernel) → WritesNumbers old new → domains new ≡ domains old → BankGood new → RowsGood (domain_rows new) → Standing old → Standing new

-- The row of an inode was written that keeps its kind and its root.
abbrev pub StandingWithInode : Type 0
StandingWithInode =
    (old new : Kernel) (number : ℕ) (inode row : Inode)
    → number < length old.inodes → inode_at old number ≡ Used inode → new ≡ record old { inodes = slice_set old.inodes number (Used row) }
    → ExchangesRoots old new number (Used row) → InodesGood new.inodes → row.kind ≡ inode.kind → row.root ≡ inode.root
    → IsRootOf (forest_of old) (memory_page old) (page_owners old) row row.kind → Standing old → Standing new

-- The row of an open description was written, or freed.
abbrev pub StandingWithDescription : Type 0
StandingWithDescription =
    (old new : Kernel) (descriptions : List (Row Description))
    → new ≡ record old { descriptions = descriptions } → DescriptionsGood new.descriptions → Standing old → Standing new

-- The next process id, the position or the promised pages are other ones.
abbrev pub StandingWithWords : Type 0
StandingWithWords =
    (old new : Kernel) (next_pid position promised : ℕ)
    → new ≡ record old { machine = record old.machine { next_pid = next_pid; position = position; promised = promised } }
    → BankGood new → Standing old → Standing new

-- Bytes were written in a page that belongs to no tree: that of a buffer or of a pipe.
abbrev pub StandingWithBytes : Type 0
StandingWithBytes =
    (old new : Kernel) (page : ℕ) (owner : PageOwner) (bytes : List ℕ)
    → at (page_owners old) page ≡ Some owner → page_tree owner ≡ None → length bytes ≡ 4096
    → new ≡ record old { bank = with_bank_page old page bytes } → BankGood new → Standing old → Standing new

-- ---- calls on spaces

-- A call on one space that leaves all others, their owners, their keepers, their memories and whose their pages are, and whatever
-- belongs to no tree. It may have taken and given back what belongs to trees.
pub record LeavesSpaces (old new : Kernel) (space : ℕ) : Type 0 where
  pub spaces : (other : ℕ) → IsSpace (forest_of old) [] other ↔ IsSpace (forest_of new) [] other
  pub roots : (other : ℕ) → IsSpace (forest_of new) [] other → KeepsRoot (forest_of old) (forest_of new) [] other
  pub memories : (other : ℕ) → IsSpace (forest_of old) [] other → other ≢ space → space_memory new other ≡ space_memory old other
  pub owned : (other : ℕ) (whose : PageOwner) → IsSpace (forest_of old) [] other → other ≢ space
      → PagesAreOf whose (page_owners old) (map_of (forest_of old).keys other) → PagesAreOf whose (page_owners new) (map_of (forest_of new).keys other)
  pub trees : (outside : Outside) → TreesGood old outside [] → TreesGood new outside []
  pub inside : (outside : Outside) → TreesGood old outside [] → KeepsInside old new outside
  pub filled : NoneEmpty (forest_of old).keys → NoneEmpty (forest_of new).keys
  pub rows_now : KeepsRows old new
  pub apart_now : KeepsApart old new
  pub rest : KeepsUnreleased old new

-- Such are the calls that change a map and leave the bytes of all pages, ..
abbrev pub RemapLeaves : Type 0
RemapLeaves =
    (old new : Kernel) (space few : ℕ) (map : ℕ → Option Mapping) (outside : Outside)
    → TreesGood old outside [] → Remaps old new space few map → LeavesSpaces old new space

-- the one that may give a page back, ..
abbrev pub ReplaceLeaves : Type 0
ReplaceLeaves =
    (old new : Kernel) (space few : ℕ) (map : ℕ → Option Mapping) (outside : Outside)
    → TreesGood old outside [] → BankGood new → Replaces old new space few map → LeavesSpaces old new space

-- .. the one that makes a page the space's own before it is written, ..
abbrev pub OwnsLeaves : Type 0
OwnsLeaves =
    (old new : Kernel) (space page result : ℕ) (owner : PageOwner) (outside : Outside)
    → TreesGood old outside [] → BankGood old → Owns old new space page result owner → LeavesSpaces old new space

-- .. and those that put bytes.
abbrev pub PieceLeaves : Type 0
PieceLeaves =
    (old new : Kernel) (space at : ℕ) (bytes : List ℕ) (owner : PageOwner) → PutsPiece old new space at bytes owner → LeavesSpaces old new space

abbrev pub PutLeaves : Type 0
PutLeaves = (old new : Kernel) (space at : ℕ) (bytes : List ℕ) → PutsBytes old new space at bytes → LeavesSpaces old new space

-- What stands stands on where the space is a process's, ..
abbrev pub StandingWithMemory : Type 0
StandingWithMemory =
    (old new : Kernel) (space : ℕ)
    → LeavesSpaces old new space → (forest_of old).owner (NodeObject space) ≡ Some OfProcess
    → BankGood new → AllWhole new.bank → Standing old → Standing new

-- .. and where it is the tree of a file or directory, which is one for the same length still.
abbrev pub StandingWithTree : Type 0
StandingWithTree =
    (old new : Kernel) (space number : ℕ) (inode : Inode)
    → LeavesSpaces old new space → at (inodes_of old) number ≡ Some inode → HasTree inode.kind → inode.root ≡ space
    → IsFileTree (forest_of new).keys (memory_page new) space inode.length
    → PagesAreOf (pages_owner inode.kind) (page_owners new) (map_of (forest_of new).keys space)
    → BankGood new → AllWhole new.bank → Standing old → Standing new

-- ---- birth and end

-- A space of a process was added, and a domain made whose space it is.
abbrev pub StandingWithBirth : Type 0
StandingWithBirth =
    (old mid new : Kernel) (slot space root : ℕ) (map : ℕ → Option Mapping)
    → Adds old mid space (Some OfProcess) keeper map → MakesDomain mid new slot space root
    → BankGood mid → BankGood new → RowsGood (domain_rows new) → AllWhole new.bank → Standing old → Standing new

-- A domain became a zombie.
abbrev pub StandingWithEnd : Type 0
StandingWithEnd =
    (old new : Kernel) (root : ℕ) → MakesZombie old new root → (at (domains old) root).live ≡ true
    → BankGood new → RowsGood (domain_rows new) → Standing old → Standing new

-- A zombie was dropped.
abbrev pub StandingWithGone : Type 0
StandingWithGone =
    (old new : Kernel) (slot root : ℕ)
    → DropsDomain old new slot root → MayDrop old root → BankGood new → RowsGood (domain_rows new) → Standing old → Standing new

-- ---- buffers

-- Bytes were written in the buffer of a domain, for which a page may have been taken.
abbrev pub StandingWithBuffer : Type 0
StandingWithBuffer =
    (old new : Kernel) (root start : ℕ) (bytes : List ℕ)
    → WritesBuffer old new root start bytes (at (domains old) root).buffer → (at (domains old) root).live ≡ true → start + length bytes ≤ 4096
    → BankGood new → RowsGood (domain_rows new) → Standing old → Standing new

-- The buffer of a domain was given back.
abbrev pub StandingWithoutBuffer : Type 0
StandingWithoutBuffer =
    (old new : Kernel) (root page : ℕ)
    → DropsBuffer old new root page → (at (domains old) root).live ≡ true → (at (domains old) root).buffer ≡ Some page
    → BankGood new → RowsGood (domain_rows new) → Standing old → Standing new

-- ---- slots

-- The domain in a slot is another one now, with another life and another key in the resume room: if these fit, slots are good.
abbrev pub SlotsChanged : Type 0
SlotsChanged =
    (roots : ℕ → Option ℕ) (room : ℕ → Key) (lives : ℕ → Life) (domains : ℕ → Domain) (slot root : ℕ) (key : Key) (life : Life) (domain : Domain)
    → SlotsGood roots room lives domains → at roots slot ≡ Some root
    → IsInSlot (with_at room slot key) (with_at lives root life) (with_at domains root domain) slot root
    → SlotsGood roots (with_at room slot key) (with_at lives root life) (with_at domains root domain)

-- A domain came into a slot that was free, with a root that no slot had: if it fits, slots are good.
abbrev pub SlotsBorn : Type 0
SlotsBorn =
    (roots : ℕ → Option ℕ) (room : ℕ → Key) (lives : ℕ → Life) (domains : ℕ → Domain) (slot root : ℕ) (life : Life) (domain : Domain)
    → SlotsGood roots room lives domains → at roots slot ≡ None → (at domains root).live ≡ false
    → IsInSlot room (with_at lives root life) (with_at domains root domain) slot root
    → SlotsGood (with_at roots slot (Some root)) room (with_at lives root life) (with_at domains root domain)

-- The domain of a slot is one no more, and its key in the resume room is Null: slots are good.
abbrev pub SlotsGone : Type 0
SlotsGone =
    (roots : ℕ → Option ℕ) (room : ℕ → Key) (lives : ℕ → Life) (domains : ℕ → Domain) (slot root : ℕ) (life : Life) (domain : Domain)
    → SlotsGood roots room lives domains → at roots slot ≡ Some root → at room slot ≡ Null → domain.live ≡ false
    → SlotsGood (with_at roots slot None) room (with_at lives root life) (with_at domains root domain)
