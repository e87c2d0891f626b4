-- How the flat state goes along with a change of the machine, each law as one statement.
use Rattle.std.specs.Prelude.{◌≡◌, ◌≢◌, ◌<◌, ℕ, Some, None, List, [], length, slice_set}
use Rattle.kn_base.specs.declared.key.Key.{Key}
use Rattle.kernel_tables.specs.declared.inode.Inode.{Inode}
use Rattle.kernel_tables.specs.declared.description.Description.{Description}
use Rattle.kernel_tables.specs.declared.row.Row.{Row}
use Rattle.kernel_tables.specs.declared.row.Row.TheVariants.{Used}
use Rattle.kernel_tables.specs.Kernel.{Kernel, first_page, memory_page}
use Rattle.kernel_tables.specs.Rows.{KeepsRows}
use Rattle.kernel_tables.specs.declared.entry.PageOwner.TheVariants.{Buffer, Pipe as PipePage}
use Rattle.kernel_tables.specs.declared.inode.InodeKind.TheVariants.{Pipe}
use Rattle.forest.specs.Forest.{IsSpace}
use Rattle.forest.specs.Walks.{Mapping, map_of}
use Rattle.kernel_forest.specs.Owners.{page_owner_of}
use Rattle.kernel_forest.specs.Trees.{forest_of}
use Rattle.file_tables.specs.Laws.{WritesFiles}
use Rattle.unix_model.specs.Files.{with_inode, with_description}
use Rattle.unix_model.specs.State.{with_process, without_process, with_files}
use Rattle.unix_model.specs.Tables.{at, with_at}
use Rattle.domain.specs.Domains.{Domain, Life, domains, lives}
use Rattle.domain.specs.Sets.{WritesNumbers, HandsOver}
use Rattle.kernel_machine.specs.Machine.{KernelMachine, machine_of, inodes_of, descriptions_of, held}
use Rattle.kernel_machine.specs.View.{view, memory_in, process_in, inode_in, description_in, files_in}
use Rattle.kernel_machine.specs.Processes.{HoldingsGood, SlotsGood}
use Rattle.kernel_machine.specs.Trees.{HasTree, RootsGood}

-- the slot alone has this root
abbrev pub HasRoot : KernelMachine → ℕ → ℕ → Type 0
HasRoot machine slot root = (at machine.roots slot ≡ Some root) × ((other : ℕ) → at machine.roots other ≡ Some root → other ≡ slot)

-- A domain changes: so does its process.
abbrev pub DomainChanged : Type 0
DomainChanged =
    (machine : KernelMachine) (slot root : ℕ) (domain : Domain) → HasRoot machine slot root
    → view (record machine { domains = with_at machine.domains root domain }) ≡ with_process (view machine) slot (process_in machine domain)

-- A domain of a root that no slot has comes into a slot: so does its process, ..
abbrev pub DomainBorn : Type 0
DomainBorn =
    (machine : KernelMachine) (slot root : ℕ) (domain : Domain) → ((other : ℕ) → at machine.roots other ≢ Some root)
    → view (record machine { roots = with_at machine.roots slot (Some root); domains = with_at machine.domains root domain })
    ≡ with_process (view machine) slot (process_in machine domain)

-- .. and it goes out of its slot.
abbrev pub DomainGone : Type 0
DomainGone =
    (machine : KernelMachine) (slot root : ℕ) (domain : Domain) → HasRoot machine slot root
    → view (record machine { roots = with_at machine.roots slot None; domains = with_at machine.domains root domain }) ≡ without_process (view machine) slot

-- What is called, runs or waits, and by which key it goes on, makes no difference.
abbrev pub LivesUnseen : Type 0
LivesUnseen =
    (machine : KernelMachine) (room : ℕ → Key) (lives : ℕ → Life) → view (record machine { room = room; lives = lives }) ≡ view machine

-- The row of an inode changes: so does the inode, ..
abbrev pub InodeChanged : Type 0
InodeChanged =
    (machine : KernelMachine) (number : ℕ) (row : Inode)
    → view (record machine { inodes = with_at machine.inodes number (Some row) })
    ≡ with_files (view machine) (with_inode (files_in machine) number (inode_in machine row))

-- .. and where the row is free there is none.
abbrev pub InodeFreed : Type 0
InodeFreed =
    (machine : KernelMachine) (number : ℕ)
    → view (record machine { inodes = with_at machine.inodes number None })
    ≡ with_files (view machine) (record (files_in machine) { inodes = with_at (files_in machine).inodes number None })

-- The row of an open description changes: so does the description, ..
abbrev pub DescriptionChanged : Type 0
DescriptionChanged =
    (machine : KernelMachine) (number : ℕ) (row : Description)
    → view (record machine { descriptions = with_at machine.descriptions number (Some row) })
    ≡ with_files (view machine) (with_description (files_in machine) number (description_in row))

-- .. and where the row is free there is none.
abbrev pub DescriptionFreed : Type 0
DescriptionFreed =
    (machine : KernelMachine) (number : ℕ)
    → view (record machine { descriptions = with_at machine.descriptions number None })
    ≡ with_files (view machine) (record (files_in machine) { descriptions = with_at (files_in machine).descriptions number None })

-- Of the machine's words the next process id and the position are the state's.
abbrev pub WordsChanged : Type 0
WordsChanged =
    (machine : KernelMachine) (next_pid position promised : ℕ)
    → view (record machine { words = record machine.words { next_pid = next_pid; position = position; promised = promised } })
    ≡ record (view machine) { next_pid = next_pid; position = position }

-- ---- what calls change of the machine

-- Numbers, or a key, were written in a domain: domains and lives have changed, and nothing else of the machine.
abbrev pub NumbersWritten : Type 0
NumbersWritten =
    (old new : Kernel) → WritesNumbers old new → machine_of new ≡ record (machine_of old) { lives = lives new; domains = domains new }

abbrev pub KeyHandedOver : Type 0
KeyHandedOver =
    (old new : Kernel) (key was : Key) → HandsOver old new key was
    → machine_of new ≡ record (machine_of old) { lives = lives new; domains = domains new }

-- Rows of files were written: inodes and descriptions have changed, and nothing else.
abbrev pub FilesWritten : Type 0
FilesWritten =
    (old new : Kernel) → WritesFiles old new
    → machine_of new ≡ record (machine_of old) { inodes = inodes_of new; descriptions = descriptions_of new }

-- One row of the table of inodes, or of descriptions, is another one now.
abbrev pub InodeWritten : Type 0
InodeWritten =
    (old new : Kernel) (number : ℕ) (row : Row Inode) → number < length old.inodes
    → new ≡ record old { inodes = slice_set old.inodes number row }
    → machine_of new ≡ record (machine_of old) { inodes = with_at (inodes_of old) number (held row) }

abbrev pub DescriptionWritten : Type 0
DescriptionWritten =
    (old new : Kernel) (number : ℕ) (row : Row Description) → number < length old.descriptions
    → new ≡ record old { descriptions = slice_set old.descriptions number row }
    → machine_of new ≡ record (machine_of old) { descriptions = with_at (descriptions_of old) number (held row) }

-- A call on spaces leaves domains, slots, lives and files.
abbrev pub SpacesChanged : Type 0
SpacesChanged =
    (old new : Kernel) → KeepsRows old new → new.inodes ≡ old.inodes → new.descriptions ≡ old.descriptions
    → machine_of new
    ≡ record (machine_of old) {
      forest = forest_of new;
      page_bytes = memory_page new;
      page_owner = page_owner_of (first_page new.size) new.page_entries;
      words = new.machine;
    }

-- ---- memories

-- Trees and the bytes of pages have changed, but for those of a space no memory of a space has, nor the pages of buffers and
-- pipes. Who owns pages, and the bank's words but for those of the flat state, may have changed too.
pub record ChangesMemory (old new : KernelMachine) (space : ℕ) : Type 0 where
  pub rest :
      new
      ≡ record old {
        forest = new.forest;
        page_bytes = new.page_bytes;
        page_owner = new.page_owner;
        words = record new.words { size = old.words.size; quantum = old.words.quantum; position = old.words.position; next_pid = old.words.next_pid };
      }
  pub memories : (other : ℕ) → other ≢ space → IsSpace old.forest [] other → memory_in new (Some other) ≡ memory_in old (Some other)
  pub buffers : (page : ℕ) → at old.page_owner page ≡ Some Buffer → at new.page_bytes page ≡ at old.page_bytes page
  pub pipes : (page : ℕ) → at old.page_owner page ≡ Some PipePage → at new.page_bytes page ≡ at old.page_bytes page

-- The memory of the space of a process changes: so does that process, and nothing else.
abbrev pub MemoryChanged : Type 0
MemoryChanged =
    (old new : KernelMachine) (slot root space : ℕ)
    → HoldingsGood old.domains old.forest old.page_owner → RootsGood old.forest old.page_bytes old.page_owner old.inodes
    → HasRoot old slot root → (at old.domains root).space ≡ Some space → ChangesMemory old new space
    → view new ≡ with_process (view old) slot (record (process_in old (at old.domains root)) { memory = memory_in new (Some space) })

-- The tree of a file or directory changes: so does that inode, and nothing else.
abbrev pub TreeChanged : Type 0
TreeChanged =
    (old new : KernelMachine) (number : ℕ) (inode : Inode) (space : ℕ)
    → HoldingsGood old.domains old.forest old.page_owner → RootsGood old.forest old.page_bytes old.page_owner old.inodes
    → at old.inodes number ≡ Some inode → inode.root ≡ space → space ≢ 0 → HasTree inode.kind → ChangesMemory old new space
    → view new ≡ with_files (view old) (with_inode (files_in old) number (inode_in new inode))

-- The memory of a space changes that nobody has, as where it comes or goes: the state is the same.
abbrev pub MemoryUnseen : Type 0
MemoryUnseen =
    (old new : KernelMachine) (space : ℕ)
    → HoldingsGood old.domains old.forest old.page_owner → RootsGood old.forest old.page_bytes old.page_owner old.inodes
    → ((root : ℕ) → (at old.domains root).space ≢ Some space)
    → ((number : ℕ) (inode : Inode) → at old.inodes number ≡ Some inode → HasTree inode.kind → inode.root ≢ 0 → inode.root ≢ space)
    → ChangesMemory old new space → view new ≡ view old

-- the machine with other bytes in a page
abbrev pub with_page : KernelMachine → ℕ → List ℕ → KernelMachine
with_page machine page bytes = record machine { page_bytes = with_at machine.page_bytes page bytes }

-- The page of a pipe, which no space maps, gets other bytes: that pipe changes, and nothing else.
abbrev pub RingChanged : Type 0
RingChanged =
    (machine : KernelMachine) (number : ℕ) (inode : Inode) (bytes : List ℕ)
    → HoldingsGood machine.domains machine.forest machine.page_owner → RootsGood machine.forest machine.page_bytes machine.page_owner machine.inodes
    → at machine.inodes number ≡ Some inode → inode.kind ≡ Pipe
    → ((space page : ℕ) (mapping : Mapping) → IsSpace machine.forest [] space → map_of machine.forest.keys space page ≡ Some mapping → mapping.page ≢ inode.root)
    → view (with_page machine inode.root bytes) ≡ with_files (view machine) (with_inode (files_in machine) number (inode_in (with_page machine inode.root bytes) inode))

-- ---- put together, as servers use them

-- Where slots are good, no two have one root.
abbrev pub RootsDiffer : Type 0
RootsDiffer =
    (machine : KernelMachine) (slot root : ℕ) → SlotsGood machine.roots machine.room machine.lives machine.domains
    → at machine.roots slot ≡ Some root → HasRoot machine slot root

-- A call that writes numbers in a domain, so that it is another one: its process is another one.
abbrev pub DomainSet : Type 0
DomainSet =
    (old new : Kernel) (slot root : ℕ) (domain : Domain) → WritesNumbers old new → domains new ≡ with_at (domains old) root domain
    → HasRoot (machine_of old) slot root
    → view (machine_of new) ≡ with_process (view (machine_of old)) slot (process_in (machine_of old) domain)

-- A call that writes numbers in a domain, so that it is the same: the state is the same.
abbrev pub LifeSet : Type 0
LifeSet = (old new : Kernel) → WritesNumbers old new → domains new ≡ domains old → view (machine_of new) ≡ view (machine_of old)

-- A row of the table of inodes is written, or one of open descriptions.
abbrev pub InodeSet : Type 0
InodeSet =
    (old new : Kernel) (number : ℕ) (inode : Inode) → number < length old.inodes
    → new ≡ record old { inodes = slice_set old.inodes number (Used inode) }
    → view (machine_of new) ≡ with_files (view (machine_of old)) (with_inode (files_in (machine_of old)) number (inode_in (machine_of old) inode))

abbrev pub DescriptionSet : Type 0
DescriptionSet =
    (old new : Kernel) (number : ℕ) (row : Description) → number < length old.descriptions
    → new ≡ record old { descriptions = slice_set old.descriptions number (Used row) }
    → view (machine_of new) ≡ with_files (view (machine_of old)) (with_description (files_in (machine_of old)) number (description_in row))
