-- A pipe that is made: its inode, its page, and the page's promise.
use Rattle.std.specs.Prelude.{◌≡◌, ℕ, ◌+◌, ◌-◌, ◌<◌, ◌≤◌, Some, None, List, [], ◌∷◌, slice_set}
use Rattle.kernel_tables.specs.declared.entry.PageOwner.TheVariants.{Pipe as PipePage}
use Rattle.kernel_tables.specs.declared.inode.Inode.{Inode}
use Rattle.kernel_tables.specs.declared.inode.InodeKind.TheVariants.{Pipe}
use Rattle.kernel_tables.specs.declared.row.Row.TheVariants.{Used}
use Rattle.kernel_tables.specs.Blocks.{inode_block, machine_block, page_entry_block}
use Rattle.kernel_tables.specs.Kernel.{Kernel, first_page}
use Rattle.file_tables.specs.Numbers.{fresh_inode, least_free_inode}
use Rattle.file_tables.specs.Roots.{ExchangesRoots}
use Rattle.space_bank.specs.Bank.{TakesPage}
use Rattle.space_bank.specs.Shares.{PutsPageInHand}
use Rattle.unix_model.specs.declared.calls.Errno.{Errno}
use Rattle.unix_model.specs.declared.calls.Errno.TheVariants.{Enfile, Enomem}
use Rattle.pipe_domain.specs.Pipes.{HasRing, IsPipeAt, IsSeenWith, pipe_at, queue}

-- the tables in which a page more is promised
abbrev pub with_promise : Kernel → Kernel
with_promise kernel = record kernel { machine = record kernel.machine { promised = kernel.machine.promised + 1 } }

-- the inode of an empty pipe that nothing names, with this page
abbrev pub empty_pipe : ℕ → Inode
empty_pipe page = record (fresh_inode Pipe) { root = page }

-- A pipe was made at the least free number, which has no entry and no description yet. A page was promised, and taken for it; then
-- the row of its inode was written. It holds nothing, and in the flat state it is the one thing that is new.
pub record MakesPipe (old new : Kernel) (pipe : ℕ) : Type 0 where
  pub least : least_free_inode old ≡ Some pipe
  pub room : old.machine.promised + 1 ≤ old.size
  pub page : ℕ
  pub taken : Kernel
  pub takes : TakesPage (with_promise old) taken page PipePage
  pub in_hand : PutsPageInHand (with_promise old) taken page
  pub state : new ≡ record taken { inodes = slice_set old.inodes pipe (Used (empty_pipe page)) }
  pub roots : ExchangesRoots taken new pipe (Used (empty_pipe page))
  pub is_pipe : IsPipeAt new pipe
  pub ring : HasRing new pipe (pipe_at new pipe)
  pub descriptions : new.descriptions ≡ old.descriptions
  pub empty : queue new pipe ≡ []
  pub seen : IsSeenWith old new pipe []

-- Why none was made, and nothing has changed: no inode is free, or there is no room for its page.
abbrev pub MakesNoPipe : Kernel → Kernel → Errno → Type 0
MakesNoPipe old new Enfile = (least_free_inode old ≡ None) × (new ≡ old)
MakesNoPipe old new Enomem = (number : ℕ) × (least_free_inode old ≡ Some number) × (old.size < old.machine.promised + 1) × (new ≡ old)
MakesNoPipe old new _ = ⊥

-- the blocks that may have changed where a pipe was made: those of the entry of its page, of the machine's words and of its row
abbrev pub made_blocks : Kernel → ℕ → List ℕ
made_blocks new pipe = page_entry_block ((pipe_at new pipe).root - first_page new.size) ∷ machine_block ∷ inode_block pipe ∷ []

-- and where none was made: that of the machine's words, where its page can't be promised
abbrev pub refused_blocks : Errno → List ℕ
refused_blocks Enomem = machine_block ∷ []
refused_blocks _ = []
