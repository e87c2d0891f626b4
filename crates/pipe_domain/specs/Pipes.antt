-- Pipes as queues: what is in one, and what takes and puts leave.
use Rattle.std.specs.Prelude.{◌≡◌, ℕ, ◌+◌, ◌-◌, ◌%◌, ◌<◌, ◌≤◌, Bool, true, false, Some, List, [], ◌++◌, take, drop, length, slice_set, Result, Ok, Err}
use Rattle.kernel_tables.specs.declared.inode.Inode.{Inode}
use Rattle.kernel_tables.specs.declared.inode.InodeKind.TheVariants.{Pipe}
use Rattle.kernel_tables.specs.declared.row.Row.{Row}
use Rattle.kernel_tables.specs.declared.row.Row.TheVariants.{Free, Used, Unspelled}
use Rattle.kernel_tables.specs.Kernel.{Kernel, IsBankPage, first_page, inode_at, inode_count, bank_page, with_bank_page}
use Rattle.kernel_tables.specs.Rows.{entry_at}
use Rattle.kernel_tables.specs.declared.entry.PageOwner.TheVariants.{Pipe as PipePage}
use Rattle.space_bank.specs.FreeList.{is_free}
use Rattle.space_bank.specs.Bank.{BankGood}
use Rattle.kernel_forest.specs.Owners.{page_owners}
use Rattle.file_tables.specs.Rows.{IsInodeAt, InodesGood, DescriptionsGood}
use Rattle.file_tables.specs.Numbers.{fresh_inode}
use Rattle.unix_model.specs.declared.calls.Errno.{Errno}
use Rattle.unix_model.specs.declared.calls.Errno.TheVariants.{Epipe}
use Rattle.unix_model.specs.Files as model
use Rattle.unix_model.specs.Files.{has_reader, has_writer, with_inode}
use Rattle.unix_model.specs.Limits.{pipe_bytes}
use Rattle.unix_model.specs.State.{with_files}
use Rattle.unix_model.specs.Tables.{at}
use Rattle.kernel_machine.specs.Contents.{ring_in}
use Rattle.kernel_machine.specs.Machine.{machine_of}
use Rattle.kernel_machine.specs.Counts.{opens}
use Rattle.kernel_machine.specs.Standing.{Standing}
use Rattle.kernel_machine.specs.View.{view, descriptions_in, files_in}
use Rattle.pipe_domain.specs.declared.piped.Piped.{Piped}
use Rattle.pipe_domain.specs.declared.piped.Piped.TheVariants.{Moved, End, Wait}
use Rattle.pipe_domain.specs.Rings.{ring_size, ring_written}

-- the inode in a row; one of a pipe that has nothing where there is none
abbrev pub row_inode : Row Inode → Inode
row_inode Free = fresh_inode Pipe
row_inode (Used inode) = inode
row_inode Unspelled = fresh_inode Pipe

-- the inode of a pipe
abbrev pub pipe_at : Kernel → ℕ → Inode
pipe_at kernel pipe = row_inode (inode_at kernel pipe)

-- the number is that of a pipe
pub record IsPipeAt (kernel : Kernel) (pipe : ℕ) : Type 0 where
  pub number : pipe < inode_count
  pub row : inode_at kernel pipe ≡ Used (pipe_at kernel pipe)
  pub kind : (pipe_at kernel pipe).kind ≡ Pipe

-- What the inode of a pipe has: a page of the bank that is taken for it, and in it a ring.
pub record HasRing (kernel : Kernel) (pipe : ℕ) (inode : Inode) : Type 0 where
  pub same : inode ≡ pipe_at kernel pipe
  pub right : IsInodeAt pipe inode
  pub kind : inode.kind ≡ Pipe
  pub size : inode.length ≤ ring_size
  pub start : inode.start < ring_size
  pub page : IsBankPage kernel.size inode.root
  pub used : is_free (entry_at kernel.page_entries (inode.root - first_page kernel.size)) ≡ false
  pub owned : at (page_owners kernel) inode.root ≡ Some PipePage
  pub whole : length (bank_page kernel inode.root) ≡ ring_size

-- What a call on a pipe asks, and keeps: a good bank and good tables of files, of which this number is that of a pipe; it has its
-- ring, and its inode says how many descriptions are open on it. All of it is so where all stands and counts agree.
pub record PipeGood (kernel : Kernel) (pipe : ℕ) : Type 0 where
  pub bank : BankGood kernel
  pub inodes : InodesGood kernel.inodes
  pub descriptions : DescriptionsGood kernel.descriptions
  pub is_pipe : IsPipeAt kernel pipe
  pub ring : HasRing kernel pipe (pipe_at kernel pipe)
  pub counted : (pipe_at kernel pipe).opens ≡ opens (descriptions_in (machine_of kernel)) pipe

-- the bytes in a pipe, the first that came first
abbrev pub queue : Kernel → ℕ → List ℕ
queue kernel pipe = ring_in (bank_page kernel (pipe_at kernel pipe).root) (pipe_at kernel pipe).start (pipe_at kernel pipe).length

-- the inode of a pipe from which so many bytes were taken, and to which so many were put
abbrev pub less_by : Inode → ℕ → Inode
less_by inode count = record inode { length = inode.length - count; start = (inode.start + count) % ring_size }

abbrev pub more_by : Inode → ℕ → Inode
more_by inode count = record inode { length = inode.length + count }

-- the tables in which bytes stand in the page of a pipe, behind those that it holds
abbrev pub with_ring_put : Kernel → ℕ → List ℕ → Kernel
with_ring_put kernel pipe bytes = record kernel {
  bank = with_bank_page kernel (pipe_at kernel pipe).root
      (ring_written (bank_page kernel (pipe_at kernel pipe).root) (((pipe_at kernel pipe).start + (pipe_at kernel pipe).length) % ring_size) bytes);
}

-- the tables after so many bytes of a pipe were taken: its row alone has changed
abbrev pub with_taken : Kernel → ℕ → ℕ → Kernel
with_taken kernel pipe count = record kernel { inodes = slice_set kernel.inodes pipe (Used (less_by (pipe_at kernel pipe) count)) }

-- the tables after bytes were put to a pipe: its row and its page alone have changed
abbrev pub with_put : Kernel → ℕ → List ℕ → Kernel
with_put kernel pipe bytes = record (with_ring_put kernel pipe bytes) { inodes = slice_set kernel.inodes pipe (Used (more_by (pipe_at kernel pipe) (length bytes))) }

-- the flat state in which a pipe holds these bytes
abbrev pub IsSeenWith : Kernel → Kernel → ℕ → List ℕ → Type 0
IsSeenWith old new pipe bytes =
    view (machine_of new) ≡ with_files (view (machine_of old)) (with_inode (files_in (machine_of old)) pipe (model.Pipe bytes))

-- ---- taking

-- Bytes were there, and moved: the first ones, as many as are asked for or as there are. Those that are left are the pipe's now.
pub record MovesOut (old new : Kernel) (pipe : ℕ) (into now : List ℕ) (count : ℕ) : Type 0 where
  pub some : 0 < length (queue old pipe)
  pub number : count ≡ length (take (length into) (queue old pipe))
  pub moved : now ≡ take (length into) (queue old pipe) ++ drop count into
  pub state : new ≡ with_taken old pipe count
  pub left : queue new pipe ≡ drop (length into) (queue old pipe)
  pub seen : IsSeenWith old new pipe (drop (length into) (queue old pipe))

-- No bytes were there, and nothing has changed. The pipe has a writer still, or has none.
pub record FindsNone (old new : Kernel) (pipe : ℕ) (into now : List ℕ) (writer : Bool) : Type 0 where
  pub none : queue old pipe ≡ []
  pub writes : has_writer (files_in (machine_of old)) pipe ≡ writer
  pub same_into : now ≡ into
  pub same : new ≡ old

-- what take has done, by its answer
abbrev pub Takes : (old new : Kernel) (pipe : ℕ) (into now : List ℕ) → Piped → Type 0
Takes old new pipe into now (Moved count) = MovesOut old new pipe into now count
Takes old new pipe into now End = FindsNone old new pipe into now false
Takes old new pipe into now Wait = FindsNone old new pipe into now true

-- ---- putting

-- The pipe has a reader, and all bytes had room, and moved: they stand behind those that it held.
pub record MovesIn (old new : Kernel) (pipe : ℕ) (from : List ℕ) (count : ℕ) : Type 0 where
  pub reads : has_reader (files_in (machine_of old)) pipe ≡ true
  pub room : length (queue old pipe) + length from ≤ pipe_bytes
  pub number : count ≡ length from
  pub state : new ≡ with_put old pipe from
  pub all : queue new pipe ≡ queue old pipe ++ from
  pub seen : Standing old → IsSeenWith old new pipe (queue old pipe ++ from)

-- The pipe has a reader, and fewer bytes are free than are to be put. Nothing has changed.
pub record FindsNoRoom (old new : Kernel) (pipe : ℕ) (from : List ℕ) : Type 0 where
  pub reads : has_reader (files_in (machine_of old)) pipe ≡ true
  pub full : pipe_bytes < length (queue old pipe) + length from
  pub same : new ≡ old

-- The pipe has no reader. Nothing has changed.
pub record FindsNoReader (old new : Kernel) (pipe : ℕ) (errno : Errno) : Type 0 where
  pub reads : has_reader (files_in (machine_of old)) pipe ≡ false
  pub refusal : errno ≡ Epipe
  pub same : new ≡ old

-- what put has done, by its answer; it is never End
abbrev pub Puts : (old new : Kernel) (pipe : ℕ) (from : List ℕ) → Result Piped Errno → Type 0
Puts old new pipe from (Ok (Moved count)) = MovesIn old new pipe from count
Puts old new pipe from (Ok End) = ⊥
Puts old new pipe from (Ok Wait) = FindsNoRoom old new pipe from
Puts old new pipe from (Err errno) = FindsNoReader old new pipe errno
