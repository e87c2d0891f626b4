-- The rules of a state: what holds of the machine at its start and after every turn. Each rule speaks of the fields that
-- it reads, so that a change of other fields leaves it as it is.
use Rattle.std.specs.Prelude.{◌≡◌, ◌≢◌, ◌<◌, ◌≤◌, ◌⊎◌, ℕ, ◌*◌, ◌%◌, ◌^◌, Bool, true, false, ◌||◌, List, Option, Some, None, IsSome, All, length, replicate, slice_index_or, codes, Ok}
use Rattle.unix_model.specs.declared.instructions.Regs.{Regs}
use Rattle.unix_model.specs.Calls.{Calls}
use Rattle.unix_model.specs.Enter.{entered_line}
use Rattle.unix_model.specs.Execution.{register_word}
use Rattle.unix_model.specs.Files.{Files, Inode, File, Directory, Pipe, Console, Entry, Description, console_inode, root_inode, is_directory, is_linked, is_kept, is_within, has_names, parent_of, places_of}
use Rattle.unix_model.specs.Limits.{description_count, descriptor_count, inode_count, least_pages, loads_end, most_file_bytes, most_name_bytes, most_pages, most_places, most_quantum, offset_end, page_bytes, pid_end, pipe_bytes, place_bytes, slot_count, user_pages}
use Rattle.unix_model.specs.Memory.{Memory, Page, all_writable}
use Rattle.unix_model.specs.Process.{Process, SentCall, Phase, Run, Asked, Sent, Done, Exiting, Zombie, descriptor, in_phase, zero_registers}
use Rattle.unix_model.specs.State.{Unix, has_descriptor, phase_word, with_phase}
use Rattle.unix_model.specs.Tables.{at, nothing}

-- a byte, and a word
abbrev pub IsByte : ℕ → Type 0
IsByte byte = byte < 256

abbrev pub IsWord : ℕ → Type 0
IsWord word = word < 2 ^ 32

-- a table has nothing at a limit and past it
abbrev pub EndsAt : {X : Type 0} → ℕ → (ℕ → Option X) → Type 0
EndsAt limit table = (number : ℕ) → limit ≤ number → at table number ≡ None

-- ---- processes

-- 32 words, of which x0 is 0; the address of the next instruction is a multiple of 4
pub record AreRegisters (registers : Regs) : Type 0 where
  pub count : length registers.x ≡ 32
  pub words : All IsWord registers.x
  pub zero_is_zero : register_word registers 0 ≡ 0
  pub pc_word : IsWord registers.pc
  pub pc_aligned : registers.pc % 4 ≡ 0

pub record IsPage (page : Page) : Type 0 where
  pub size : length page.bytes ≡ page_bytes
  pub bytes : All IsByte page.bytes

-- nothing is mapped from 0x8000_0000 on
pub record IsMemory (memory : Memory) : Type 0 where
  pub end : EndsAt user_pages memory
  pub pages : (number : ℕ) (page : Page) → at memory number ≡ Some page → IsPage page

-- the break starts at a page, and lies between its start and the end of the memory for loads
pub record IsBreak (first last : ℕ) : Type 0 where
  pub start_aligned : first % page_bytes ≡ 0
  pub order : first ≤ last
  pub limit : last ≤ loads_end

-- what a phase asks of its process: an answer fits into writable memory, and a zombie has nothing left
abbrev pub IsPhase : Process → Phase → Type 0
IsPhase process Run = Unit {0}
IsPhase process Asked = Unit {0}
IsPhase process (Sent sent) = Unit {0}
IsPhase process (Done value address bytes) =
    (IsWord value) × (IsWord address) × (All IsByte bytes) × (all_writable process.memory address (length bytes) ≡ true)
IsPhase process (Exiting word) = IsWord word
IsPhase process (Zombie word) =
    (IsWord word) × (process.registers ≡ zero_registers) × (process.memory ≡ nothing) × (process.descriptors ≡ replicate descriptor_count None)

pub record IsProcess (process : Process) : Type 0 where
  pub registers : AreRegisters process.registers
  pub memory : IsMemory process.memory
  pub break : IsBreak process.break_start process.break_end
  pub descriptors : length process.descriptors ≡ descriptor_count
  pub phase : IsPhase process process.phase

-- the slots hold processes, and there is no slot past the last
pub record AreSlots (processes : ℕ → Option Process) : Type 0 where
  pub end : EndsAt slot_count processes
  pub each : (slot : ℕ) (process : Process) → at processes slot ≡ Some process → IsProcess process

-- slot 0 holds process 1, pids differ, and each was given out
pub record ArePids (processes : ℕ → Option Process) (next_pid : ℕ) : Type 0 where
  pub first : (process : Process) → at processes 0 ≡ Some process → process.pid ≡ 1
  pub there : IsSome (at processes 0)
  pub least : (slot : ℕ) (process : Process) → at processes slot ≡ Some process → 1 ≤ process.pid
  pub most : (slot : ℕ) (process : Process) → at processes slot ≡ Some process → process.pid < next_pid
  pub differ : (slot other : ℕ) (process second : Process) → at processes slot ≡ Some process → at processes other ≡ Some second
      → process.pid ≡ second.pid → slot ≡ other
  pub limit : next_pid ≤ pid_end

-- a process of this pid, which hasn't ended
pub record Lives (processes : ℕ → Option Process) (pid : ℕ) : Type 0 where
  pub slot : ℕ
  pub process : Process
  pub there : at processes slot ≡ Some process
  pub has_pid : process.pid ≡ pid
  pub goes : phase_word process.phase ≡ None

-- process 1 has no parent; every other process has process 1, or an older one that lives
pub record HaveParents (processes : ℕ → Option Process) : Type 0 where
  pub first : (process : Process) → at processes 0 ≡ Some process → process.parent ≡ 0
  pub older : (slot : ℕ) (process : Process) → at processes slot ≡ Some process → process.parent < process.pid
  pub lives : (slot : ℕ) (process : Process) → at processes slot ≡ Some process → slot ≢ 0 → (process.parent ≡ 1) ⊎ Lives processes process.parent

-- a call that was sent is the one that the keeper gives in this state for its process, were that still in Asked
unfoldable pub AreSent : Calls → Unix → Type 0
AreSent calls unix = (slot : ℕ) (process : Process) (sent : SentCall) → at unix.processes slot ≡ Some process → process.phase ≡ Sent sent
    → entered_line calls (with_phase unix slot process Asked) slot (in_phase process Asked) ≡ Ok process

-- ---- inodes and names

-- what an inode may hold
abbrev pub IsInode : Inode → Type 0
IsInode (File bytes) = (length bytes ≤ most_file_bytes) × All IsByte bytes
IsInode (Directory parent places) = (parent < inode_count) × (length places ≤ most_places)
IsInode (Pipe bytes) = (length bytes ≤ pipe_bytes) × All IsByte bytes
IsInode Console = Unit {0}

-- the console and the root are there, and there is no other console
pub record AreInodes (inodes : ℕ → Option Inode) : Type 0 where
  pub end : EndsAt inode_count inodes
  pub each : (number : ℕ) (inode : Inode) → at inodes number ≡ Some inode → IsInode inode
  pub console : at inodes console_inode ≡ Some Console
  pub one_console : (number : ℕ) → at inodes number ≡ Some Console → number ≡ console_inode
  pub root : is_directory (at inodes root_inode) ≡ true
  pub root_parent : parent_of (at inodes root_inode) ≡ root_inode

-- the entry at a place of a directory
abbrev pub entry_at : (ℕ → Option Inode) → (directory place : ℕ) → Option Entry
entry_at inodes directory place = slice_index_or (places_of (at inodes directory)) place None

-- a byte of a name: any but NUL and a slash
abbrev pub IsNameByte : ℕ → Type 0
IsNameByte byte = IsByte byte × (byte ≢ 0) × (byte ≢ 47)

pub record IsName (name : List ℕ) : Type 0 where
  pub some_bytes : 1 ≤ length name
  pub few_bytes : length name ≤ most_name_bytes
  pub bytes : All IsNameByte name
  pub is_not_dot : name ≢ codes "."
  pub is_not_dots : name ≢ codes ".."

-- names differ within a directory
pub record AreNames (inodes : ℕ → Option Inode) : Type 0 where
  pub each : (directory place : ℕ) (entry : Entry) → entry_at inodes directory place ≡ Some entry → IsName entry.name
  pub differ : (directory place other : ℕ) (entry second : Entry) → entry_at inodes directory place ≡ Some entry → entry_at inodes directory other ≡ Some second
      → entry.name ≡ second.name → place ≡ other

-- a file or a directory
abbrev pub is_named_kind : Option Inode → Bool
is_named_kind (Some (File bytes)) = true
is_named_kind (Some (Directory parent places)) = true
is_named_kind (Some (Pipe bytes)) = false
is_named_kind (Some Console) = false
is_named_kind None = false

-- An entry names a file or a directory, but not the root. A directory that is named has one name, and its parent is the
-- directory of that. It comes to the root by its parents. One without a name is empty.
pub record IsTree (inodes : ℕ → Option Inode) : Type 0 where
  pub names : (directory place : ℕ) (entry : Entry) → entry_at inodes directory place ≡ Some entry → is_named_kind (at inodes entry.inode) ≡ true
  pub root_has_none : (directory place : ℕ) (entry : Entry) → entry_at inodes directory place ≡ Some entry → entry.inode ≢ root_inode
  pub parents : (directory place : ℕ) (entry : Entry) → entry_at inodes directory place ≡ Some entry → is_directory (at inodes entry.inode) ≡ true
      → parent_of (at inodes entry.inode) ≡ directory
  pub once : (directory place other : ℕ) (entry second : Entry) → entry_at inodes directory place ≡ Some entry → entry_at inodes directory other ≡ Some second
      → entry.inode ≡ second.inode → is_directory (at inodes entry.inode) ≡ true → place ≡ other
  pub below_root : (number : ℕ) → is_directory (at inodes number) ≡ true → is_linked inodes number ≡ true
      → (steps : ℕ) × (is_within inodes root_inode steps number ≡ true)
  pub unnamed_empty : (number : ℕ) → is_directory (at inodes number) ≡ true → number ≢ root_inode → is_linked inodes number ≡ false
      → has_names (at inodes number) ≡ false

-- an inode is there only where it lives
unfoldable pub AreKept : Files → Type 0
AreKept files = (number : ℕ) → IsSome (at files.inodes number) → is_kept files number ≡ true

-- ---- descriptions and descriptors

-- a description is open on an inode that is there, for reading, for writing or for both; on a directory for reading
-- alone, at a place
pub record IsDescription (inodes : ℕ → Option Inode) (description : Description) : Type 0 where
  pub inode : IsSome (at inodes description.inode)
  pub mode : (description.readable || description.writable) ≡ true
  pub offset : description.offset < offset_end
  pub directory_mode : is_directory (at inodes description.inode) ≡ true → description.writable ≡ false
  pub directory_offset : is_directory (at inodes description.inode) ≡ true → description.offset % place_bytes ≡ 0

pub record AreDescriptions (files : Files) : Type 0 where
  pub end : EndsAt description_count files.descriptions
  pub each : (number : ℕ) (description : Description) → at files.descriptions number ≡ Some description → IsDescription files.inodes description

-- a description is there exactly where a descriptor names it
pub record AreOpen (processes : ℕ → Option Process) (descriptions : ℕ → Option Description) : Type 0 where
  pub named : (number : ℕ) → IsSome (at descriptions number) → has_descriptor processes number ≡ true
  pub there : (slot number description : ℕ) (process : Process) → at processes slot ≡ Some process → descriptor process number ≡ Some description
      → IsSome (at descriptions description)

-- ---- the state

-- the pages P, the quantum Q and the position in the round
pub record AreSizes (pages quantum position : ℕ) : Type 0 where
  pub least : least_pages ≤ pages
  pub most : pages ≤ most_pages
  pub whole : pages % 64 ≡ 0
  pub some_turns : 1 ≤ quantum
  pub few_turns : quantum ≤ most_quantum
  pub round : position < slot_count * quantum

-- all rules
pub record IsUnix (calls : Calls) (unix : Unix) : Type 0 where
  pub sizes : AreSizes unix.pages unix.quantum unix.position
  pub slots : AreSlots unix.processes
  pub pids : ArePids unix.processes unix.next_pid
  pub parents : HaveParents unix.processes
  pub sent : AreSent calls unix
  pub inodes : AreInodes unix.files.inodes
  pub names : AreNames unix.files.inodes
  pub tree : IsTree unix.files.inodes
  pub kept : AreKept unix.files
  pub descriptions : AreDescriptions unix.files
  pub opens : AreOpen unix.processes unix.files.descriptions
