-- Laws of single calls, in the words of their readers.
use Rattle.std.specs.Prelude.{◌≡◌, ◌≤◌, ℕ, ◌+◌, ◌-◌, min, List, ◌++◌, take, drop, length, Option, Some, None, Ok}
use Rattle.unix_model.specs.Boot.{BootEntry, booted}
use Rattle.unix_model.specs.Calls.{Calls}
use Rattle.unix_model.specs.Effect.{Goes, replies_with}
use Rattle.unix_model.specs.FileCalls.{overwritten, reads_from, with_offset, write_place, writes_to}
use Rattle.unix_model.specs.Files.{Entry, File, Pipe, inode_named, with_entry, with_place}
use Rattle.unix_model.specs.Limits.{most_file_bytes, pipe_bytes}
use Rattle.unix_model.specs.Process.{Process, answered, answered_with, in_phase}
use Rattle.unix_model.specs.ProcessCalls.{fork_line}
use Rattle.unix_model.specs.State.{Unix, Opened, with_files}
use Rattle.unix_model.specs.Tables.{at}
use Rattle.unix_model.specs.Turn.{turned}

-- What is written to a pipe stands behind what it held, and a pipe never holds more than its limit.
abbrev pub PipeTakesAtEnd : Type 0
PipeTakesAtEnd =
    (unix state : Unix) (slot : ℕ) (process : Process) (file : Opened) (bytes written : List ℕ)
    → writes_to unix slot process file written (Some (Pipe bytes)) ≡ Ok (Goes state)
    → (at state.files.inodes file.description.inode ≡ Some (Pipe (bytes ++ written))) × (length (bytes ++ written) ≤ pipe_bytes)

-- the piece that a process is given, and what is left behind it
pub record GivesPiece (state : Unix) (slot : ℕ) (process : Process) (file : Opened) (address count : ℕ) (bytes : List ℕ) : Type 0 where
  pub piece : List ℕ
  pub left : List ℕ
  pub whole : piece ++ left ≡ bytes
  pub size : length piece ≡ min count (length bytes)
  pub given : at state.processes slot ≡ Some (in_phase process (answered_with (length piece) address piece))
  pub stays : at state.files.inodes file.description.inode ≡ Some (Pipe left)

-- What is read from a pipe is its front, and the rest stays: so it gives out what was put in, in order.
abbrev pub PipeGivesFront : Type 0
PipeGivesFront =
    (unix state : Unix) (slot : ℕ) (process : Process) (input : List ℕ) (file : Opened) (address count : ℕ) (bytes : List ℕ)
    → reads_from unix slot process input file address count (Some (Pipe bytes)) ≡ Ok (Goes state)
    → GivesPiece state slot process file address count bytes

-- What is written to a file at a place is read there again, and no byte before it changes.
abbrev pub WrittenIsRead : Type 0
WrittenIsRead =
    (bytes written : List ℕ) (place : ℕ)
    → (take (length written) (drop place (overwritten bytes place written)) ≡ written)
    × (place ≤ length bytes → take place (overwritten bytes place written) ≡ take place bytes)

-- a write to a file: the part that fits is written where the write begins, and a read of so many bytes from there gives it
pub record WritesPart (state : Unix) (slot : ℕ) (process : Process) (file : Opened) (bytes written : List ℕ) : Type 0 where
  pub part : List ℕ
  pub part_is : part ≡ take (most_file_bytes - write_place file.description bytes) written
  pub contents : at state.files.inodes file.description.inode ≡ Some (File (overwritten bytes (write_place file.description bytes) part))
  pub answered_so : at state.processes slot ≡ Some (in_phase process (answered (length part)))
  pub reads : (reader : Unix) (other : ℕ) (taker : Process) (input : List ℕ) (again : Opened) (address : ℕ) → again.description.offset ≡ write_place file.description bytes
      → reads_from reader other taker input again address (length part) (Some (File (overwritten bytes (write_place file.description bytes) part)))
      ≡ replies_with (with_files reader (with_offset reader.files again (again.description.offset + length part))) other taker (length part) address part

-- So a write and then a read at one offset give back what was written.
abbrev pub WriteThenRead : Type 0
WriteThenRead =
    (unix state : Unix) (slot : ℕ) (process : Process) (file : Opened) (bytes written : List ℕ)
    → writes_to unix slot process file written (Some (File bytes)) ≡ Ok (Goes state)
    → WritesPart state slot process file bytes written

-- A new name that is taken away again leaves each name of its directory with the inode that it had.
abbrev pub NewNameGoes : Type 0
NewNameGoes =
    (places : List (Option Entry)) (entry : Entry) (name : List ℕ)
    → inode_named places entry.name ≡ None
    → inode_named (with_place (with_entry places entry) entry.name None) name ≡ inode_named places name

-- the child of a fork: as its parent in all but its pid, its parent, its phase and its answer
pub record HasChild (before after : Unix) (process : Process) : Type 0 where
  pub place : ℕ
  pub was_free : at before.processes place ≡ None
  pub there : at after.processes place ≡ Some (record process { pid = before.next_pid; parent = process.pid; phase = answered 0 })

-- A fork that goes through leaves such a child, in a slot that was free, and the caller is answered with its pid.
abbrev pub ForkLeavesChild : Type 0
ForkLeavesChild =
    (unix state : Unix) (slot : ℕ) (process : Process)
    → at unix.processes slot ≡ Some process
    → fork_line unix slot process ≡ Ok (Goes state)
    → HasChild unix state process × (at state.processes slot ≡ Some (in_phase process (answered unix.next_pid)))

-- No pipe of a state holds more than its limit.
abbrev pub PipesFit : Unix → Type 0
PipesFit unix = (number : ℕ) (bytes : List ℕ) → at unix.files.inodes number ≡ Some (Pipe bytes) → length bytes ≤ pipe_bytes

-- Boot makes no pipe that does.
abbrev pub BootPipesFit : Type 0
BootPipesFit = (pages quantum : ℕ) (entries : List BootEntry) (unix : Unix) → booted pages quantum entries ≡ Ok unix → PipesFit unix

-- Nor does any turn leave one.
abbrev pub PipesKept : Type 0
PipesKept = (calls : Calls) (unix : Unix) (slot : ℕ) (input : List ℕ) → PipesFit unix → PipesFit (turned calls unix slot input).state
