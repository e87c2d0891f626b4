-- Which calls have to wait, and for what. None of it is the console's input.
use Rattle.std.specs.Prelude.{◌≡◌, ◌≢◌, ◌<◌, ◌↔◌, ℕ, ◌+◌, ◌-◌, ◌^◌, true, List, [], length, Some, None, Ok}
use Rattle.unix_model.specs.declared.calls.Call.{Call}
use Rattle.unix_model.specs.declared.calls.Call.TheVariants.{Exit, Fork, Exec, Wait, Waitpid, Getpid, Getppid, Brk, Open, Close, Read, Write, Lseek, Dup, Dup2, Pipe as NewPipe, Mkdir, Rmdir, Unlink, Link, Rename, Fstat, Getdents, Ftruncate, Kill}
use Rattle.unix_model.specs.Effect.{Waits, argument_of}
use Rattle.unix_model.specs.Files.{Pipe, has_reader, has_writer}
use Rattle.unix_model.specs.Limits.{pipe_bytes, slot_count}
use Rattle.unix_model.specs.Process.{Process, SentCall}
use Rattle.unix_model.specs.ProcessCalls.{is_waited, least_ended}
use Rattle.unix_model.specs.State.{Unix, Opened, opened, opened_inode}
use Rattle.unix_model.specs.Tables.{at, any_below}
use Rattle.unix_model.specs.Turn.{call_line}

-- a read waits at a pipe that is empty and has a writer
pub record ReadWaits (unix : Unix) (process : Process) (number count : ℕ) : Type 0 where
  pub file : Opened
  pub held : opened unix process number ≡ Some file
  pub some_bytes : count ≢ 0
  pub empty : opened_inode unix file ≡ Some (Pipe [])
  pub writer : has_writer unix.files file.description.inode ≡ true

-- a write waits at a pipe that has a reader, and less free than what is written
pub record WriteWaits (unix : Unix) (process : Process) (number : ℕ) (written : List ℕ) : Type 0 where
  pub file : Opened
  pub contents : List ℕ
  pub held : opened unix process number ≡ Some file
  pub some_bytes : length written ≢ 0
  pub pipe : opened_inode unix file ≡ Some (Pipe contents)
  pub reader : has_reader unix.files file.description.inode ≡ true
  pub full : pipe_bytes < length contents + length written

-- a wait waits where there are such children, and none of them has ended
pub record ChildWaits (unix : Unix) (process : Process) (wanted options : ℕ) : Type 0 where
  pub some_child : any_below (λ slot. is_waited process.pid wanted (at unix.processes slot)) slot_count ≡ true
  pub none_ended : least_ended unix.processes process.pid wanted slot_count ≡ None
  pub may_wait : options ≢ 1

-- what a call waits for; every other call goes through at once
abbrev pub IsWaiting : Unix → Process → SentCall → Call → Type 0
IsWaiting unix process sent Read = ReadWaits unix process (argument_of sent 0) (argument_of sent 2)
IsWaiting unix process sent Write = WriteWaits unix process (argument_of sent 0) sent.bytes
IsWaiting unix process sent Wait = ChildWaits unix process (2 ^ 32 - 1) 0
IsWaiting unix process sent Waitpid = ChildWaits unix process (argument_of sent 0) (argument_of sent 2)
IsWaiting unix process sent Exit = ⊥
IsWaiting unix process sent Fork = ⊥
IsWaiting unix process sent Exec = ⊥
IsWaiting unix process sent Getpid = ⊥
IsWaiting unix process sent Getppid = ⊥
IsWaiting unix process sent Brk = ⊥
IsWaiting unix process sent Open = ⊥
IsWaiting unix process sent Close = ⊥
IsWaiting unix process sent Lseek = ⊥
IsWaiting unix process sent Dup = ⊥
IsWaiting unix process sent Dup2 = ⊥
IsWaiting unix process sent NewPipe = ⊥
IsWaiting unix process sent Mkdir = ⊥
IsWaiting unix process sent Rmdir = ⊥
IsWaiting unix process sent Unlink = ⊥
IsWaiting unix process sent Link = ⊥
IsWaiting unix process sent Rename = ⊥
IsWaiting unix process sent Fstat = ⊥
IsWaiting unix process sent Getdents = ⊥
IsWaiting unix process sent Ftruncate = ⊥
IsWaiting unix process sent Kill = ⊥

-- A call that was sent waits exactly so. Hence whether it waits doesn't depend on the console's input, and it changes only
-- where that pipe's contents, its readers or its writers change, or where a child comes or ends.
abbrev pub WaitsExactly : Type 0
WaitsExactly =
    (unix : Unix) (slot : ℕ) (process : Process) (sent : SentCall) (input : List ℕ)
    → (call_line unix slot process input sent sent.call ≡ Ok Waits) ↔ IsWaiting unix process sent sent.call
