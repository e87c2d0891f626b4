-- What ends a wait: whether the answer to a call that was sent has to wait lasts through the turns of others, unless they
-- change what it waits for.
use Rattle.std.specs.Prelude.{◌≡◌, ◌≢◌, ◌↔◌, ℕ, List, Option, Some, None, Ok}
use Rattle.unix_model.specs.declared.calls.Call.{Call}
use Rattle.unix_model.specs.declared.calls.Call.TheVariants.{Exit, Fork, Exec, Wait, Waitpid, Getpid, Getppid, Brk, Open, Close, Read, Write, Lseek, Dup, Dup2, Pipe, Mkdir, Rmdir, Unlink, Link, Rename, Fstat, Getdents, Ftruncate, Kill}
use Rattle.unix_model.specs.Calls.{Calls}
use Rattle.unix_model.specs.Effect.{Waits, argument_of}
use Rattle.unix_model.specs.Files.{Files, has_reader, has_writer}
use Rattle.unix_model.specs.Process.{Process, SentCall, Sent}
use Rattle.unix_model.specs.Rules.{IsUnix}
use Rattle.unix_model.specs.State.{Unix, Opened, opened, phase_word}
use Rattle.unix_model.specs.Tables.{at}
use Rattle.unix_model.specs.Turn.{call_line, turned}

-- an inode has the contents that it had, and a reader or a writer where it had one
pub record SamePipe (before after : Files) (inode : ℕ) : Type 0 where
  pub contents : at after.inodes inode ≡ at before.inodes inode
  pub readers : has_reader after inode ≡ has_reader before inode
  pub writers : has_writer after inode ≡ has_writer before inode

-- no child of a process has ended, and no orphan came to it
pub record SameChildren (before after : ℕ → Option Process) (pid : ℕ) : Type 0 where
  pub ended : (slot : ℕ) (child next : Process) → at before slot ≡ Some child → at after slot ≡ Some next → child.parent ≡ pid → phase_word child.phase ≡ None → phase_word next.phase ≡ None
  pub came : (slot : ℕ) (process next : Process) → at before slot ≡ Some process → at after slot ≡ Some next → next.parent ≡ pid → process.parent ≡ pid

-- what the first descriptor of the call is open on is as it was
abbrev pub SameOpened : Unix → Unix → Process → SentCall → Type 0
SameOpened before after process sent = (file : Opened) → opened before process (argument_of sent 0) ≡ Some file → SamePipe before.files after.files file.description.inode

-- what a call waits for is as it was
abbrev pub Undisturbed : Unix → Unix → Process → SentCall → Call → Type 0
Undisturbed before after process sent Read = SameOpened before after process sent
Undisturbed before after process sent Write = SameOpened before after process sent
Undisturbed before after process sent Wait = SameChildren before.processes after.processes process.pid
Undisturbed before after process sent Waitpid = SameChildren before.processes after.processes process.pid
Undisturbed before after process sent Exit = Unit {0}
Undisturbed before after process sent Fork = Unit {0}
Undisturbed before after process sent Exec = Unit {0}
Undisturbed before after process sent Getpid = Unit {0}
Undisturbed before after process sent Getppid = Unit {0}
Undisturbed before after process sent Brk = Unit {0}
Undisturbed before after process sent Open = Unit {0}
Undisturbed before after process sent Close = Unit {0}
Undisturbed before after process sent Lseek = Unit {0}
Undisturbed before after process sent Dup = Unit {0}
Undisturbed before after process sent Dup2 = Unit {0}
Undisturbed before after process sent Pipe = Unit {0}
Undisturbed before after process sent Mkdir = Unit {0}
Undisturbed before after process sent Rmdir = Unit {0}
Undisturbed before after process sent Unlink = Unit {0}
Undisturbed before after process sent Link = Unit {0}
Undisturbed before after process sent Rename = Unit {0}
Undisturbed before after process sent Fstat = Unit {0}
Undisturbed before after process sent Getdents = Unit {0}
Undisturbed before after process sent Ftruncate = Unit {0}
Undisturbed before after process sent Kill = Unit {0}

-- Whether a call that was sent waits is the same after a turn of another slot, unless its pipe's contents, readers or
-- writers changed, a child of its process ended, or orphans came to it; whatever the console's input is, then and now.
abbrev pub WaitingLasts : Type 0
WaitingLasts =
    (calls : Calls) (unix : Unix) (slot turn : ℕ) (process next : Process) (sent : SentCall) (input other later : List ℕ)
    → IsUnix calls unix → at unix.processes slot ≡ Some process → process.phase ≡ Sent sent → turn ≢ slot
    → at (turned calls unix turn input).state.processes slot ≡ Some next
    → Undisturbed unix (turned calls unix turn input).state process sent sent.call
    → (call_line unix slot process other sent sent.call ≡ Ok Waits) ↔ (call_line (turned calls unix turn input).state slot next later sent sent.call ≡ Ok Waits)
