-- The calls on processes at their server: a line for each, with its arguments.
use Rattle.std.specs.Prelude.{ℕ, zero, suc, ◌+◌, ◌*◌, ◌%◌, Bool, true, false, ◌&&◌, ◌||◌, List, [], Option, Some, None, Result, Ok, Err, ◌==◌, nat_lt, nat_le, if◌then◌else◌}
use Rattle.std.specs.Int.{to_le_bytes, w32}
use Rattle.unix_model.specs.declared.calls.Errno.{Errno}
use Rattle.unix_model.specs.declared.calls.Errno.TheVariants.{Eacces, Eagain, Echild, Enoent, Enoexec, Enomem, Esrch}
use Rattle.unix_model.specs.declared.elf.ElfFault.{ElfFault}
use Rattle.unix_model.specs.Effect.{Line, Waits, Goes, replies, replies_with}
use Rattle.unix_model.specs.Elf.{LoadPlan, plan_of}
use Rattle.unix_model.specs.Files.{file_bytes}
use Rattle.unix_model.specs.Limits.{pid_end, slot_count}
use Rattle.unix_model.specs.Loading.{image, start_registers}
use Rattle.unix_model.specs.Numbers.{minus_one}
use Rattle.unix_model.specs.Paths.{walked}
use Rattle.unix_model.specs.Process.{Process, Phase, Run, Asked, Sent, Done, Exiting, Zombie, answered}
use Rattle.unix_model.specs.Refusals.{◌>>=◌, ◌>>◌, refuse◌when◌, refuse◌where_not◌, refuse◌unless◌}
use Rattle.unix_model.specs.Room.{has_room}
use Rattle.unix_model.specs.State.{Unix, with_process, without_process, with_phase, free_slot, slot_of, phase_word}
use Rattle.unix_model.specs.Tables.{at, any_below}

-- exit(code) (POSIX.1, _exit): the low byte of the code goes into the wait word
abbrev pub exit_line : Unix → ℕ → Process → (code : ℕ) → Line
exit_line unix slot process code = Ok (Goes (with_phase unix slot process (Exiting (256 * (code % 256)))))

-- the child is as its parent, and has the answer 0
abbrev pub child : ℕ → Process → Process
child pid process = record process { pid = pid; parent = process.pid; phase = answered 0 }

-- the state with a child in a free slot
abbrev pub forked : Unix → ℕ → Process → Unix
forked unix place process = record (with_process unix place (child unix.next_pid process)) { next_pid = unix.next_pid + 1 }

-- fork() (POSIX.1): the child gets the least free slot and the next pid, of which 2^31 - 1 is the last
abbrev pub fork_line : Unix → ℕ → Process → Line
fork_line unix slot process = do
  place ← refuse Eagain unless free_slot unix.processes
  refuse Eagain when nat_le pid_end unix.next_pid
  refuse Enomem where_not has_room (forked unix place process)
  replies (forked unix place process) slot process unix.next_pid

-- the plan of a file that is a program
abbrev pub program : Result LoadPlan ElfFault → Result LoadPlan Errno
program (Ok plan) = Ok plan
program (Err fault) = Err Enoexec

-- the process with a program loaded in place of what it was; its descriptors stay
unfoldable pub with_program : Process → (file : List ℕ) → LoadPlan → (strings : List (List ℕ)) → Process
with_program process file plan strings =
    record process {
      registers = start_registers plan.entry strings;
      memory = image file plan.loads strings;
      break_start = plan.break_start;
      break_end = plan.break_start;
      phase = Run;
    }

-- the state after that
abbrev pub with_loaded : Unix → ℕ → Process → (file : List ℕ) → LoadPlan → (strings : List (List ℕ)) → Unix
with_loaded unix slot process file plan strings = with_process unix slot (with_program process file plan strings)

-- exec(path, strings) (after POSIX.1, execv, which it narrows to a path from the root and no environment)
abbrev pub exec_line : Unix → ℕ → Process → (path : List ℕ) → (strings : List (List ℕ)) → Line
exec_line unix slot process path strings = do
  spot ← walked unix.files path
  inode ← refuse Enoent unless spot.inode
  file ← refuse Eacces unless file_bytes (at unix.files.inodes inode)
  plan ← program (plan_of file)
  refuse Enomem where_not has_room (with_loaded unix slot process file plan strings)
  Ok (Goes (with_loaded unix slot process file plan strings))

-- a child of the parent, with the pid that is asked for, or any where that is -1
abbrev pub is_waited : (parent wanted : ℕ) → Option Process → Bool
is_waited parent wanted None = false
is_waited parent wanted (Some process) = (process.parent == parent) && (wanted == minus_one || process.pid == wanted)

-- a child that has ended, with its slot and wait word
pub record EndedChild : Type 0 where
  pub slot : ℕ
  pub pid : ℕ
  pub word : ℕ

abbrev pub ended_child : ℕ → ℕ → Option ℕ → Option EndedChild
ended_child slot pid None = None
ended_child slot pid (Some word) = Some (record { slot = slot; pid = pid; word = word })

abbrev pub ended_in : ℕ → Option Process → Option EndedChild
ended_in slot None = None
ended_in slot (Some process) = ended_child slot process.pid (phase_word process.phase)

-- of two the one of the lower pid
abbrev pub lesser_pid : Option EndedChild → Option EndedChild → Option EndedChild
lesser_pid None second = second
lesser_pid (Some first) None = Some first
lesser_pid (Some first) (Some second) = if nat_lt second.pid first.pid then Some second else Some first

-- of the children in the slots below a limit that have ended and are waited for, the one of least pid
unfoldable pub least_ended : (ℕ → Option Process) → (parent wanted : ℕ) → ℕ → Option EndedChild
least_ended processes parent wanted zero = None
least_ended processes parent wanted (suc slot) =
    lesser_pid (least_ended processes parent wanted slot)
    (if is_waited parent wanted (at processes slot) then ended_in slot (at processes slot) else None)

-- the word goes to the address, unless that is 0
abbrev pub word_bytes : ℕ → ℕ → List ℕ
word_bytes address word = if address == 0 then [] else to_le_bytes w32 word

-- a child that has ended frees its slot; where there is none, the call waits, unless it was asked not to
abbrev pub waits_for : Unix → ℕ → Process → (address options : ℕ) → Option EndedChild → Line
waits_for unix slot process address options (Some ended) =
    replies_with (without_process unix ended.slot) slot process ended.pid address (word_bytes address ended.word)
waits_for unix slot process address options None = if options == 1 then replies unix slot process 0 else Ok Waits

-- waitpid(pid, address, options), and wait(address), which is waitpid(-1, address, 0) (POSIX.1, narrowed: no process groups;
-- option 1 is WNOHANG, the only one)
abbrev pub waitpid_line : Unix → ℕ → Process → (pid address options : ℕ) → Line
waitpid_line unix slot process pid address options = do
  refuse Echild where_not any_below (λ n. is_waited process.pid pid (at unix.processes n)) slot_count
  waits_for unix slot process address options (least_ended unix.processes process.pid pid slot_count)

abbrev pub wait_line : Unix → ℕ → Process → (address : ℕ) → Line
wait_line unix slot process address = waitpid_line unix slot process minus_one address 0

-- the process ends already
abbrev pub is_ending : Phase → Bool
is_ending Run = false
is_ending Asked = false
is_ending (Sent request) = false
is_ending (Done value address bytes) = false
is_ending (Exiting word) = true
is_ending (Zombie word) = true

-- the state after the process of a slot was sent a signal that ends it
abbrev pub with_killed : Unix → ℕ → ℕ → Option Process → Unix
with_killed unix target signal None = unix
with_killed unix target signal (Some process) = if is_ending process.phase then unix else with_phase unix target process (Exiting signal)

-- kill(pid, signal) (POSIX.1, narrowed: to one process by its pid, SIGKILL and SIGTERM, which end it)
abbrev pub kill_line : Unix → ℕ → Process → (pid signal : ℕ) → Line
kill_line unix slot process pid signal = do
  target ← refuse Esrch unless slot_of unix.processes pid
  if target == slot then Ok (Goes (with_phase unix slot process (Exiting signal))) else
      replies (with_killed unix target signal (at unix.processes target)) slot process 0
