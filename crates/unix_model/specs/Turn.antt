-- A turn of one slot, the machine's atomic step: by the phase of its process one instruction, one message to the
-- keeper, one answer of a server, one return of an answer, or one step of an exit.
use Rattle.std.specs.Prelude.{◌≡◌, ℕ, List, Option, Some, None, drop, Err}
use Rattle.unix_model.specs.declared.calls.Turned.{Turned}
use Rattle.unix_model.specs.declared.instructions.Cause.{Cause}
use Rattle.unix_model.specs.declared.instructions.Cause.TheVariants.{Illegal, BadTarget, BadFetch, BadLoad, BadStore}
use Rattle.unix_model.specs.declared.instructions.Outcome.{Outcome}
use Rattle.unix_model.specs.declared.instructions.Outcome.TheVariants.{Next, Call, Break, Fault}
use Rattle.unix_model.specs.declared.calls.Call.{Call as SystemCall}
use Rattle.unix_model.specs.declared.calls.Call.TheVariants.{Exit, Fork, Exec, Wait, Waitpid, Getpid, Getppid, Brk, Open, Close, Read, Write, Lseek, Dup, Dup2, Pipe, Mkdir, Rmdir, Unlink, Link, Rename, Fstat, Getdents, Ftruncate, Kill}
use Rattle.unix_model.specs.declared.calls.Errno.TheVariants.{Enosys}
use Rattle.unix_model.specs.Calls.{Calls}
use Rattle.unix_model.specs.Effect.{Line, settled, argument_of, text_of, texts_of}
use Rattle.unix_model.specs.Enter.{entered}
use Rattle.unix_model.specs.Execution.{executed, with_register, at_next}
use Rattle.unix_model.specs.FileCalls.{close_line, read_line, write_line, lseek_line, dup_line, dup2_line, pipe_line, fstat_line, getdents_line, ftruncate_line}
use Rattle.unix_model.specs.Memory.{with_bytes}
use Rattle.unix_model.specs.NameCalls.{open_line, mkdir_line, rmdir_line, unlink_line, link_line, rename_line}
use Rattle.unix_model.specs.Process.{Process, SentCall, Phase, Run, Asked, Sent, Done, Exiting, Zombie, descriptor, lowest_open, zombie}
use Rattle.unix_model.specs.ProcessCalls.{exit_line, fork_line, exec_line, wait_line, waitpid_line, kill_line}
use Rattle.unix_model.specs.State.{Unix, with_process, with_descriptor_closed, adopted, position_after}
use Rattle.unix_model.specs.Tables.{at}
use Rattle.unix_model.specs.TurnRecord.{Turn, worked_turn, free_turn}
use Rattle.std.specs.Option.{option_map}

-- the signal of a fault (POSIX.1, signal.h, with the numbers of Linux): SIGILL, SIGBUS, or SIGSEGV
abbrev pub signal_of : Cause → ℕ
signal_of Illegal = 4
signal_of BadTarget = 7
signal_of BadFetch = 11
signal_of BadLoad = 11
signal_of BadStore = 11

-- the phase after an instruction; a breakpoint ends the process by SIGTRAP
abbrev pub phase_after : Outcome → Phase
phase_after Next = Run
phase_after Call = Asked
phase_after Break = Exiting 5
phase_after (Fault cause) = Exiting (signal_of cause)

-- Run: one instruction
unfoldable pub ran : Process → Process
ran process =
    let done = executed process.registers process.memory in
    record process { registers = done.registers; memory = done.memory; phase = phase_after done.outcome }

-- Done: the bytes go to memory, the value to a0, and the instruction after the call follows
unfoldable pub returned : Process → ℕ → ℕ → List ℕ → Process
returned process value address bytes =
    record process {
      registers = at_next (with_register process.registers 10 value);
      memory = with_bytes process.memory address bytes;
      phase = Run;
    }

-- the children of the process that ended have process 1 as their parent
abbrev pub with_orphans_adopted : ℕ → Unix → Unix
with_orphans_adopted ended unix = record unix { processes = λ slot. option_map (adopted ended) (at unix.processes slot) }

-- the lowest descriptor is closed; where none is open, the process becomes a zombie
abbrev pub exit_step : Unix → ℕ → Process → ℕ → Option ℕ → Unix
exit_step unix slot process word (Some lowest) = with_descriptor_closed unix slot process lowest (descriptor process lowest)
exit_step unix slot process word None = with_orphans_adopted process.pid (with_process unix slot (zombie process word))

-- a line for each call, with its arguments
abbrev pub call_line : Unix → ℕ → Process → List ℕ → SentCall → SystemCall → Line
call_line unix slot process input sent Exit = exit_line unix slot process (argument_of sent 0)
call_line unix slot process input sent Fork = fork_line unix slot process
call_line unix slot process input sent Exec = exec_line unix slot process (text_of sent 0) (drop 1 (texts_of sent))
call_line unix slot process input sent Wait = wait_line unix slot process (argument_of sent 0)
call_line unix slot process input sent Waitpid = waitpid_line unix slot process (argument_of sent 0) (argument_of sent 1) (argument_of sent 2)
call_line unix slot process input sent Open = open_line unix slot process (text_of sent 0) (argument_of sent 1)
call_line unix slot process input sent Close = close_line unix slot process (argument_of sent 0)
call_line unix slot process input sent Read = read_line unix slot process input (argument_of sent 0) (argument_of sent 1) (argument_of sent 2)
call_line unix slot process input sent Write = write_line unix slot process (argument_of sent 0) sent.bytes
call_line unix slot process input sent Lseek = lseek_line unix slot process (argument_of sent 0) (argument_of sent 1) (argument_of sent 2)
call_line unix slot process input sent Dup = dup_line unix slot process (argument_of sent 0)
call_line unix slot process input sent Dup2 = dup2_line unix slot process (argument_of sent 0) (argument_of sent 1)
call_line unix slot process input sent Pipe = pipe_line unix slot process (argument_of sent 0)
call_line unix slot process input sent Mkdir = mkdir_line unix slot process (text_of sent 0)
call_line unix slot process input sent Rmdir = rmdir_line unix slot process (text_of sent 0)
call_line unix slot process input sent Unlink = unlink_line unix slot process (text_of sent 0)
call_line unix slot process input sent Link = link_line unix slot process (text_of sent 0) (text_of sent 1)
call_line unix slot process input sent Rename = rename_line unix slot process (text_of sent 0) (text_of sent 1)
call_line unix slot process input sent Fstat = fstat_line unix slot process (argument_of sent 0) (argument_of sent 1)
call_line unix slot process input sent Getdents = getdents_line unix slot process (argument_of sent 0) (argument_of sent 1) (argument_of sent 2)
call_line unix slot process input sent Ftruncate = ftruncate_line unix slot process (argument_of sent 0) (argument_of sent 1)
call_line unix slot process input sent Kill = kill_line unix slot process (argument_of sent 0) (argument_of sent 1)
-- these are answered by the keeper, and never sent
call_line unix slot process input sent Getpid = Err Enosys
call_line unix slot process input sent Getppid = Err Enosys
call_line unix slot process input sent Brk = Err Enosys

-- by the phase of the process
abbrev pub turned_in : Calls → Unix → ℕ → Process → List ℕ → Phase → Turn
turned_in calls unix slot process input Run = worked_turn (with_process unix slot (ran process)) input
turned_in calls unix slot process input Asked = worked_turn (with_process unix slot (entered calls unix slot process)) input
turned_in calls unix slot process input (Sent sent) = settled unix slot process input (call_line unix slot process input sent sent.call)
turned_in calls unix slot process input (Done value address bytes) = worked_turn (with_process unix slot (returned process value address bytes)) input
turned_in calls unix slot process input (Exiting word) = worked_turn (exit_step unix slot process word (lowest_open process)) input
turned_in calls unix slot process input (Zombie word) = free_turn unix input

-- by what the slot holds
abbrev pub turned_at : Calls → Unix → ℕ → List ℕ → Option Process → Turn
turned_at calls unix slot input None = free_turn unix input
turned_at calls unix slot input (Some process) = turned_in calls unix slot process input process.phase

-- the position goes on with every turn
abbrev pub ticked : Unix → Unix
ticked unix = record unix { position = position_after unix }

-- a turn of a slot
unfoldable pub turned : Calls → Unix → ℕ → List ℕ → Turn
turned calls unix slot input =
    let turn = turned_at calls unix slot input (at unix.processes slot) in
    record turn { state = ticked turn.state }

-- What a call that makes a turn promises: with the source's bytes, where it tells them, the state, the answer, what is
-- left and what was put are the turn's.
pub record MakesTurn {S K : Type 0} (turn : Turn) (left : S → Option (List ℕ)) (grew : K → List ℕ → K → Type 0) (state : Unix) (answer : Turned) (source : S) (sink_old sink_new : K) : Type 0 where
  pub state_is : state ≡ turn.state
  pub answer_is : answer ≡ turn.answer
  pub source_left : left source ≡ Some turn.left
  pub sink_grew : grew sink_old turn.put sink_new
