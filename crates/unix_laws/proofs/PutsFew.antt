-- What goes to the console is what a call of `write` brought, and that is few.
use Rattle.std.proofs.Common.{◌≡◌, ℕ, zero, suc, ◌+◌, ◌-◌, ◌*◌, ◌^◌, ◌≤◌, Bool, true, false, List, Option, Some, None, Result, Ok, Err, refl, sym, subst, arith, length, length-append}
use Rattle.std.specs.Prelude.{if◌then◌else◌}
use Rattle.std.proofs.Math.Nat.{suc-mul}
use Rattle.unix_model.specs.declared.calls.Call.{Call}
use Rattle.unix_model.specs.declared.calls.Call.TheVariants as call
use Rattle.unix_model.specs.declared.calls.Errno.{Errno}
use Rattle.unix_model.specs.declared.calls.Errno.TheVariants.{Echild}
use Rattle.unix_model.specs.Calls.{Calls}
use Rattle.unix_model.specs.Effect.{Line, Waits, Goes, Takes, Puts, argument_of, settled}
use Rattle.unix_model.specs.FileCalls.{reads_from, writes_to}
use Rattle.unix_model.specs.Files.{Inode, File, Directory, Pipe, Console}
use Rattle.unix_model.specs.Machine.{Machine, RunResult, Step, Stop, ended, idle_stop, run, run_from, run_on, stop_at}
use Rattle.unix_model.specs.Process.{Process, SentCall, Phase, Run, Asked, Sent, Done, Exiting, Zombie}
use Rattle.unix_model.specs.Limits.{slot_count}
use Rattle.unix_model.specs.ProcessCalls.{EndedChild, is_waited, least_ended, waitpid_line, waits_for}
use Rattle.unix_model.specs.Refusals.{◌>>=◌, ◌>>◌, refuse◌when◌, refuse◌where_not◌, refuse◌unless◌}
use Rattle.unix_model.specs.Rules.{AreSent}
use Rattle.unix_model.specs.Schedule.{Schedule, next_slot, unix_machine, unix_run}
use Rattle.unix_model.specs.State.{Unix, Opened}
use Rattle.unix_model.specs.Tables.{at, any_below}
use Rattle.unix_model.specs.Turn.{call_line, turned, turned_at, turned_in}
use Rattle.unix_laws.proofs.DescriptorsKeep.{descriptors_kept}
use Rattle.unix_laws.proofs.FewWritten.{FewWritten, PhaseFew, phase-few, sent-few}
use Rattle.unix_laws.proofs.Lines.{through, needs, asks, bars, either}
use Rattle.unix_laws.proofs.SentKeep.{sent_kept}
use Rattle.unix_laws.specs.ConsoleLaws.{RunPutsFew, TurnPutsFew}
use Rattle.unix_laws.specs.RuleLaws.{HaveDescriptors}

-- ---- what the servers put

abbrev LinePuts : Line → Type 0
LinePuts (Err errno) = Unit {0}
LinePuts (Ok Waits) = Unit {0}
LinePuts (Ok (Goes state)) = Unit {0}
LinePuts (Ok (Takes state taken left)) = Unit {0}
LinePuts (Ok (Puts state put)) = length put ≤ 4096

module _ (unix : Unix) (slot : ℕ) (process : Process) (input : List ℕ) (sent : SentCall) where
  abbrev R : Line → Type 0
  R line = LinePuts line

  barred : (errno : Errno) → R (Err errno)
  barred errno = tt

  step : {A : Type 0} (first : Result A Errno) (rest : A → Line) → ((x : A) → first ≡ Ok x → R (rest x)) → R (first >>= rest)
  step = through R barred

  need : {A : Type 0} (errno : Errno) (found : Option A) (rest : A → Line) → ((x : A) → found ≡ Some x → R (rest x)) → R ((refuse errno unless found) >>= rest)
  need = needs R barred

  ask : (errno : Errno) (test : Bool) (rest : Line) → (test ≡ true → R rest) → R ((refuse errno where_not test) >> rest)
  ask = asks R barred

  bar : (errno : Errno) (test : Bool) (rest : Line) → (test ≡ false → R rest) → R ((refuse errno when test) >> rest)
  bar = bars R barred

  choose : (test : Bool) (first second : Line) → (test ≡ true → R first) → (test ≡ false → R second) → R (if test then first else second)
  choose = either R barred

  reads-put : (file : Opened) (address count : ℕ) (found : Option Inode) → R (reads_from unix slot process input file address count found)
  reads-put file address count (Some (File bytes)) = tt
  reads-put file address count (Some (Pipe bytes)) = search (choose, tt) depth 14
  reads-put file address count (Some Console) = tt
  reads-put file address count (Some (Directory parent places)) = tt
  reads-put file address count None = tt

  writes-put : (file : Opened) (written : List ℕ) (found : Option Inode) → length written ≤ 4096 → R (writes_to unix slot process file written found)
  writes-put file written (Some (File bytes)) few = search (ask, bar, tt) depth 14
  writes-put file written (Some (Pipe bytes)) few = search (ask, bar, choose, tt) depth 14
  writes-put file written (Some Console) few = few
  writes-put file written (Some (Directory parent places)) few = tt
  writes-put file written None few = tt

  waits-put : (address options : ℕ) (found : Option EndedChild) → R (waits_for unix slot process address options found)
  waits-put address options (Some ended) = tt
  waits-put address options None = search (choose, tt) depth 14

  waitpid-put : (pid address options : ℕ) → R (waitpid_line unix slot process pid address options)
  waitpid-put pid address options =
      ask Echild (any_below (λ n. is_waited process.pid pid (at unix.processes n)) slot_count) (waits_for unix slot process address options (least_ended unix.processes process.pid pid slot_count))
      (λ e. waits-put address options (least_ended unix.processes process.pid pid slot_count))

  call-puts : (wanted : Call) → FewWritten sent wanted → R (call_line unix slot process input sent wanted)
  call-puts call.Exit few = tt
  call-puts call.Fork few = search (step, need, ask, bar, choose, tt) depth 14
  call-puts call.Exec few = search (step, need, ask, tt) depth 20
  call-puts call.Wait few = waitpid-put (2 ^ 32 - 1) (argument_of sent 0) 0
  call-puts call.Waitpid few = waitpid-put (argument_of sent 0) (argument_of sent 1) (argument_of sent 2)
  call-puts call.Getpid few = tt
  call-puts call.Getppid few = tt
  call-puts call.Brk few = tt
  call-puts call.Open few = search (step, need, tt) depth 20
  call-puts call.Close few = tt
  call-puts call.Read few = search (need, choose, reads-put, tt) depth 20
  call-puts call.Write few = search (need, choose, writes-put, few, tt) depth 20
  call-puts call.Lseek few = search (need, bar, tt) depth 20
  call-puts call.Dup few = search (need, tt) depth 14
  call-puts call.Dup2 few = search (need, choose, tt) depth 20
  call-puts call.Pipe few = search (need, ask, tt) depth 20
  call-puts call.Mkdir few = search (step, bar, tt) depth 20
  call-puts call.Rmdir few = search (step, bar, need, ask, tt) depth 20
  call-puts call.Unlink few = search (step, need, bar, tt) depth 20
  call-puts call.Link few = search (step, need, bar, ask, tt) depth 20
  call-puts call.Rename few = search (step, need, bar, choose, tt) depth 20
  call-puts call.Fstat few = search (need, tt) depth 20
  call-puts call.Getdents few = search (need, ask, tt) depth 20
  call-puts call.Ftruncate few = search (need, bar, ask, tt) depth 20
  call-puts call.Kill few = search (need, choose, tt) depth 20

settled-puts : (unix : Unix) (slot : ℕ) (process : Process) (input : List ℕ) (line : Line) → LinePuts line → length (settled unix slot process input line).put ≤ 4096
settled-puts unix slot process input (Err errno) few = omega arith
settled-puts unix slot process input (Ok Waits) few = omega arith
settled-puts unix slot process input (Ok (Goes state)) few = omega arith
settled-puts unix slot process input (Ok (Takes state taken left)) few = omega arith
settled-puts unix slot process input (Ok (Puts state put)) few = few

in-puts : (calls : Calls) (unix : Unix) (slot : ℕ) (process : Process) (input : List ℕ) (phase : Phase) → PhaseFew phase → length (turned_in calls unix slot process input phase).put ≤ 4096
in-puts calls unix slot process input Run few = omega arith
in-puts calls unix slot process input Asked few = omega arith
in-puts calls unix slot process input (Sent sent) few = settled-puts unix slot process input (call_line unix slot process input sent sent.call) (call-puts unix slot process input sent sent.call few)
in-puts calls unix slot process input (Done value address bytes) few = omega arith
in-puts calls unix slot process input (Exiting word) few = omega arith
in-puts calls unix slot process input (Zombie word) few = omega arith

at-puts : (calls : Calls) (unix : Unix) (slot : ℕ) (input : List ℕ) (found : Option Process) → AreSent calls unix → at unix.processes slot ≡ found → length (turned_at calls unix slot input found).put ≤ 4096
at-puts calls unix slot input None are is = omega arith
at-puts calls unix slot input (Some process) are is =
    in-puts calls unix slot process input process.phase (phase-few process.phase (λ sent phase. sent-few calls unix slot process sent are is phase))

pub turn_puts : TurnPutsFew
unfolding turned
turn_puts calls unix slot input are = at-puts calls unix slot input (at unix.processes slot) are refl

-- ---- runs

module _ {S P : Type 0} (machine : Machine S P) (most : ℕ) (I : S → Type 0) (keeps : (state : S) (schedule : P) (input : List ℕ) → I state → I (machine.turn state schedule input).state) (few : (state : S) (schedule : P) (input : List ℕ) → I state → length (machine.turn state schedule input).put ≤ most) where
  after-rest : (n : ℕ) (step : Step S P) (rest : RunResult S P) (idle : Bool) → length rest.put ≤ n
      → length (if idle then ended step.state step.schedule step.left (idle_stop (machine.halted step.state)) else rest).put ≤ n
  after-rest n step rest true later = omega arith
  after-rest n step rest false later = later

  after-on : (n : ℕ) (state : S) (schedule : P) (input : List ℕ) (step : Step S P) (rest : RunResult S P) (stop : Option Stop) → length step.put ≤ most → length rest.put ≤ n
      → length (run_on machine state schedule input step rest stop).put ≤ n + most
  after-on n state schedule input step rest (Some stop) now later = omega arith
  after-on n state schedule input step rest None now later =
      let more = after-rest n step rest step.idle later in
      simp length-append (omega (arith, now, more))

  run-puts : (n : ℕ) (state : S) (schedule : P) (input : List ℕ) → I state → length (run_from machine n state schedule input).put ≤ n * most
  unfolding run_from
  run-puts zero state schedule input start = omega arith
  run-puts (suc n) state schedule input start =
      let step : Step S P = machine.turn state schedule input in
      subst (λ k. length (run_from machine (suc n) state schedule input).put ≤ k) (sym (suc-mul n most))
      (after-on (n * most) state schedule input step (run_from machine n step.state step.schedule step.left) (stop_at machine state schedule) (few state schedule input start)
      (run-puts n step.state step.schedule step.left (keeps state schedule input start)))

-- what every turn keeps of the calls on their way
record Holds (calls : Calls) (unix : Unix) : Type 0 where
  slots : HaveDescriptors unix.processes
  sent : AreSent calls unix

turn-holds : (calls : Calls) (unix : Unix) (schedule : Schedule) (input : List ℕ) → Holds calls unix → Holds calls ((unix_machine calls).turn unix schedule input).state
unfolding unix_machine
turn-holds calls unix schedule input holds =
    record {
      slots = descriptors_kept calls unix (next_slot unix schedule) input holds.slots;
      sent = sent_kept calls unix (next_slot unix schedule) input holds.slots holds.sent;
    }

turn-few : (calls : Calls) (unix : Unix) (schedule : Schedule) (input : List ℕ) → Holds calls unix → length ((unix_machine calls).turn unix schedule input).put ≤ 4096
unfolding unix_machine
turn-few calls unix schedule input holds = turn_puts calls unix (next_slot unix schedule) input holds.sent

pub run_puts : RunPutsFew
unfolding unix_run run
run_puts calls turns unix schedule input slots sent =
    run-puts (unix_machine calls) 4096 (Holds calls) (turn-holds calls) (turn-few calls) turns unix ((unix_machine calls).begins unix schedule) input (record { slots = slots; sent = sent })
