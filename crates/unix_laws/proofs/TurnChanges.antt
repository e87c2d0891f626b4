-- What a turn can do to the state, before the position goes on: one of these, by the phase of its process.
use Rattle.std.proofs.Common.{◌≡◌, ℕ, Bool, true, false, List, Option, Some, None, Result, Ok, Err, refl}
use Rattle.std.specs.Prelude.{if◌then◌else◌, nat_le, nat_lt}
use Rattle.unix_model.specs.declared.calls.Call.{Call}
use Rattle.unix_model.specs.declared.calls.Call.TheVariants as call
use Rattle.unix_model.specs.declared.calls.Errno.{Errno}
use Rattle.unix_model.specs.declared.calls.Errno.TheVariants.{Enosys}
use Rattle.unix_model.specs.Calls.{Calls}
use Rattle.unix_model.specs.Effect.{argument_of, Line, Waits, Goes, Takes, Puts, settled}
use Rattle.unix_model.specs.Limits.{descriptor_count, loads_end}
use Rattle.unix_model.specs.Memory.{all_writable}
use Rattle.unix_model.specs.Enter.{call_enters, entered_line, is_given, or_refused, with_moved_break}
use Rattle.unix_model.specs.Process.{Process, SentCall, Phase, Run, Asked, Sent, Done, Exiting, Zombie, answered, argument, descriptor, in_phase, lowest_open, zombie}
use Rattle.unix_model.specs.Refusals.{◌>>=◌, ◌>>◌, refuse◌when◌, refuse◌where_not◌, refuse◌unless◌}
use Rattle.unix_model.specs.Room.{has_room}
use Rattle.unix_model.specs.State.{Unix, Opened, opened, with_process, with_descriptor_closed}
use Rattle.unix_model.specs.Tables.{at}
use Rattle.unix_model.specs.Turn.{call_line, exit_step, ran, returned, ticked, turned, turned_at, turned_in, with_orphans_adopted}
use Rattle.unix_laws.proofs.Changes.{Changes, IsAnswer, line-changes, settles}
use Rattle.unix_laws.proofs.Lines.{Gives, through, needs, asks, bars, either}

-- a descriptor is open, and its description is such
abbrev pub OpenFor : Unix → Process → ℕ → (Opened → Type 0) → Type 0
OpenFor unix process number P = (file : Opened) × (opened unix process number ≡ Some file) × P file

-- what the keeper has tested of a call that it sends; some calls it sends never
abbrev pub Sendable : Unix → Process → SentCall → Call → Type 0
Sendable unix process sent call.Exit = Unit {0}
Sendable unix process sent call.Fork = Unit {0}
Sendable unix process sent call.Exec = Unit {0}
Sendable unix process sent call.Wait = is_given process.memory (argument_of sent 0) 4 ≡ true
Sendable unix process sent call.Waitpid = is_given process.memory (argument_of sent 1) 4 ≡ true
Sendable unix process sent call.Getpid = ⊥
Sendable unix process sent call.Getppid = ⊥
Sendable unix process sent call.Brk = ⊥
Sendable unix process sent call.Open = Unit {0}
Sendable unix process sent call.Close = OpenFor unix process (argument_of sent 0) (λ file. Unit {0})
Sendable unix process sent call.Read =
    OpenFor unix process (argument_of sent 0) (λ file. (file.description.readable ≡ true) × (all_writable process.memory (argument_of sent 1) (argument_of sent 2) ≡ true))
Sendable unix process sent call.Write = OpenFor unix process (argument_of sent 0) (λ file. file.description.writable ≡ true)
Sendable unix process sent call.Lseek = OpenFor unix process (argument_of sent 0) (λ file. Unit {0})
Sendable unix process sent call.Dup = OpenFor unix process (argument_of sent 0) (λ file. Unit {0})
Sendable unix process sent call.Dup2 = OpenFor unix process (argument_of sent 0) (λ file. nat_le descriptor_count (argument_of sent 1) ≡ false)
Sendable unix process sent call.Pipe = all_writable process.memory (argument_of sent 0) 8 ≡ true
Sendable unix process sent call.Mkdir = Unit {0}
Sendable unix process sent call.Rmdir = Unit {0}
Sendable unix process sent call.Unlink = Unit {0}
Sendable unix process sent call.Link = Unit {0}
Sendable unix process sent call.Rename = Unit {0}
Sendable unix process sent call.Fstat = OpenFor unix process (argument_of sent 0) (λ file. all_writable process.memory (argument_of sent 1) 16 ≡ true)
Sendable unix process sent call.Getdents =
    OpenFor unix process (argument_of sent 0) (λ file. all_writable process.memory (argument_of sent 1) (argument_of sent 2) ≡ true)
Sendable unix process sent call.Ftruncate = OpenFor unix process (argument_of sent 0) (λ file. file.description.writable ≡ true)
Sendable unix process sent call.Kill = Unit {0}

-- what the keeper makes of a process
pub data Enters (unix : Unix) (slot : ℕ) (process : Process) : Process → Type 0 where
  answers : (phase : Phase) → IsAnswer phase → Enters unix slot process (in_phase process phase)
  sends : (sent : SentCall) → Sendable unix process sent sent.call → Enters unix slot process (in_phase process (Sent sent))
  breaks : (address : ℕ) → nat_lt address process.break_start ≡ false → nat_lt loads_end address ≡ false → has_room (with_process unix slot (with_moved_break process address)) ≡ true
      → Enters unix slot process (in_phase (with_moved_break process address) (answered address))

-- an entry that is refused, or gives one of these processes
abbrev pub Entering : Unix → ℕ → Process → Result Process Errno → Type 0
Entering unix slot process (Err errno) = Unit {0}
Entering unix slot process (Ok after) = Enters unix slot process after

module _ (unix : Unix) (slot : ℕ) (process : Process) where
  abbrev Q : Result Process Errno → Type 0
  Q entry = Entering unix slot process entry

  refused : (errno : Errno) → Q (Err errno)
  refused errno = tt

  step : {A : Type 0} (first : Result A Errno) (rest : A → Result Process Errno) → ((x : A) → first ≡ Ok x → Q (rest x)) → Q (first >>= rest)
  step = through Q refused

  need : {A : Type 0} (errno : Errno) (found : Option A) (rest : A → Result Process Errno) → ((x : A) → found ≡ Some x → Q (rest x)) → Q ((refuse errno unless found) >>= rest)
  need = needs Q refused

  ask : (errno : Errno) (test : Bool) (rest : Result Process Errno) → (test ≡ true → Q rest) → Q ((refuse errno where_not test) >> rest)
  ask = asks Q refused

  bar : (errno : Errno) (test : Bool) (rest : Result Process Errno) → (test ≡ false → Q rest) → Q ((refuse errno when test) >> rest)
  bar = bars Q refused

  choose : (test : Bool) (first second : Result Process Errno) → (test ≡ true → Q first) → (test ≡ false → Q second) → Q (if test then first else second)
  choose = either Q refused

  open-for : (P : Opened → Type 0) (number : ℕ) (file : Opened) → opened unix process number ≡ Some file → P file → OpenFor unix process number P
  open-for P number file held holds = (file, held, holds)

  pub call-enters : (wanted : Call) → Q (call_enters unix slot process (argument process 0) (argument process 1) (argument process 2) wanted)
  call-enters call.Exit = sends _ tt
  call-enters call.Fork = sends _ tt
  call-enters call.Exec = search (step, sends, tt) depth 20
  call-enters call.Wait = search (ask, sends, tt) depth 20
  call-enters call.Waitpid = search (bar, ask, sends, tt) depth 20
  call-enters call.Getpid = answers _ tt
  call-enters call.Getppid = answers _ tt
  call-enters call.Brk = search (choose, bar, ask, answers, breaks, tt) depth 20
  call-enters call.Open = search (step, ask, sends, tt) depth 20
  call-enters call.Close = search (open-for, need, sends, tt) depth 20
  call-enters call.Read = search (open-for, need, ask, sends, tt) depth 20
  call-enters call.Write = search (open-for, need, ask, sends, tt) depth 20
  call-enters call.Lseek = search (open-for, need, bar, sends, tt) depth 20
  call-enters call.Dup = search (open-for, need, sends, tt) depth 20
  call-enters call.Dup2 = search (open-for, need, bar, sends, tt) depth 20
  call-enters call.Pipe = search (ask, sends, tt) depth 20
  call-enters call.Mkdir = search (step, sends, tt) depth 20
  call-enters call.Rmdir = search (step, sends, tt) depth 20
  call-enters call.Unlink = search (step, sends, tt) depth 20
  call-enters call.Link = search (step, sends, tt) depth 20
  call-enters call.Rename = search (step, sends, tt) depth 20
  call-enters call.Fstat = search (open-for, need, ask, sends, tt) depth 20
  call-enters call.Getdents = search (open-for, need, bar, ask, sends, tt) depth 20
  call-enters call.Ftruncate = search (open-for, need, ask, bar, sends, tt) depth 20
  call-enters call.Kill = search (ask, bar, sends, tt) depth 20

pub line-enters : (calls : Calls) (unix : Unix) (slot : ℕ) (process : Process) → Entering unix slot process (entered_line calls unix slot process)
unfolding entered_line
line-enters calls unix slot process =
    need unix slot process Enosys (calls (argument process 7)) (λ asked. call_enters unix slot process (argument process 0) (argument process 1) (argument process 2) asked)
    (λ asked e. call-enters unix slot process asked)

or-refused : (unix : Unix) (slot : ℕ) (process : Process) (entry : Result Process Errno) → Entering unix slot process entry → Enters unix slot process (or_refused process entry)
or-refused unix slot process (Ok after) enters = enters
or-refused unix slot process (Err errno) enters = answers _ tt

pub data TurnChanges (unix : Unix) (slot : ℕ) : Unix → Type 0 where
  idles : TurnChanges unix slot unix
  runs : (process : Process) → at unix.processes slot ≡ Some process → process.phase ≡ Run → TurnChanges unix slot (with_process unix slot (ran process))
  enters : (process after : Process) → at unix.processes slot ≡ Some process → process.phase ≡ Asked → Enters unix slot process after → TurnChanges unix slot (with_process unix slot after)
  effects : (process : Process) (sent : SentCall) (state : Unix) → at unix.processes slot ≡ Some process → process.phase ≡ Sent sent → Changes unix slot process sent state → TurnChanges unix slot state
  returns : (process : Process) (value address : ℕ) (bytes : List ℕ) → at unix.processes slot ≡ Some process → process.phase ≡ Done value address bytes
      → TurnChanges unix slot (with_process unix slot (returned process value address bytes))
  drops : (process : Process) (word lowest : ℕ) → at unix.processes slot ≡ Some process → process.phase ≡ Exiting word → lowest_open process ≡ Some lowest
      → TurnChanges unix slot (with_descriptor_closed unix slot process lowest (descriptor process lowest))
  ends : (process : Process) (word : ℕ) → at unix.processes slot ≡ Some process → process.phase ≡ Exiting word → lowest_open process ≡ None
      → TurnChanges unix slot (with_orphans_adopted process.pid (with_process unix slot (zombie process word)))

settled-changes : (unix : Unix) (slot : ℕ) (process : Process) (sent : SentCall) (input : List ℕ) (line : Line) → at unix.processes slot ≡ Some process → process.phase ≡ Sent sent
    → Gives (Changes unix slot process sent) input line → TurnChanges unix slot (settled unix slot process input line).state
settled-changes unix slot process sent input (Err errno) there is gives = effects process sent _ there is (settles _ tt)
settled-changes unix slot process sent input (Ok Waits) there is gives = idles
settled-changes unix slot process sent input (Ok (Goes state)) there is gives = effects process sent _ there is gives
settled-changes unix slot process sent input (Ok (Takes state taken left)) there is gives = effects process sent _ there is gives.0
settled-changes unix slot process sent input (Ok (Puts state put)) there is gives = effects process sent _ there is gives

exit-changes : (unix : Unix) (slot : ℕ) (process : Process) (word : ℕ) (found : Option ℕ) → at unix.processes slot ≡ Some process → process.phase ≡ Exiting word → lowest_open process ≡ found
    → TurnChanges unix slot (exit_step unix slot process word found)
exit-changes unix slot process word (Some lowest) there exits least = drops process word lowest there exits least
exit-changes unix slot process word None there exits least = ends process word there exits least

in-changes : (calls : Calls) (unix : Unix) (slot : ℕ) (process : Process) (input : List ℕ) (phase : Phase) → at unix.processes slot ≡ Some process → process.phase ≡ phase
    → TurnChanges unix slot (turned_in calls unix slot process input phase).state
in-changes calls unix slot process input Run there is = runs process there is
in-changes calls unix slot process input Asked there is = enters process _ there is (or-refused unix slot process (entered_line calls unix slot process) (line-enters calls unix slot process))
in-changes calls unix slot process input (Sent sent) there is =
    settled-changes unix slot process sent input (call_line unix slot process input sent sent.call) there is (line-changes unix slot process input sent sent.call)
in-changes calls unix slot process input (Done value address bytes) there is = returns process value address bytes there is
in-changes calls unix slot process input (Exiting word) there is = exit-changes unix slot process word (lowest_open process) there is refl
in-changes calls unix slot process input (Zombie word) there is = idles

pub at-changes : (calls : Calls) (unix : Unix) (slot : ℕ) (input : List ℕ) (found : Option Process) → at unix.processes slot ≡ found → TurnChanges unix slot (turned_at calls unix slot input found).state
at-changes calls unix slot input None there = idles
at-changes calls unix slot input (Some process) there = in-changes calls unix slot process input process.phase there refl

-- what holds of all that a turn can do, and wherever the position is, holds after a turn
pub after-turn : (P : Unix → Type 0) (calls : Calls) (unix : Unix) (slot : ℕ) (input : List ℕ)
    → ((state : Unix) → TurnChanges unix slot state → P (ticked state)) → P (turned calls unix slot input).state
unfolding turned
after-turn P calls unix slot input holds =
    holds (turned_at calls unix slot input (at unix.processes slot)).state (at-changes calls unix slot input (at unix.processes slot) refl)
