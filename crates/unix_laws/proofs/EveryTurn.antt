-- The laws of every turn.
use Rattle.std.proofs.Common.{◌≡◌, ◌≢◌, ℕ, List, [], ◌++◌, Option, Some, None, Ok, Err, refl, ap, ◌∙◌}
use Rattle.unix_model.specs.declared.calls.Turned.{Turned}
use Rattle.unix_model.specs.declared.calls.Turned.TheVariants.{Worked}
use Rattle.unix_model.specs.Calls.{Calls}
use Rattle.unix_model.specs.Effect.{Line, Waits, Goes, Takes, Puts, settled}
use Rattle.unix_model.specs.Enter.{or_refused}
use Rattle.unix_model.specs.Process.{Process, SentCall, Phase, Run, Asked, Sent, Done, Exiting, Zombie}
use Rattle.unix_model.specs.State.{Unix, with_process}
use Rattle.unix_model.specs.Tables.{at}
use Rattle.unix_model.specs.TurnRecord.{Turn, worked_turn}
use Rattle.unix_model.specs.Turn.{call_line, turned, turned_at, turned_in, ticked}
use Rattle.unix_laws.proofs.Changes.{Changes, line-changes}
use Rattle.unix_laws.proofs.Lines.{Gives}
use Rattle.unix_laws.specs.TurnLaws.{BlockedChangesNothing, RefusalChangesPhase, InputIsSplit}

-- a turn before the position goes on, that changes nothing
abbrev pub still : Unix → Turned → List ℕ → Turn
still unix answer input = record { state = unix; answer = answer; taken = []; left = input; put = [] }

settled-still : (unix : Unix) (slot : ℕ) (process : Process) (input : List ℕ) (line : Line) → (settled unix slot process input line).answer ≢ Worked
    → settled unix slot process input line ≡ still unix (settled unix slot process input line).answer input
settled-still unix slot process input (Err errno) works = absurd (works refl)
settled-still unix slot process input (Ok Waits) works = refl
settled-still unix slot process input (Ok (Goes state)) works = absurd (works refl)
settled-still unix slot process input (Ok (Takes state taken left)) works = absurd (works refl)
settled-still unix slot process input (Ok (Puts state put)) works = absurd (works refl)

in-still : (calls : Calls) (unix : Unix) (slot : ℕ) (process : Process) (input : List ℕ) (phase : Phase)
    → (turned_in calls unix slot process input phase).answer ≢ Worked
    → turned_in calls unix slot process input phase ≡ still unix (turned_in calls unix slot process input phase).answer input
in-still calls unix slot process input Run works = absurd (works refl)
in-still calls unix slot process input Asked works = absurd (works refl)
in-still calls unix slot process input (Sent sent) works = settled-still unix slot process input (call_line unix slot process input sent sent.call) works
in-still calls unix slot process input (Done value address bytes) works = absurd (works refl)
in-still calls unix slot process input (Exiting word) works = absurd (works refl)
in-still calls unix slot process input (Zombie word) works = refl

at-still : (calls : Calls) (unix : Unix) (slot : ℕ) (input : List ℕ) (found : Option Process)
    → (turned_at calls unix slot input found).answer ≢ Worked
    → turned_at calls unix slot input found ≡ still unix (turned_at calls unix slot input found).answer input
at-still calls unix slot input None works = refl
at-still calls unix slot input (Some process) works = in-still calls unix slot process input process.phase works

-- a turn, and the position goes on
abbrev pub and_ticked : Turn → Turn
and_ticked turn = record turn { state = ticked turn.state }

pub blocked : BlockedChangesNothing
unfolding turned
blocked calls unix slot input works = ap and_ticked (at-still calls unix slot input (at unix.processes slot) works)

-- a turn of a process, by its phase
pub turned-in : (calls : Calls) (unix : Unix) (slot : ℕ) (process : Process) (input : List ℕ) (phase : Phase) → at unix.processes slot ≡ Some process → process.phase ≡ phase
    → turned calls unix slot input ≡ and_ticked (turned_in calls unix slot process input phase)
unfolding turned
turned-in calls unix slot process input phase there stands =
    ap (λ held. and_ticked (turned_at calls unix slot input held)) there ∙ ap (λ now. and_ticked (turned_in calls unix slot process input now)) stands

pub refusal_changes : RefusalChangesPhase
refusal_changes calls unix slot process input errno there = (
  λ asks refused. turned-in calls unix slot process input Asked there asks ∙ ap (λ entry. and_ticked (worked_turn (with_process unix slot (or_refused process entry)) input)) refused,
  λ sent is refused. turned-in calls unix slot process input (Sent sent) there is ∙ ap (λ line. and_ticked (settled unix slot process input line)) refused,
)

settled-parts : (unix : Unix) (slot : ℕ) (process : Process) (sent : SentCall) (input : List ℕ) (line : Line) → Gives (Changes unix slot process sent) input line
    → (settled unix slot process input line).taken ++ (settled unix slot process input line).left ≡ input
settled-parts unix slot process sent input (Err errno) gives = refl
settled-parts unix slot process sent input (Ok Waits) gives = refl
settled-parts unix slot process sent input (Ok (Goes state)) gives = refl
settled-parts unix slot process sent input (Ok (Takes state taken left)) gives = gives.1
settled-parts unix slot process sent input (Ok (Puts state put)) gives = refl

in-parts : (calls : Calls) (unix : Unix) (slot : ℕ) (process : Process) (input : List ℕ) (phase : Phase)
    → (turned_in calls unix slot process input phase).taken ++ (turned_in calls unix slot process input phase).left ≡ input
in-parts calls unix slot process input Run = refl
in-parts calls unix slot process input Asked = refl
in-parts calls unix slot process input (Sent sent) = settled-parts unix slot process sent input (call_line unix slot process input sent sent.call) (line-changes unix slot process input sent sent.call)
in-parts calls unix slot process input (Done value address bytes) = refl
in-parts calls unix slot process input (Exiting word) = refl
in-parts calls unix slot process input (Zombie word) = refl

at-parts : (calls : Calls) (unix : Unix) (slot : ℕ) (input : List ℕ) (found : Option Process)
    → (turned_at calls unix slot input found).taken ++ (turned_at calls unix slot input found).left ≡ input
at-parts calls unix slot input None = refl
at-parts calls unix slot input (Some process) = in-parts calls unix slot process input process.phase

pub input_splits : InputIsSplit
unfolding turned
input_splits calls unix slot input = at-parts calls unix slot input (at unix.processes slot)
