-- Laws of every turn, each as one statement. A turn is that of any table of calls, of any state and of any slot.
use Rattle.std.specs.Prelude.{◌≡◌, ◌≢◌, ℕ, List, [], ◌++◌, Some, Err}
use Rattle.unix_model.specs.declared.calls.Errno.{Errno}
use Rattle.unix_model.specs.declared.calls.Turned.{Turned}
use Rattle.unix_model.specs.declared.calls.Turned.TheVariants.{Worked}
use Rattle.unix_model.specs.Calls.{Calls, refusal_word}
use Rattle.unix_model.specs.TurnRecord.{Turn}
use Rattle.unix_model.specs.Enter.{entered_line}
use Rattle.unix_model.specs.Process.{Process, SentCall, Asked, Sent, answered}
use Rattle.unix_model.specs.State.{Unix, with_phase}
use Rattle.unix_model.specs.Tables.{at}
use Rattle.unix_model.specs.Turn.{call_line, turned, ticked}

-- a turn that leads to this state with this answer, and takes and puts nothing
abbrev pub quiet : Unix → Turned → List ℕ → Turn
quiet unix answer input = record { state = ticked unix; answer = answer; taken = []; left = input; put = [] }

-- A turn that doesn't work, since its slot is free or a zombie or has to wait, changes nothing but the position.
abbrev pub BlockedChangesNothing : Type 0
BlockedChangesNothing =
    (calls : Calls) (unix : Unix) (slot : ℕ) (input : List ℕ)
    → (turned calls unix slot input).answer ≢ Worked
    → turned calls unix slot input ≡ quiet unix (turned calls unix slot input).answer input

-- the turn of a process whose call is refused with this errno
abbrev pub IsRefused : Calls → Unix → ℕ → Process → List ℕ → Errno → Type 0
IsRefused calls unix slot process input errno =
    turned calls unix slot input ≡ quiet (with_phase unix slot process (answered (refusal_word errno))) Worked input

-- A call that is refused, at the keeper where it is asked or at a server where it was sent, changes nothing but the
-- phase of its process and the position: the process is answered with the errno negated.
abbrev pub RefusalChangesPhase : Type 0
RefusalChangesPhase =
    (calls : Calls) (unix : Unix) (slot : ℕ) (process : Process) (input : List ℕ) (errno : Errno)
    → at unix.processes slot ≡ Some process
    → (process.phase ≡ Asked → entered_line calls unix slot process ≡ Err errno → IsRefused calls unix slot process input errno)
    × ((sent : SentCall) → process.phase ≡ Sent sent → call_line unix slot process input sent sent.call ≡ Err errno
    → IsRefused calls unix slot process input errno)

-- What a turn takes from the input is its front, and what it leaves is the rest.
abbrev pub InputIsSplit : Type 0
InputIsSplit =
    (calls : Calls) (unix : Unix) (slot : ℕ) (input : List ℕ)
    → (turned calls unix slot input).taken ++ (turned calls unix slot input).left ≡ input
