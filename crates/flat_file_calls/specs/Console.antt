-- What reads and writes promise, of the console and of anything else.
use Rattle.std.specs.Prelude.{◌≡◌, ℕ, ◌++◌, List, [], Option, Some, Result, Ok, Err}
use Rattle.unix_model.specs.declared.calls.Turned.{Turned}
use Rattle.unix_model.specs.Effect.{settled}
use Rattle.unix_model.specs.FileCalls.{read_line, write_line}
use Rattle.unix_model.specs.Process.{Process}
use Rattle.unix_model.specs.State.{Unix}
use Rattle.unix_model.specs.TurnRecord.{Turn}
pub use Rattle.console_domain.specs.Lines.{TakesFront}
use Rattle.flat_file_calls.specs.declared.console.fault.ConsoleFault.{ConsoleFault}
use Rattle.flat_file_calls.specs.declared.console.fault.ConsoleFault.TheVariants.{Failed, NoMemory}

-- the turn of a read, by the console's input
abbrev pub read_turn : Unix → ℕ → Process → (number address count : ℕ) → List ℕ → Turn
read_turn unix slot process number address count input =
    settled unix slot process input (read_line unix slot process input number address count)

-- the turn of a write, by the console's input
abbrev pub write_turn : Unix → ℕ → Process → (number : ℕ) → (written : List ℕ) → List ℕ → Turn
write_turn unix slot process number written input =
    settled unix slot process input (write_line unix slot process number written)

-- a read leaves the state, the answer and the input of its turn, and puts nothing
pub record Reads {S : Type 0} (turn : Turn) (left : S → Option (List ℕ)) (state : Unix) (answer : Turned) (source : S) : Type 0 where
  pub state_is : state ≡ turn.state
  pub answer_is : answer ≡ turn.answer
  pub source_left : left source ≡ Some turn.left
  pub nothing_put : turn.put ≡ []

-- a write leaves the state and the answer of its turn, whatever the input, of which it takes nothing; and the sink got
-- what the turn puts
pub record Writes {K : Type 0} (turn : List ℕ → Turn) (grew : K → List ℕ → K → Type 0) (state : Unix) (answer : Turned) (old new : K) : Type 0 where
  pub state_is : (input : List ℕ) → state ≡ (turn input).state
  pub answer_is : (input : List ℕ) → answer ≡ (turn input).answer
  pub nothing_taken : (input : List ℕ) → (turn input).taken ≡ []
  pub left_is : (input : List ℕ) → (turn input).left ≡ input
  pub sink_grew : (input : List ℕ) → grew old (turn input).put new

-- unless a call failed, a count of faults is the same
abbrev pub CountsSame : {A : Type 0} → Type 0 → Result A ConsoleFault → Type 0
CountsSame same (Ok answer) = same
CountsSame same (Err NoMemory) = same
CountsSame same (Err Failed) = Unit {0}
