-- What the line of a call promises.
use Rattle.std.specs.Prelude.{◌≡◌, ℕ, []}
use Rattle.unix_model.specs.declared.calls.Turned.{Turned}
use Rattle.unix_model.specs.Effect.{Line, settled}
use Rattle.unix_model.specs.Process.{Process}
use Rattle.unix_model.specs.State.{Unix}

-- a call that takes nothing from the console and puts nothing there leaves the state and the answer of its line
pub record Settles (unix : Unix) (slot : ℕ) (process : Process) (line : Line) (state : Unix) (answer : Turned) : Type 0 where
  pub state_is : state ≡ (settled unix slot process [] line).state
  pub answer_is : answer ≡ (settled unix slot process [] line).answer
