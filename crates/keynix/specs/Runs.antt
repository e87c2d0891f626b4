-- What the loop over turns promises.
use Rattle.std.specs.Prelude.{◌≡◌, ℕ, ◌++◌, List, Option, Some}
use Rattle.unix_model.specs.Machine as machine
use Rattle.unix_model.specs.Schedule.{Schedule}
use Rattle.unix_model.specs.State.{Unix}
use Rattle.keynix.specs.declared.run.Stop.{Stop}
use Rattle.keynix.specs.declared.run.Stop.TheVariants as stop

abbrev pub stop_of : Stop → machine.Stop
stop_of (stop.Halted word) = machine.Halted word
stop_of stop.Idle = machine.Idle
stop_of stop.PlanDone = machine.PlanDone
stop_of stop.Going = machine.Going

-- A run over an input was made: this state and this schedule are left, so many turns were made, and this is why it ended;
-- the input is what the run takes and what it leaves, and has that left; and the output got what the run puts.
pub record RunsAs {S K : Type 0} (whole : machine.RunResult Unix Schedule) (input : List ℕ) (left : S → Option (List ℕ)) (grew : K → List ℕ → K → Type 0) (unix : Unix) (schedule : Schedule) (turns : ℕ) (why : machine.Stop) (source : S) (old new : K) : Type 0 where
  pub state_is : unix ≡ whole.state
  pub schedule_is : schedule ≡ whole.schedule
  pub turns_are : turns ≡ whole.turns
  pub stop_is : why ≡ whole.stop
  pub input_left : left source ≡ Some whole.left
  pub input_split : input ≡ whole.taken ++ whole.left
  pub output_grew : grew old whole.put new
