-- All rules of a state hold at the end of every run.
use Rattle.std.proofs.Common.{◌≡◌, ℕ, zero, suc, Bool, true, false, List, ◌++◌, drop, length, Option, Some, None, sym, ap, ◌∙◌}
use Rattle.std.proofs.lemmas.List.Elements.{All-drop, All-same}
use Rattle.std.proofs.Math.Seq.{drop-append_seam}
use Rattle.std.specs.Prelude.{All, if◌then◌else◌}
use Rattle.unix_model.specs.Calls.{Calls}
use Rattle.unix_model.specs.Machine.{Machine, RunResult, Step, Stop, ended, idle_stop, run, run_from, run_on, stop_at}
use Rattle.unix_model.specs.Rules.{IsByte, IsUnix}
use Rattle.unix_model.specs.Schedule.{Schedule, next_slot, unix_machine, unix_run}
use Rattle.unix_model.specs.State.{Unix}
use Rattle.unix_model.specs.Turn.{turned}
use Rattle.unix_laws.proofs.EveryTurn.{input_splits}
use Rattle.unix_rules.proofs.Boot.{unix_kept}
use Rattle.unix_rules.specs.WholeRules.{RunsKept}

-- what every turn keeps, of the state and of the input that is left, holds at a run's end
module _ {S P : Type 0} (machine : Machine S P) (I : S → List ℕ → Type 0) (keeps : (state : S) (schedule : P) (input : List ℕ) → I state input → I (machine.turn state schedule input).state (machine.turn state schedule input).left) where
  after-rest : (step : Step S P) (rest : RunResult S P) (idle : Bool) → I step.state step.left → I rest.state rest.left
      → I (if idle then ended step.state step.schedule step.left (idle_stop (machine.halted step.state)) else rest).state (if idle then ended step.state step.schedule step.left (idle_stop (machine.halted step.state)) else rest).left
  after-rest step rest true now later = now
  after-rest step rest false now later = later

  after-on : (state : S) (schedule : P) (input : List ℕ) (step : Step S P) (rest : RunResult S P) (stop : Option Stop) → I state input → I step.state step.left → I rest.state rest.left
      → I (run_on machine state schedule input step rest stop).state (run_on machine state schedule input step rest stop).left
  after-on state schedule input step rest (Some stop) start now later = start
  after-on state schedule input step rest None start now later = after-rest step rest step.idle now later

  run-keeps : (n : ℕ) (state : S) (schedule : P) (input : List ℕ) → I state input → I (run_from machine n state schedule input).state (run_from machine n state schedule input).left
  unfolding run_from
  run-keeps zero state schedule input start = start
  run-keeps (suc n) state schedule input start =
      let step : Step S P = machine.turn state schedule input in
      let now : I step.state step.left = keeps state schedule input start in
      after-on state schedule input step (run_from machine n step.state step.schedule step.left) (stop_at machine state schedule) start now (run-keeps n step.state step.schedule step.left now)

-- the state's rules, and an input of bytes
record Holds (calls : Calls) (unix : Unix) (input : List ℕ) : Type 0 where
  is : IsUnix calls unix
  small : All IsByte input

left-bytes : (taken left input : List ℕ) → taken ++ left ≡ input → All IsByte input → All IsByte left
left-bytes taken left input e all =
    All-same IsByte left (drop (length taken) input) (sym (drop-append_seam taken left) ∙ ap (drop (length taken)) e) (All-drop IsByte (length taken) input all)

turn-holds : (calls : Calls) (unix : Unix) (schedule : Schedule) (input : List ℕ) → Holds calls unix input
    → Holds calls ((unix_machine calls).turn unix schedule input).state ((unix_machine calls).turn unix schedule input).left
unfolding unix_machine
turn-holds calls unix schedule input holds =
    let slot : ℕ = next_slot unix schedule in
    record {
      is = unix_kept calls unix slot input holds.small holds.is;
      small = left-bytes (turned calls unix slot input).taken (turned calls unix slot input).left input (input_splits calls unix slot input) holds.small;
    }

pub runs_kept : RunsKept
unfolding unix_run run
runs_kept calls turns unix schedule input small is =
    (run-keeps (unix_machine calls) (Holds calls) (turn-holds calls) turns unix ((unix_machine calls).begins unix schedule) input (record { is = is; small = small })).is
