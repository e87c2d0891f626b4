-- Turns in a row, as steps of a run.
use Rattle.std.specs.Prelude.{◌≡◌, ◌≤◌, ◌<◌, ◌⊎◌, ℕ, ◌+◌, ◌*◌, ◌/◌, Bool, true, List, ◌++◌, drop, Option, Some, if◌then◌else◌}
use Rattle.unix_model.specs.declared.calls.Turned.{Turned}
use Rattle.unix_model.specs.Calls.{call_of}
use Rattle.unix_model.specs.Machine.{RunResult, ended, idle_stop, run_from}
use Rattle.unix_model.specs.Schedule.{Schedule, Round, Given, mark_at, next_slot, unix_machine}
use Rattle.unix_model.specs.State.{Unix, halted_word}
use Rattle.unix_model.specs.Tables.{at}
use Rattle.unix_model.specs.Turn.{turned, MakesTurn}
use Rattle.flat_unix.specs.FreeTurns.{has_nothing_to_do, ticked_times}
use Rattle.keynix.specs.Schedules.{IsGiven}

-- The next turns, so many, find nothing to do, and no round ends before the last of them. Where the turns go round they may be
-- of several slots.
abbrev pub GivesFree : Unix → Schedule → (number : ℕ) → Type 0
GivesFree unix (Round mark) number =
    (unix.position + number ≤ 64 * unix.quantum) × ((k : ℕ) → k < number → has_nothing_to_do (at unix.processes ((unix.position + k) / unix.quantum)) ≡ true)
GivesFree unix (Given slots) number = (slot : ℕ) × IsGiven slots slot number × (has_nothing_to_do (at unix.processes slot) ≡ true)

-- the schedule after so many turns in a row that lead to a state
abbrev pub schedule_later : Unix → ℕ → Schedule → Schedule
schedule_later after number (Round mark) = Round (mark_at call_of after mark)
schedule_later after number (Given slots) = Given (drop number slots)

-- The next turn was made, or so many that find nothing to do: these change the position alone, and neither take nor put
-- anything.
abbrev pub MakesRow : {S K : Type 0} → Schedule → (made : ℕ) → Unix → (input : List ℕ) → (S → Option (List ℕ)) → (K → List ℕ → K → Type 0) → (after : Unix) → S → K → K → Type 0
MakesRow schedule made unix input left grew after source old new =
    ((made ≡ 1) × (answer : Turned) × MakesTurn (turned call_of unix (next_slot unix schedule) input) left grew after answer source old new)
    ⊎ (GivesFree unix schedule made × (after ≡ ticked_times made unix) × (left source ≡ Some input) × (new ≡ old))

-- some turns, and then the rest of a run
abbrev pub turns_then : (taken put : List ℕ) (turns : ℕ) → RunResult Unix Schedule → RunResult Unix Schedule
turns_then taken put turns rest =
    record {
      state = rest.state;
      schedule = rest.schedule;
      taken = taken ++ rest.taken;
      left = rest.left;
      put = put ++ rest.put;
      turns = turns + rest.turns;
      stop = rest.stop;
    }

-- the rest of a run after some turns that may have found the machine idle
abbrev pub rest_of : (idle : Bool) (turns : ℕ) → Unix → Schedule → (input : List ℕ) → RunResult Unix Schedule
rest_of idle turns unix schedule input =
    if idle then ended unix schedule input (idle_stop (halted_word unix)) else run_from (unix_machine call_of) turns unix schedule input

-- Some turns of a run were made: it is these, and the rest, in which so many turns are left.
pub record GoesOn {S K : Type 0} (whole : RunResult Unix Schedule) (turns : ℕ) (input : List ℕ) (left : S → Option (List ℕ)) (grew : K → List ℕ → K → Type 0) (unix : Unix) (schedule : Schedule) (made : ℕ) (idle : Bool) (source : S) (old new : K) : Type 0 where
  pub taken : List ℕ
  pub put : List ℕ
  pub now : List ℕ
  pub run_is : whole ≡ turns_then taken put made (rest_of idle turns unix schedule now)
  pub input_is : input ≡ taken ++ now
  pub input_left : left source ≡ Some now
  pub output_grew : grew old put new
