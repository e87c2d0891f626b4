-- Runs of any machine: a state, a schedule that says whose turn is next, and turns that take from the input and put to
-- the output. At the start of a run the schedule takes note of the state. Then, before the first turn, a run looks for
-- Halted, for the end of the schedule, and for the number of turns, in this order. After each turn it looks for Halted,
-- for Idle, for the end of the schedule, and for the number.
use Rattle.std.specs.Prelude.{◌≡◌, ℕ, zero, suc, ◌+◌, Bool, true, false, List, [], ◌++◌, Option, Some, None, if◌then◌else◌}

-- what one turn gives
pub record Step (S P : Type 0) : Type 0 where
  pub state : S
  pub schedule : P
  pub taken : List ℕ
  pub left : List ℕ
  pub put : List ℕ
  -- the turn found that no turn changes anything any more
  pub idle : Bool

pub record Machine (S P : Type 0) : Type 0 where
  -- the schedule at the start of a run
  pub begins : S → P → P
  -- one turn
  pub turn : S → P → List ℕ → Step S P
  -- the wait word with which the machine has halted
  pub halted : S → Option ℕ
  -- the schedule gives no further turn
  pub spent : P → Bool

-- why a run ended
pub data Stop : Type 0 where
  Halted : (word : ℕ) → Stop
  Idle : Stop
  PlanDone : Stop
  -- all turns were made
  Going : Stop

-- what a run gives: what it leaves, the bytes of the input that it took and those that it left, the bytes that it put, how
-- many turns it made, and why it ended
pub record RunResult (S P : Type 0) : Type 0 where
  pub state : S
  pub schedule : P
  pub taken : List ℕ
  pub left : List ℕ
  pub put : List ℕ
  pub turns : ℕ
  pub stop : Stop

-- a run of no turn
abbrev pub ended : {S P : Type 0} → S → P → List ℕ → Stop → RunResult S P
ended state schedule input stop =
    record { state = state; schedule = schedule; taken = []; left = input; put = []; turns = 0; stop = stop }

-- a run of this one turn
abbrev pub one_turn : {S P : Type 0} → Step S P → RunResult S P
one_turn step =
    record { state = step.state; schedule = step.schedule; taken = step.taken; left = step.left; put = step.put; turns = 1; stop = Going }

-- a run, and then another from what the first leaves
abbrev pub followed_by : {S P : Type 0} → RunResult S P → RunResult S P → RunResult S P
followed_by first next =
    record {
      state = next.state;
      schedule = next.schedule;
      taken = first.taken ++ next.taken;
      left = next.left;
      put = first.put ++ next.put;
      turns = first.turns + next.turns;
      stop = next.stop;
    }

abbrev pub stop_by : Option ℕ → Bool → Option Stop
stop_by (Some word) spent = Some (Halted word)
stop_by None true = Some PlanDone
stop_by None false = None

-- why no turn is made, whatever the number
abbrev pub stop_at : {S P : Type 0} → Machine S P → S → P → Option Stop
stop_at machine state schedule = stop_by (machine.halted state) (machine.spent schedule)

-- after a turn that found the machine idle
abbrev pub idle_stop : Option ℕ → Stop
idle_stop (Some word) = Halted word
idle_stop None = Idle

-- the rest of a run after a turn
abbrev pub rest_after : {S P : Type 0} → Machine S P → Step S P → RunResult S P → RunResult S P
rest_after machine step rest = if step.idle then ended step.state step.schedule step.left (idle_stop (machine.halted step.state)) else rest

-- where turns are left: it ends, or a turn and the rest of the run
abbrev pub run_on : {S P : Type 0} → Machine S P → S → P → List ℕ → Step S P → RunResult S P → Option Stop → RunResult S P
run_on machine state schedule input step rest (Some stop) = ended state schedule input stop
run_on machine state schedule input step rest None = followed_by (one_turn step) (rest_after machine step rest)

-- where no turn is left
abbrev pub stop_or_going : Option Stop → Stop
stop_or_going None = Going
stop_or_going (Some stop) = stop

-- a run of at most this many turns, after its start
unfoldable pub run_from : {S P : Type 0} → Machine S P → ℕ → S → P → List ℕ → RunResult S P
run_from machine zero state schedule input = ended state schedule input (stop_or_going (stop_at machine state schedule))
run_from machine (suc n) state schedule input =
    let step = machine.turn state schedule input in
    run_on machine state schedule input step (run_from machine n step.state step.schedule step.left) (stop_at machine state schedule)

-- a run of at most this many turns
unfoldable pub run : {S P : Type 0} → Machine S P → ℕ → S → P → List ℕ → RunResult S P
run machine n state schedule input = run_from machine n state (machine.begins state schedule) input

-- a machine whose schedule takes note of a state once: at a start, and not again at another start or after a turn
pub record StartsOnce {S P : Type 0} (machine : Machine S P) : Type 0 where
  pub start : (state : S) (schedule : P) → machine.begins state (machine.begins state schedule) ≡ machine.begins state schedule
  pub turn : (state : S) (schedule : P) (input : List ℕ)
      → machine.begins (machine.turn state schedule input).state (machine.turn state schedule input).schedule ≡ (machine.turn state schedule input).schedule
