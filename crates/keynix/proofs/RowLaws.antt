-- Turns in a row that find nothing to do are one step of a run.
use Rattle.std.proofs.Common.{◌≡◌, ℕ, zero, suc, ◌+◌, ◌*◌, ◌/◌, ◌%◌, ◌<◌, ◌≤◌, Bool, true, false, List, [], ◌∷◌, ◌++◌, Option, None, refl, sym, ap, ap₂, subst, ◌∙◌, arith, append_assoc, drop}
use Rattle.std.specs.Prelude.{◌==◌, replicate}
use Rattle.std.proofs.lemmas.Bool.Decides.{nat_tests}
use Rattle.unix_model.specs.Calls.{call_of}
use Rattle.unix_model.specs.Machine.{RunResult, Step, run_from, run_on, stop_by}
use Rattle.unix_model.specs.Schedule.{Schedule, Round, Given, ends_idle, is_spent, mark_at, next_slot, schedule_after, step_of, unix_machine}
use Rattle.unix_model.specs.State.{Unix, halted_word}
use Rattle.unix_model.specs.Tables.{at}
use Rattle.unix_model.specs.Turn.{turned, ticked}
use Rattle.unix_model.specs.TurnRecord.{Turn, free_turn}
use Rattle.flat_unix.specs.FreeTurns.{has_nothing_to_do, ticked_times}
use Rattle.flat_unix.proofs.FreeTurns.{turned-nothing}
use Rattle.keynix.specs.Rows.{GivesFree, rest_of, schedule_later, turns_then}

-- ---- some turns, and some more

pub turns_then-joined : (taken put : List ℕ) (turns : ℕ) (more puts : List ℕ) (others : ℕ) (rest : RunResult Unix Schedule)
    → turns_then taken put turns (turns_then more puts others rest) ≡ turns_then (taken ++ more) (put ++ puts) (turns + others) rest
turns_then-joined taken put turns more puts others rest =
    let numbers : turns + (others + rest.turns) ≡ turns + others + rest.turns = omega arith in
    rw (append_assoc taken more rest.taken, append_assoc put puts rest.put, numbers) refl

-- ---- one turn

-- the rest of a run after a turn
abbrev pub rest_behind : ℕ → Schedule → Turn → RunResult Unix Schedule
rest_behind rest schedule turn = rest_of (ends_idle turn.state schedule) rest turn.state (schedule_after call_of turn.state schedule) turn.left

-- one turn, and the rest
pub run-turn : (rest : ℕ) (unix : Unix) (schedule : Schedule) (input : List ℕ) → halted_word unix ≡ None → is_spent schedule ≡ false
    → run_from (unix_machine call_of) (suc rest) unix schedule input
    ≡ turns_then (turned call_of unix (next_slot unix schedule) input).taken (turned call_of unix (next_slot unix schedule) input).put 1 (rest_behind rest schedule (turned call_of unix (next_slot unix schedule) input))
unfolding run_from unix_machine
run-turn rest unix schedule input going given =
    let step : Step Unix Schedule = step_of call_of schedule (turned call_of unix (next_slot unix schedule) input) in
    let stop : stop_by (halted_word unix) (is_spent schedule) ≡ None = ap₂ stop_by going given in
    ap (λ found. run_on (unix_machine call_of) unix schedule input step (run_from (unix_machine call_of) rest step.state step.schedule step.left) found) stop

-- one turn that finds nothing to do
free-turn : (rest : ℕ) (unix : Unix) (schedule : Schedule) (input : List ℕ) → halted_word unix ≡ None → is_spent schedule ≡ false → has_nothing_to_do (at unix.processes (next_slot unix schedule)) ≡ true
    → run_from (unix_machine call_of) (suc rest) unix schedule input ≡ turns_then [] [] 1 (rest_behind rest schedule (free_turn (ticked unix) input))
free-turn rest unix schedule input going given nothing =
    run-turn rest unix schedule input going given
    ∙ ap (λ (turn : Turn). turns_then turn.taken turn.put 1 (rest_behind rest schedule turn)) (turned-nothing unix (next_slot unix schedule) input nothing)

-- ---- the turns go round

-- the next of some turns finds nothing to do
free-first : (unix : Unix) (mark : Option Bool) (number : ℕ) → GivesFree unix (Round mark) (suc number) → has_nothing_to_do (at unix.processes (next_slot unix (Round mark))) ≡ true
free-first unix mark number free =
    let none : unix.position + 0 ≡ unix.position = omega arith in
    subst (λ position. has_nothing_to_do (at unix.processes (position / unix.quantum)) ≡ true) none (free.1 0 (omega arith))

-- a turn that isn't the last of some
tick-on : (unix : Unix) (mark : Option Bool) (number : ℕ) → GivesFree unix (Round mark) (suc (suc number)) → ticked unix ≡ record unix { position = unix.position + 1 }
tick-on unix mark number free =
    let later : unix.position + 1 == 64 * unix.quantum ≡ false = grind (arith, nat_tests, free.0) in
    rw later refl

free-on : (unix : Unix) (mark : Option Bool) (number : ℕ) → GivesFree unix (Round mark) (suc (suc number)) → GivesFree (record unix { position = unix.position + 1 }) (Round mark) (suc number)
free-on unix mark number free = (
  omega (arith, free.0),
  λ k few. let next : unix.position + suc k ≡ unix.position + 1 + k = omega arith in
      subst (λ position. has_nothing_to_do (at unix.processes (position / unix.quantum)) ≡ true) next (free.1 (suc k) (omega (arith, few))),
)

-- no round begins behind such a turn
round-goes_on : (unix : Unix) (mark : Option Bool) (rest : ℕ) (input : List ℕ)
    → rest_behind rest (Round mark) (free_turn (record unix { position = unix.position + 1 }) input) ≡ run_from (unix_machine call_of) rest (record unix { position = unix.position + 1 }) (Round mark) input
round-goes_on unix mark rest input =
    let later : unix.position + 1 == 0 ≡ false = grind (arith, nat_tests) in
    rw later refl

-- the state after so many turns, where the round may end with the last
abbrev round_row : (number rest : ℕ) → Unix → Option Bool → List ℕ → RunResult Unix Schedule
round_row number rest unix mark input = turns_then [] [] number (rest_of (ends_idle unix (Round mark)) rest unix (Round (mark_at call_of unix mark)) input)

run-round : (number rest : ℕ) (unix : Unix) (mark : Option Bool) (input : List ℕ) → halted_word unix ≡ None → GivesFree unix (Round mark) (suc number)
    → run_from (unix_machine call_of) (suc number + rest) unix (Round mark) input ≡ round_row (suc number) rest (ticked_times (suc number) unix) mark input
unfolding ticked_times
run-round zero rest unix mark input going free =
    let one : suc zero + rest ≡ suc rest = omega arith in
    ap (λ all. run_from (unix_machine call_of) all unix (Round mark) input) one
    ∙ free-turn rest unix (Round mark) input going refl (free-first unix mark zero free)
run-round (suc number) rest unix mark input going free =
    let next : Unix = record unix { position = unix.position + 1 } in
    let more : suc (suc number) + rest ≡ suc (suc number + rest) = omega arith in
    let first : run_from (unix_machine call_of) (suc (suc number + rest)) unix (Round mark) input ≡ turns_then [] [] 1 (rest_behind (suc number + rest) (Round mark) (free_turn (ticked unix) input)) =
    free-turn (suc number + rest) unix (Round mark) input going refl (free-first unix mark (suc number) free) in
    ap (λ all. run_from (unix_machine call_of) all unix (Round mark) input) more
    ∙ first
    ∙ ap (λ (after : Unix). turns_then [] [] 1 (rest_behind (suc number + rest) (Round mark) (free_turn after input))) (tick-on unix mark number free)
    ∙ ap (turns_then [] [] 1) (round-goes_on unix mark (suc number + rest) input)
    ∙ ap (turns_then [] [] 1) (run-round number rest next mark input going (free-on unix mark number free))
    ∙ turns_then-joined [] [] 1 [] [] (suc number) (rest_of (ends_idle (ticked_times (suc number) next) (Round mark)) rest (ticked_times (suc number) next) (Round (mark_at call_of (ticked_times (suc number) next) mark)) input)
    ∙ ap (λ (after : Unix). round_row (1 + suc number) rest (ticked_times (suc number) after) mark input) (sym (tick-on unix mark number free))
    ∙ ap (λ all. round_row all rest (ticked_times (suc (suc number)) unix) mark input) numbers
  where
    numbers : 1 + suc number ≡ suc (suc number)
    numbers = omega arith

-- ---- the turns are given

run-given : (number rest : ℕ) (unix : Unix) (slot : ℕ) (slots : List ℕ) (input : List ℕ) → halted_word unix ≡ None → has_nothing_to_do (at unix.processes slot) ≡ true
    → run_from (unix_machine call_of) (suc number + rest) unix (Given (slot ∷ (replicate number slot ++ slots))) input
    ≡ turns_then [] [] (suc number) (run_from (unix_machine call_of) rest (ticked_times (suc number) unix) (Given slots) input)
unfolding ticked_times
run-given zero rest unix slot slots input going nothing =
    let one : suc zero + rest ≡ suc rest = omega arith in
    ap (λ all. run_from (unix_machine call_of) all unix (Given (slot ∷ slots)) input) one
    ∙ free-turn rest unix (Given (slot ∷ slots)) input going refl nothing
run-given (suc number) rest unix slot slots input going nothing =
    let more : suc (suc number) + rest ≡ suc (suc number + rest) = omega arith in
    let numbers : 1 + suc number ≡ suc (suc number) = omega arith in
    ap (λ all. run_from (unix_machine call_of) all unix (Given (slot ∷ (slot ∷ (replicate number slot ++ slots)))) input) more
    ∙ free-turn (suc number + rest) unix (Given (slot ∷ (slot ∷ (replicate number slot ++ slots)))) input going refl nothing
    ∙ ap (turns_then [] [] 1) (run-given number rest (ticked unix) slot slots input going nothing)
    ∙ turns_then-joined [] [] 1 [] [] (suc number) (run_from (unix_machine call_of) rest (ticked_times (suc number) (ticked unix)) (Given slots) input)
    ∙ ap (λ all. turns_then [] [] all (run_from (unix_machine call_of) rest (ticked_times (suc (suc number)) unix) (Given slots) input)) numbers

-- ---- any schedule

pub run-row : (number rest all : ℕ) (unix : Unix) (schedule : Schedule) (input : List ℕ) → all ≡ suc number + rest → halted_word unix ≡ None → GivesFree unix schedule (suc number)
    → run_from (unix_machine call_of) all unix schedule input
    ≡ turns_then [] [] (suc number) (rest_of (ends_idle (ticked_times (suc number) unix) schedule) rest (ticked_times (suc number) unix) (schedule_later (ticked_times (suc number) unix) (suc number) schedule) input)
run-row number rest all unix (Round mark) input is going free =
    ap (λ all. run_from (unix_machine call_of) all unix (Round mark) input) is
    ∙ run-round number rest unix mark input going free
run-row number rest all unix (Given slots) input is going free =
    ap (λ all. run_from (unix_machine call_of) all unix (Given slots) input) is
    ∙ ap (λ slots. run_from (unix_machine call_of) (suc number + rest) unix (Given slots) input) free.1
    ∙ run-given number rest unix free.0 (drop (suc number) slots) input going free.2

-- the schedule after a row of one turn
pub later-one : (unix : Unix) (schedule : Schedule) → is_spent schedule ≡ false → schedule_after call_of unix schedule ≡ schedule_later unix 1 schedule
later-one unix (Round mark) given = refl
later-one unix (Given []) given = cc
later-one unix (Given (slot ∷ slots)) given = refl
