-- A run of the Unix machine in the round, one turn at a time: what was made so far, and the rest.
use Rattle.std.proofs.Common.{◌≡◌, ℕ, zero, suc, ◌+◌, List, [], ◌∷◌, ◌++◌, Option, Some, None, Bool, false, arith, refl, sym, ap, ◌∙◌, append_assoc, zero-add, inl, inr}
use Rattle.std.proofs.lemmas.Bool.{cases_Bool}
use Rattle.std.specs.Prelude.{◌==◌}
use Rattle.unix_model.specs.Calls.{Calls}
use Rattle.unix_model.specs.Machine.{StartsOnce, RunResult, Step, Halted, Going, ended, one_turn, followed_by, stop_by, rest_after, run_on, stop_or_going, run_from}
use Rattle.unix_model.specs.Schedule.{Schedule, Round, Given, is_spent, mark_at, next_slot, schedule_after, schedule_begun, step_of, unix_machine}
use Rattle.unix_model.specs.State.{Unix, halted_word}
use Rattle.unix_model.specs.Turn.{turned}

-- a run goes on: these bytes were put and these turns made, and the rest follows
pub record Continues (whole rest : RunResult Unix Schedule) (put : List ℕ) (turns : ℕ) : Type 0 where
  pub put_is : whole.put ≡ put ++ rest.put
  pub turns_are : whole.turns ≡ turns + rest.turns
  pub stop_is : whole.stop ≡ rest.stop

pub continues-start : (whole : RunResult Unix Schedule) → Continues whole whole [] 0
continues-start whole = record { put_is = refl; turns_are = sym (zero-add whole.turns); stop_is = refl }

pub continues-step : (whole rest : RunResult Unix Schedule) (step : Step Unix Schedule) (put : List ℕ) (turns : ℕ)
    → Continues whole (followed_by (one_turn step) rest) put turns → Continues whole rest (put ++ step.put) (turns + 1)
continues-step whole rest step put turns before =
    record {
      put_is = before.put_is ∙ sym (append_assoc put step.put rest.put);
      turns_are = omega (arith, before.turns_are);
      stop_is = before.stop_is;
    }

-- the whole is the same run by another name
pub continues-same : (whole rest other : RunResult Unix Schedule) (put : List ℕ) (turns : ℕ) → rest ≡ other → Continues whole rest put turns → Continues whole other put turns
continues-same whole rest other put turns same before =
    record {
      put_is = before.put_is ∙ ap (λ (run : RunResult Unix Schedule). put ++ run.put) same;
      turns_are = before.turns_are ∙ ap (λ (run : RunResult Unix Schedule). turns + run.turns) same;
      stop_is = before.stop_is ∙ ap (λ (run : RunResult Unix Schedule). run.stop) same;
    }

-- ---- the schedules of the Unix machine

begun-again : (calls : Calls) (unix : Unix) (schedule : Schedule) → schedule_begun calls unix (schedule_begun calls unix schedule) ≡ schedule_begun calls unix schedule
begun-again calls unix (Round None) =
    elim (cases_Bool (unix.position == 0)) as (λ _. schedule_begun calls unix (Round (mark_at calls unix None)) ≡ Round (mark_at calls unix None)) [
      | inl first ↦ rw first refl
      | inr later ↦ rw later (rw later refl)
    ]
begun-again calls unix (Round (Some mark)) = refl
begun-again calls unix (Given slots) = refl

begun-marked : (calls : Calls) (after : Unix) (mark : Option Bool) → schedule_begun calls after (Round (mark_at calls after mark)) ≡ Round (mark_at calls after mark)
begun-marked calls after None = begun-again calls after (Round None)
begun-marked calls after (Some mark) =
    elim (cases_Bool (after.position == 0)) as (λ _. schedule_begun calls after (Round (mark_at calls after (Some mark))) ≡ Round (mark_at calls after (Some mark))) [
      | inl first ↦ rw first refl
      | inr later ↦ rw later refl
    ]

begun-after : (calls : Calls) (after : Unix) (schedule : Schedule) → schedule_begun calls after (schedule_after calls after schedule) ≡ schedule_after calls after schedule
begun-after calls after (Round mark) = begun-marked calls after mark
begun-after calls after (Given []) = refl
begun-after calls after (Given (slot ∷ slots)) = refl

pub unix-starts-once : (calls : Calls) → StartsOnce (unix_machine calls)
unfolding unix_machine
unix-starts-once calls =
    record {
      start = begun-again calls;
      turn = λ unix schedule input. begun-after calls (turned calls unix (next_slot unix schedule) input).state schedule;
    }

-- ---- a run in the round, a turn at a time

-- a machine that has halted
pub run-halted : (calls : Calls) (n : ℕ) (unix : Unix) (schedule : Schedule) (input : List ℕ) (word : ℕ) → halted_word unix ≡ Some word
    → run_from (unix_machine calls) n unix schedule input ≡ ended unix schedule input (Halted word)
unfolding run_from unix_machine
run-halted calls zero unix schedule input word halted = ap (λ found. ended unix schedule input (stop_or_going (stop_by found (is_spent schedule)))) halted
run-halted calls (suc n) unix schedule input word halted =
    let step : Step _ _ = step_of calls schedule (turned calls unix (next_slot unix schedule) input) in
    ap (λ found. run_on (unix_machine calls) unix schedule input step (run_from (unix_machine calls) n step.state step.schedule step.left) (stop_by found (is_spent schedule))) halted

-- no turn is left
pub run-zero : (calls : Calls) (unix : Unix) (mark : Option Bool) (input : List ℕ) → halted_word unix ≡ None
    → run_from (unix_machine calls) 0 unix (Round mark) input ≡ ended unix (Round mark) input Going
unfolding run_from unix_machine
run-zero calls unix mark input going = ap (λ found. ended unix (Round mark) input (stop_or_going (stop_by found false))) going

-- one turn, and the rest
pub run-step : (calls : Calls) (n : ℕ) (unix : Unix) (mark : Option Bool) (input : List ℕ) → halted_word unix ≡ None
    → run_from (unix_machine calls) (suc n) unix (Round mark) input
    ≡ followed_by (one_turn (step_of calls (Round mark) (turned calls unix (next_slot unix (Round mark)) input)))
    (rest_after (unix_machine calls) (step_of calls (Round mark) (turned calls unix (next_slot unix (Round mark)) input))
    (run_from (unix_machine calls) n (step_of calls (Round mark) (turned calls unix (next_slot unix (Round mark)) input)).state
    (step_of calls (Round mark) (turned calls unix (next_slot unix (Round mark)) input)).schedule
    (step_of calls (Round mark) (turned calls unix (next_slot unix (Round mark)) input)).left))
unfolding run_from unix_machine
run-step calls n unix mark input going =
    let step : Step _ _ = step_of calls (Round mark) (turned calls unix (next_slot unix (Round mark)) input) in
    ap (λ found. run_on (unix_machine calls) unix (Round mark) input step (run_from (unix_machine calls) n step.state step.schedule step.left) (stop_by found false)) going
