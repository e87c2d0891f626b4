-- A run of n + m turns is a run of n turns and then one of m, for every machine.
use Rattle.std.proofs.Common.{◌≡◌, ℕ, inl, inr, zero, suc, ◌+◌, List, Option, Some, None, Bool, refl, sym, ap, ◌∙◌, arith, append_assoc, zero-add, add_assoc, true, false}
use Rattle.std.proofs.lemmas.Bool.{cases_Bool}
use Rattle.unix_model.specs.Machine.{Machine, StartsOnce, Step, RunResult, Stop, Going, ended, one_turn, followed_by, stop_by, stop_at, idle_stop, rest_after, run_on, stop_or_going, run_from, run}

-- a run of no turn, and then another
pub ended-followed : {S P : Type 0} (state : S) (schedule : P) (input : List ℕ) (stop : Stop) (next : RunResult S P) → followed_by (ended state schedule input stop) next ≡ next
ended-followed state schedule input stop next = rw zero-add refl

-- three runs
pub followed-assoc : {S P : Type 0} (a b c : RunResult S P) → followed_by (followed_by a b) c ≡ followed_by a (followed_by b c)
followed-assoc a b c = simp (append_assoc, add_assoc)

-- a machine that stops doesn't go on
pub stop-is-not-going : (halted : Option ℕ) (done : Bool) (stop : Stop) → stop_by halted done ≡ Some stop → stop ≡ Going → ⊥
stop-is-not-going (Some word) done stop e g = cc
stop-is-not-going None true stop e g = cc
stop-is-not-going None false stop e g = cc

pub idle-is-not-going : (halted : Option ℕ) → idle_stop halted ≡ Going → ⊥
idle-is-not-going (Some word) g = cc
idle-is-not-going None g = cc

-- the rest after a turn
rest_more : {S P : Type 0} (machine : Machine S P) (step : Step S P) (rest whole : RunResult S P) (next : S → P → List ℕ → RunResult S P)
    → (rest.stop ≡ Going → whole ≡ followed_by rest (next rest.state rest.schedule rest.left))
    → (rest_after machine step rest).stop ≡ Going
    → rest_after machine step whole
    ≡ followed_by (rest_after machine step rest)
    (next (rest_after machine step rest).state (rest_after machine step rest).schedule (rest_after machine step rest).left)
rest_more machine step rest whole next split going =
    elim (cases_Bool step.idle) as (λ _. rest_after machine step whole
    ≡ followed_by (rest_after machine step rest)
    (next (rest_after machine step rest).state (rest_after machine step rest).schedule (rest_after machine step rest).left)) [
      | inl idle ↦ absurd (idle-is-not-going (machine.halted step.state) (rw idle at going))
      | inr not_idle ↦ rw not_idle (split (rw not_idle at going))
    ]

-- one turn more: by whether the machine stops before it
one_more : {S P : Type 0} (machine : Machine S P) (state : S) (schedule : P) (input : List ℕ) (step : Step S P) (rest whole : RunResult S P) (next : S → P → List ℕ → RunResult S P) (stop : Option Stop)
    → stop_at machine state schedule ≡ stop
    → (rest.stop ≡ Going → whole ≡ followed_by rest (next rest.state rest.schedule rest.left))
    → (run_on machine state schedule input step rest stop).stop ≡ Going
    → run_on machine state schedule input step whole stop
    ≡ followed_by (run_on machine state schedule input step rest stop)
    (next (run_on machine state schedule input step rest stop).state (run_on machine state schedule input step rest stop).schedule (run_on machine state schedule input step rest stop).left)
one_more machine state schedule input step rest whole next (Some stop) e split going =
    absurd (stop-is-not-going (machine.halted state) (machine.spent schedule) stop e going)
one_more machine state schedule input step rest whole next None e split going =
    ap (followed_by (one_turn step)) (rest_more machine step rest whole next split going) ∙ sym (followed-assoc (one_turn step) (rest_after machine step rest) (next (rest_after machine step rest).state (rest_after machine step rest).schedule (rest_after machine step rest).left))

suc-add : (n m : ℕ) → suc n + m ≡ suc (n + m)
suc-add n m = omega arith

pub splitting_from : {S P : Type 0} (machine : Machine S P) (n m : ℕ) (state : S) (schedule : P) (input : List ℕ)
    → (run_from machine n state schedule input).stop ≡ Going
    → run_from machine (n + m) state schedule input
    ≡ followed_by (run_from machine n state schedule input)
    (run_from machine m (run_from machine n state schedule input).state (run_from machine n state schedule input).schedule (run_from machine n state schedule input).left)
unfolding run_from
splitting_from machine zero m state schedule input going =
    rw zero-add (sym (ended-followed state schedule input (stop_or_going (stop_at machine state schedule)) (run_from machine m state schedule input)))
splitting_from machine (suc n) m state schedule input going =
    let step : Step _ _ = machine.turn state schedule input in
    rw (suc-add n m) (one_more machine state schedule input step (run_from machine n step.state step.schedule step.left) (run_from machine (n + m) step.state step.schedule step.left) (run_from machine m) (stop_at machine state schedule) refl (splitting_from machine n m step.state step.schedule step.left) going)

-- ---- what the schedule takes note of at a start is there already

-- a run's schedule at its end
abbrev pub Noted : {S P : Type 0} → Machine S P → RunResult S P → Type 0
Noted machine made = machine.begins made.state made.schedule ≡ made.schedule

rest-noted : {S P : Type 0} (machine : Machine S P) (step : Step S P) (rest : RunResult S P)
    → machine.begins step.state step.schedule ≡ step.schedule → Noted machine rest → Noted machine (rest_after machine step rest)
rest-noted machine step rest now later =
    elim (cases_Bool step.idle) as (λ _. Noted machine (rest_after machine step rest)) [
      | inl idle ↦ rw idle now
      | inr not_idle ↦ rw not_idle later
    ]

run_on-noted : {S P : Type 0} (machine : Machine S P) (state : S) (schedule : P) (input : List ℕ) (step : Step S P) (rest : RunResult S P) (stop : Option Stop)
    → machine.begins state schedule ≡ schedule → machine.begins step.state step.schedule ≡ step.schedule → Noted machine rest
    → Noted machine (run_on machine state schedule input step rest stop)
run_on-noted machine state schedule input step rest (Some stop) now next later = now
run_on-noted machine state schedule input step rest None now next later = rest-noted machine step rest next later

run_from-noted : {S P : Type 0} (machine : Machine S P) → StartsOnce machine → (n : ℕ) (state : S) (schedule : P) (input : List ℕ)
    → machine.begins state schedule ≡ schedule → Noted machine (run_from machine n state schedule input)
unfolding run_from
run_from-noted machine once zero state schedule input now = now
run_from-noted machine once (suc n) state schedule input now =
    let step : Step _ _ = machine.turn state schedule input in
    run_on-noted machine state schedule input step (run_from machine n step.state step.schedule step.left) (stop_at machine state schedule)
    now (once.turn state schedule input) (run_from-noted machine once n step.state step.schedule step.left (once.turn state schedule input))

pub splitting : {S P : Type 0} (machine : Machine S P) → StartsOnce machine → (n m : ℕ) (state : S) (schedule : P) (input : List ℕ)
    → (run machine n state schedule input).stop ≡ Going
    → run machine (n + m) state schedule input
    ≡ followed_by (run machine n state schedule input)
    (run machine m (run machine n state schedule input).state (run machine n state schedule input).schedule (run machine n state schedule input).left)
unfolding run
splitting machine once n m state schedule input going =
    let begun = machine.begins state schedule in
    rw (run_from-noted machine once n state begun input (once.start state schedule)) (splitting_from machine n m state begun input going)
