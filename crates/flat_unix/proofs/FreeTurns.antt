-- Turns of slots where nothing is there to do, and of processes that run.
use Rattle.std.proofs.Common.{◌≡◌, ℕ, zero, suc, ◌+◌, ◌*◌, ◌/◌, ◌%◌, ◌-◌, ◌<◌, ◌≤◌, Bool, true, false, Option, Some, None, List, [], refl, sym, ap, subst, ◌∙◌, arith}
use Rattle.std.specs.Prelude.{◌==◌, if◌then◌else◌, option_map, is_some}
use Rattle.std.proofs.lemmas.Bool.Decides.{nat_tests}
use Rattle.std.proofs.Math.Nat.{add-mod_left, add-mod-mod, div-lt_iff_lt-mul, div-mul-le_self, mod-eq_of_lt, mul-div_cancel}
use Rattle.std.proofs.lemmas.Nat.{le-div}
use Rattle.unix_model.specs.declared.calls.Turned.TheVariants.{Worked, Free}
use Rattle.unix_model.specs.Calls.{call_of}
use Rattle.unix_model.specs.Process.{Process, Phase, Run, Asked, Sent, Done, Exiting, Zombie}
use Rattle.unix_model.specs.State.{Unix, phase_word}
use Rattle.unix_model.specs.Tables.{at, with_at}
use Rattle.unix_model.specs.Turn.{ran, turned, turned_at, turned_in, ticked}
use Rattle.unix_model.specs.TurnRecord.{free_turn}
use Rattle.unix_model.proofs.TurnLaws.{ticked_turn}
use Rattle.flat_state.specs.PaceView.{pace_of, phase_pace}
use Rattle.flat_state.specs.declared.pace.Pace.TheVariants as pace
use Rattle.flat_unix.specs.FreeTurns.{after_turns, has_nothing_to_do, ticked_times}
use Rattle.flat_unix.specs.Turns.{quiet_turn}

-- ---- one turn

module _ (unix : Unix) (slot : ℕ) (bytes : List ℕ) where
  turned-held : (held : Option Process) → at unix.processes slot ≡ held → turned call_of unix slot bytes ≡ ticked_turn (turned_at call_of unix slot bytes held)
  unfolding turned
  turned-held held is = ap (λ now. ticked_turn (turned_at call_of unix slot bytes now)) is

  free-phase : (process : Process) (phase : Phase) → phase_pace phase ≡ pace.Free → ticked_turn (turned_in call_of unix slot process bytes phase) ≡ quiet_turn (ticked unix) Free bytes
  free-phase process (Zombie word) free = refl
  free-phase process Run free = cc
  free-phase process Asked free = cc
  free-phase process (Sent sent) free = cc
  free-phase process (Done value address answer) free = cc
  free-phase process (Exiting word) free = cc

  free-held : (held : Option Process) → pace_of held ≡ pace.Free → ticked_turn (turned_at call_of unix slot bytes held) ≡ quiet_turn (ticked unix) Free bytes
  free-held None free = refl
  free-held (Some process) free = free-phase process process.phase free

  -- nothing is there to do
  pub turned-free : pace_of (at unix.processes slot) ≡ pace.Free → turned call_of unix slot bytes ≡ quiet_turn (ticked unix) Free bytes
  turned-free free = turned-held (at unix.processes slot) refl ∙ free-held (at unix.processes slot) free

  -- the same, by the word of a process that has ended
  nothing-phase : (phase : Phase) → is_some (phase_word phase) ≡ true → phase_pace phase ≡ pace.Free
  nothing-phase (Zombie word) nothing = refl
  nothing-phase Run nothing = cc
  nothing-phase Asked nothing = cc
  nothing-phase (Sent sent) nothing = cc
  nothing-phase (Done value address answer) nothing = cc
  nothing-phase (Exiting word) nothing = cc

  nothing-held : (held : Option Process) → has_nothing_to_do held ≡ true → pace_of held ≡ pace.Free
  nothing-held None nothing = refl
  nothing-held (Some process) nothing = nothing-phase process.phase nothing

  pub turned-nothing : has_nothing_to_do (at unix.processes slot) ≡ true → turned call_of unix slot bytes ≡ free_turn (ticked unix) bytes
  turned-nothing nothing = turned-free (nothing-held (at unix.processes slot) nothing)

  ran-phase : (process : Process) (phase : Phase) → phase_pace phase ≡ pace.Running → ticked_turn (turned_in call_of unix slot process bytes phase) ≡ quiet_turn (ticked (record unix { processes = with_at unix.processes slot (Some (ran process)) })) Worked bytes
  ran-phase process Run runs = refl
  ran-phase process Asked runs = cc
  ran-phase process (Sent sent) runs = cc
  ran-phase process (Done value address answer) runs = cc
  ran-phase process (Exiting word) runs = cc
  ran-phase process (Zombie word) runs = cc

  ran-held : (held : Option Process) → pace_of held ≡ pace.Running
      → ticked_turn (turned_at call_of unix slot bytes held) ≡ quiet_turn (ticked (record unix { processes = with_at unix.processes slot (option_map ran held) })) Worked bytes
  ran-held None runs = cc
  ran-held (Some process) runs = ran-phase process process.phase runs

  -- a process that runs
  pub turned-running : pace_of (at unix.processes slot) ≡ pace.Running → (processes : ℕ → Option Process) → processes ≡ with_at unix.processes slot (option_map ran (at unix.processes slot))
      → turned call_of unix slot bytes ≡ quiet_turn (ticked (record unix { processes = processes })) Worked bytes
  turned-running runs processes made =
      turned-held (at unix.processes slot) refl ∙ ran-held (at unix.processes slot) runs
      ∙ ap (λ (after : ℕ → Option Process). quiet_turn (ticked (record unix { processes = after })) Worked bytes) (sym made)

-- ---- many at once

-- the state at another position
abbrev pub at_position : Unix → ℕ → Unix
at_position unix position = record unix { position = position }

next : (p m n : ℕ) (wraps : Bool) → p + 1 == m ≡ wraps → ((if wraps then 0 else p + 1) + n) % m ≡ (p + suc n) % m
next p m n true e =
    let all : p + suc n ≡ m + n = grind (arith, nat_tests) in
    let some : 0 + n ≡ n = omega arith in
    ap (λ k. k % m) some ∙ sym (ap (λ k. k % m) all ∙ add-mod_left m n)
next p m n false e = let all : p + 1 + n ≡ p + suc n = omega arith in ap (λ k. k % m) all

below : (p m : ℕ) (wraps : Bool) → p + 1 == m ≡ wraps → p < m → (if wraps then 0 else p + 1) < m
below p m true e inside = omega (arith, inside)
below p m false e inside = grind (arith, nat_tests)

-- the position goes on by as many, and round
pub ticked-times : (n : ℕ) (unix : Unix) → unix.position < 64 * unix.quantum → ticked_times n unix ≡ at_position unix ((unix.position + n) % (64 * unix.quantum))
unfolding ticked_times
ticked-times zero unix inside = let none : unix.position + 0 ≡ unix.position = omega arith in ap (at_position unix) (sym (ap (λ k. k % (64 * unix.quantum)) none ∙ mod-eq_of_lt inside))
ticked-times (suc n) unix inside =
    ticked-times n (ticked unix) (below unix.position (64 * unix.quantum) (unix.position + 1 == 64 * unix.quantum) refl inside)
    ∙ ap (at_position unix) (next unix.position (64 * unix.quantum) n (unix.position + 1 == 64 * unix.quantum) refl)

-- of as many the remainder after whole rounds does
pub ticked-rounds : (n : ℕ) (unix : Unix) → unix.position < 64 * unix.quantum → ticked_times n unix ≡ at_position unix ((unix.position + n % (64 * unix.quantum)) % (64 * unix.quantum))
ticked-rounds n unix inside = ticked-times n unix inside ∙ ap (at_position unix) (sym (add-mod-mod unix.position n (64 * unix.quantum)))

-- each of the turns changes the position alone
pub after-nothing : (n slot : ℕ) (unix : Unix) → has_nothing_to_do (at unix.processes slot) ≡ true → after_turns slot n unix ≡ ticked_times n unix
unfolding after_turns ticked_times
after-nothing zero slot unix nothing = refl
after-nothing (suc n) slot unix nothing =
    ap (λ turn. after_turns slot n turn.state) (turned-nothing unix slot [] nothing)
    ∙ after-nothing n slot (ticked unix) nothing

-- two numbers below a round, added up
pub sum-inside : (p t m : ℕ) → p + t < m → p + t ≡ (p + t) % m
sum-inside p t m inside = sym (mod-eq_of_lt inside)

pub sum-over : (p t m : ℕ) → p < m → t < m → m ≤ p + t → p + t - m ≡ (p + t) % m
sum-over p t m below less over =
    let rest : p + t - m < m = omega (arith, below, less, over) in
    let whole : p + t ≡ m + (p + t - m) = omega (arith, over) in
    sym (ap (λ k. k % m) whole ∙ add-mod_left m (p + t - m) ∙ mod-eq_of_lt rest)

-- ---- the turns go round

-- the slots of turns in a row, from that of a position on
module _ (position quantum : ℕ) (inside : position < 64 * quantum) where
  some-turns : 0 < quantum
  some-turns = nonzero quantum inside
    where
      nonzero : (quantum : ℕ) → position < 64 * quantum → 0 < quantum
      nonzero zero inside = absurd (omega (arith, inside))
      nonzero (suc quantum) inside = omega arith

  -- the turns before those of a slot are of slots below it
  pub slots-before : (slot k : ℕ) → position + k < slot * quantum → (position / quantum ≤ (position + k) / quantum) × ((position + k) / quantum < slot)
  slots-before slot k before = (
    le-div (position / quantum) (position + k) quantum some-turns (omega (arith, div-mul-le_self position quantum)),
    (div-lt_iff_lt-mul {k = quantum} {x = position + k} {y = slot} some-turns).1 before,
  )

  -- the turns of a later slot come later
  pub slot-behind : (slot : ℕ) → position / quantum < slot → position < slot * quantum
  slot-behind slot behind = (div-lt_iff_lt-mul {k = quantum} {x = position} {y = slot} some-turns).0 behind

  -- and the first of them stands there
  pub slot-begins : (slot : ℕ) → position < slot * quantum → (position + (slot * quantum - position)) / quantum ≡ slot
  slot-begins slot behind =
      let there : position + (slot * quantum - position) ≡ slot * quantum = omega (arith, behind) in
      ap (λ place. place / quantum) there ∙ mul-div_cancel slot some-turns

  pub slot-below : (slot : ℕ) → position < slot * quantum → position + (slot * quantum - position) < 64 * quantum → slot < 64
  slot-below slot behind before =
      subst (λ slot. slot < 64) (slot-begins slot behind) ((div-lt_iff_lt-mul {k = quantum} {x = position + (slot * quantum - position)} {y = 64} some-turns).1 before)

-- what a slot before the first that has something to do has
module _ (nothing : ℕ → Bool) (position quantum : ℕ) where
  pub busy-here : (next slot : ℕ) → slot ≡ position / quantum → next ≡ slot → slot < 64 → (next < 64 → nothing next ≡ false) → nothing (position / quantum) ≡ false
  busy-here next slot is same below ends = subst (λ slot. nothing slot ≡ false) (same ∙ is) (ends (subst (λ slot. slot < 64) (sym same) below))

  pub free-before : position < 64 * quantum → (last next slot : ℕ) → slot ≡ position / quantum → last ≡ next → ((k : ℕ) → slot ≤ k → k < next → nothing k ≡ true)
      → (k : ℕ) → k < last * quantum - position → nothing ((position + k) / quantum) ≡ true
  free-before inside last next slot is same free k few =
      let place = slots-before position quantum inside last k (omega (arith, few)) in
      free ((position + k) / quantum) (subst (λ slot. slot ≤ (position + k) / quantum) (sym is) place.0) (subst (λ next. (position + k) / quantum < next) same place.1)
