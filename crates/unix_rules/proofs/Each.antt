-- What each process has, it has after a turn, where the process of the turn has it and a child, a signal and an adoption
-- leave it.
use Rattle.std.proofs.Common.{◌≡◌, ℕ, Option, Some, None, refl, sym, subst, inl, inr}
use Rattle.std.proofs.lemmas.Bool.Decides.{eqb_tells}
use Rattle.std.specs.Prelude.{option_map}
use Rattle.unix_model.specs.Process.{Process, Exiting, in_phase}
use Rattle.unix_model.specs.ProcessCalls.{child}
use Rattle.unix_model.specs.State.{Unix, adopted}
use Rattle.unix_model.specs.Tables.{at, with_at}
use Rattle.unix_model.proofs.TableLaws.{at-with_at}
use Rattle.unix_laws.proofs.OtherSlots.{Other, SendsSignal, stays, gone, born, killed, adopts, other-now}
use Rattle.unix_laws.proofs.TurnChanges.{TurnChanges}
use Rattle.unix_rules.specs.ProcessRules.{Each}

-- a property of what a slot holds
abbrev pub If : (Process → Type 0) → Option Process → Type 0
If P None = Unit {0}
If P (Some process) = P process

pub if-of : (P : Process → Type 0) (found : Option Process) → ((process : Process) → found ≡ Some process → P process) → If P found
if-of P None holds = tt
if-of P (Some process) holds = holds process refl

pub if-at : (P : Process → Type 0) (processes : ℕ → Option Process) (slot : ℕ) → Each P processes → If P (at processes slot)
if-at P processes slot each = if-of P (at processes slot) (λ process there. each slot process there)

pub put-own : (P : Process → Type 0) (processes : ℕ → Option Process) (slot : ℕ) (next : Process) → P next → If P (at (with_at processes slot (Some next)) slot)
put-own P processes slot next holds = subst (If P) (sym (at-with_at processes slot (Some next))) holds

-- what others do to a process
pub record Passes (P : Process → Type 0) (unix : Unix) (mover : ℕ) : Type 0 where
  pub to_child : (process : Process) → P process → P (child unix.next_pid process)
  pub by_signal : (process : Process) (signal : ℕ) → SendsSignal unix mover signal → P process → P (in_phase process (Exiting signal))
  pub by_adoption : (ended : ℕ) (process : Process) → P process → P (adopted ended process)

pub if-adopted : (P : Process → Type 0) (ended : ℕ) → ((process : Process) → P process → P (adopted ended process)) → (found : Option Process) → If P found → If P (option_map (adopted ended) found)
if-adopted P ended passes None holds = tt
if-adopted P ended passes (Some process) holds = passes process holds

module _ (P : Process → Type 0) (unix : Unix) (mover : ℕ) (passes : Passes P unix mover) (each : Each P unix.processes) where
  other-if : (slot : ℕ) (found : Option Process) → Other unix mover slot found → If P found
  other-if slot found stays = if-at P unix.processes slot each
  other-if slot found (gone mine ended there is at_slot) = tt
  other-if slot found (born mine there free below) = passes.to_child mine (each mover mine there)
  other-if slot found (killed process signal was goes by) = passes.by_signal process signal by (each slot process was)
  other-if slot found (adopts mine there) = if-adopted P mine.pid (passes.by_adoption mine.pid) (at unix.processes slot) (if-at P unix.processes slot each)

  slot-if : (slot : ℕ) (state : Unix) → TurnChanges unix mover state → If P (at state.processes mover) → If P (at state.processes slot)
  slot-if slot state changes own = elim (eqb_tells slot mover) as (λ _. If P (at state.processes slot)) [
    | inl same ↦ subst (λ (s : ℕ). If P (at state.processes s)) (sym same.1) own
    | inr apart ↦ other-if slot (at state.processes slot) (other-now unix mover slot apart.1 state changes)
  ]

  pub each-after : (state : Unix) → TurnChanges unix mover state → If P (at state.processes mover) → Each P state.processes
  each-after state changes own slot process there = subst (If P) there (slot-if slot state changes own)
