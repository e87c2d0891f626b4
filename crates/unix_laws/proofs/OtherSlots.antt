-- What a turn can do to a slot that isn't its own.
use Rattle.std.proofs.Common.{◌<◌, arith, ◌≡◌, ◌≢◌, ℕ, false, Option, Some, None, refl, sym, subst, ap, ◌∙◌, inl, inr}
use Rattle.std.proofs.lemmas.Bool.{cases_Bool}
use Rattle.std.proofs.lemmas.Bool.Decides.{eqb_tells}
use Rattle.std.specs.Prelude.{is_none, option_map}
use Rattle.unix_model.specs.Effect.{argument_of}
use Rattle.unix_model.specs.Enter.{has_flag}
use Rattle.unix_model.specs.Limits.{slot_count}
use Rattle.unix_model.specs.NameCalls.{ToOpen, opening, with_opened, with_truncated}
use Rattle.unix_model.specs.Paths.{Spot}
use Rattle.unix_model.specs.Process.{Process, SentCall, Phase, Sent, Exiting, answered, descriptor, in_phase, with_descriptor, zombie, without_descriptor}
use Rattle.unix_model.specs.ProcessCalls.{EndedChild, child, forked, is_ending, with_killed}
use Rattle.unix_model.specs.State.{Unix, adopted, free_slot, with_descriptor_closed, with_phase, with_process, without_process}
use Rattle.unix_model.specs.Tables.{at, with_at}
use Rattle.unix_model.specs.Turn.{with_orphans_adopted}
use Rattle.unix_model.proofs.TableLaws.{at-with_at, at-with_at-other}
use Rattle.unix_laws.proofs.Basics.{none-is}
use Rattle.unix_laws.proofs.Changes.{Changes, settles, exits, forks, loads, reaps, kills, dups, closes, dups_to, pipes, reads_file, seeks, lists, takes_pipe, puts_pipe, writes_file, resizes, opens, makes_directory, removes_directory, unlinks, links, renames, Opening, finds, creates}
use Rattle.unix_laws.proofs.Counting.{Passes, least-passes}
use Rattle.unix_laws.proofs.Lasts.{IsEndedChild, least-ended-is, released-processes}
use Rattle.unix_laws.proofs.TurnChanges.{TurnChanges, idles, runs, enters, effects, returns, drops, ends}

-- a signal that the caller has sent
pub record SendsSignal (unix : Unix) (mover signal : ℕ) : Type 0 where
  pub mine : Process
  pub sent : SentCall
  pub there : at unix.processes mover ≡ Some mine
  pub phase : mine.phase ≡ Sent sent
  pub signal_is : signal ≡ argument_of sent 1

-- what another slot holds after a turn: what it held; nothing, where it held a child of the caller that had ended; a
-- new child of the caller; its process, which a signal ends; or its process, which process 1 adopts
pub data Other (unix : Unix) (mover : ℕ) (slot : ℕ) : Option Process → Type 0 where
  stays : Other unix mover slot (at unix.processes slot)
  gone : (mine : Process) (ended : EndedChild) → at unix.processes mover ≡ Some mine → IsEndedChild unix.processes mine.pid ended → ended.slot ≡ slot → Other unix mover slot None
  born : (mine : Process) → at unix.processes mover ≡ Some mine → at unix.processes slot ≡ None → slot < slot_count → Other unix mover slot (Some (child unix.next_pid mine))
  killed : (process : Process) (signal : ℕ) → at unix.processes slot ≡ Some process → is_ending process.phase ≡ false → SendsSignal unix mover signal → Other unix mover slot (Some (in_phase process (Exiting signal)))
  adopts : (mine : Process) → at unix.processes mover ≡ Some mine → Other unix mover slot (option_map (adopted mine.pid) (at unix.processes slot))

module _ (unix : Unix) (mover slot : ℕ) (apart : slot ≢ mover) where
  abbrev Now : Unix → Type 0
  Now state = Other unix mover slot (at state.processes slot)

  past : (state : Unix) (next : Process) → Now state → Now (with_process state mover next)
  past state next now = subst (Other unix mover slot) (sym (at-with_at-other state.processes mover slot (Some next) apart)) now

  closed-now : (mine : Process) (number : ℕ) (found : Option ℕ) → Now (with_descriptor_closed unix mover mine number found)
  closed-now mine number None = stays
  closed-now mine number (Some description) =
      subst (λ (processes : ℕ → Option Process). Other unix mover slot (at processes slot)) (sym (released-processes (with_process unix mover (without_descriptor mine number)) description)) (past unix (without_descriptor mine number) stays)

  forked-now : (place : ℕ) (mine : Process) → at unix.processes mover ≡ Some mine → free_slot unix.processes ≡ Some place → Now (forked unix place mine)
  unfolding free_slot
  forked-now place mine there free =
      let least : Passes (λ s. is_none (at unix.processes s)) slot_count place = least-passes (λ s. is_none (at unix.processes s)) slot_count place free in
      let empty : at unix.processes place ≡ None = none-is (at unix.processes place) least.holds in
      elim (eqb_tells slot place) as (λ _. Now (forked unix place mine)) [
        | inl same ↦
            let here : at (forked unix place mine).processes slot ≡ Some (child unix.next_pid mine) =
            ap (at (with_at unix.processes place (Some (child unix.next_pid mine)))) same.1 ∙ at-with_at unix.processes place (Some (child unix.next_pid mine)) in
            subst (Other unix mover slot) (sym here) (born mine there (ap (at unix.processes) same.1 ∙ empty) (omega (arith, least.below, same.1)))
        | inr differ ↦ subst (Other unix mover slot) (sym (at-with_at-other unix.processes place slot (Some (child unix.next_pid mine)) differ.1)) stays
      ]

  reaped-now : (mine : Process) (wanted : ℕ) (ended : EndedChild) → at unix.processes mover ≡ Some mine → IsEndedChild unix.processes mine.pid ended → Now (without_process unix ended.slot)
  reaped-now mine wanted ended there is = elim (eqb_tells slot ended.slot) as (λ _. Now (without_process unix ended.slot)) [
    | inl same ↦ subst (Other unix mover slot) (sym (ap (at (with_at unix.processes ended.slot None)) same.1 ∙ at-with_at unix.processes ended.slot None)) (gone mine ended there is (sym same.1))
    | inr differ ↦ subst (Other unix mover slot) (sym (at-with_at-other unix.processes ended.slot slot None differ.1)) stays
  ]

  killed-now : (target signal : ℕ) (found : Option Process) → SendsSignal unix mover signal → at unix.processes target ≡ found → Now (with_killed unix target signal found)
  killed-now target signal None by is = stays
  killed-now target signal (Some held) by is = elim (cases_Bool (is_ending held.phase)) as (λ _. Now (with_killed unix target signal (Some held))) [
    | inl ending ↦ rw ending stays
    | inr goes ↦ rw goes (elim (eqb_tells slot target) as (λ _. Now (with_phase unix target held (Exiting signal))) [
      | inl same ↦
          subst (Other unix mover slot) (sym (ap (at (with_at unix.processes target (Some (in_phase held (Exiting signal))))) same.1 ∙ at-with_at unix.processes target (Some (in_phase held (Exiting signal)))))
          (killed held signal (ap (at unix.processes) same.1 ∙ is) goes by)
      | inr differ ↦ subst (Other unix mover slot) (sym (at-with_at-other unix.processes target slot (Some (in_phase held (Exiting signal))) differ.1)) stays
    ])
  ]

  truncated-now : (flags number : ℕ) → Now (with_truncated unix flags number)
  truncated-now flags number = elim (cases_Bool (has_flag flags 64)) as (λ _. Now (with_truncated unix flags number)) [
    | inl cuts ↦ rw cuts stays
    | inr keeps ↦ rw keeps stays
  ]

  opening-now : (flags number : ℕ) (next : Process) (phase : Phase) (spot : Spot) (new : ToOpen) → Opening unix flags spot new → Now (with_phase (with_opened new.state number (opening flags new.inode)) mover next phase)
  opening-now flags number next phase spot new (finds found is reads) = past (with_truncated unix flags found) (in_phase next phase) (truncated-now flags found)
  opening-now flags number next phase spot new (creates given is making_so) = past unix (in_phase next phase) stays

  orphans-now : (mine : Process) (state : Unix) → at unix.processes mover ≡ Some mine → at state.processes slot ≡ at unix.processes slot → Now (with_orphans_adopted mine.pid state)
  unfolding at
  orphans-now mine state there e = subst (Other unix mover slot) (ap (option_map (adopted mine.pid)) (sym e)) (adopts mine there)

  change-now : (mine : Process) (sent : SentCall) → at unix.processes mover ≡ Some mine → mine.phase ≡ Sent sent → (state : Unix) → Changes unix mover mine sent state → Now state
  change-now mine sent there phase_is state (settles phase answer) = past unix _ stays
  change-now mine sent there phase_is state (exits word) = past unix _ stays
  change-now mine sent there phase_is state (forks place free pid room) = past (forked unix place mine) _ (forked-now place mine there free)
  change-now mine sent there phase_is state (loads inode file plan held planned room) = past unix _ stays
  change-now mine sent there phase_is state (reaps wanted ended phase least answer) = past (without_process unix ended.slot) _ (reaped-now mine wanted ended there (least-ended-is unix.processes mine.pid wanted slot_count ended least))
  change-now mine sent there phase_is state (kills pid target signal given_so is differ) = past (with_killed unix target signal (at unix.processes target)) _ (killed-now target signal (at unix.processes target) (record { mine = mine; sent = sent; there = there; phase = phase_is; signal_is = given_so }) refl)
  change-now mine sent there phase_is state (dups number lowest file held low) = past unix _ stays
  change-now mine sent there phase_is state (closes number) = past (with_descriptor_closed unix mover mine number (descriptor mine number)) _ (closed-now mine number (descriptor mine number))
  change-now mine sent there phase_is state (dups_to number to file held differ) = past (with_descriptor_closed unix mover mine to (descriptor mine to)) _ (closed-now mine to (descriptor mine to))
  change-now mine sent there phase_is state (pipes first second reader writer number phase low next free free2 free_i room answer) = past unix _ stays
  change-now mine sent there phase_is state (reads_file number count file bytes phase held is answer) = past unix _ stays
  change-now mine sent there phase_is state (seeks number place file held stream aligned below) = past unix _ stays
  change-now mine sent there phase_is state (lists number count file phase held directory answer) = past unix _ stays
  change-now mine sent there phase_is state (takes_pipe number count file bytes phase held is answer) = past unix _ stays
  change-now mine sent there phase_is state (puts_pipe number file bytes written given_so held is few) = past unix _ stays
  change-now mine sent there phase_is state (writes_file number place file bytes written given_so held is below room) = past unix _ stays
  change-now mine sent there phase_is state (resizes number size file bytes held is few room) = past unix _ stays
  change-now mine sent there phase_is state (opens path flags number lowest spot new low free walk opening_so) = opening-now flags number (with_descriptor mine lowest number) (answered lowest) spot new opening_so
  change-now mine sent there phase_is state (makes_directory path spot number walk free making_so) = past unix _ stays
  change-now mine sent there phase_is state (removes_directory path spot gone_inode walk root dots is directory names) = past unix _ stays
  change-now mine sent there phase_is state (unlinks path spot gone_inode walk is file) = past unix _ stays
  change-now mine sent there phase_is state (links old new from to linked walk is file walk2 free place room) = past unix _ stays
  change-now mine sent there phase_is state (renames old new from to named files walk root dots is walk2 root2 dots2 differ within renaming_so) = past unix _ stays

  pub other-now : (state : Unix) → TurnChanges unix mover state → Now state
  other-now state idles = stays
  other-now state (runs mine is phase) = past unix _ stays
  other-now state (enters mine next is phase entering) = past unix next stays
  other-now state (effects mine sent next is phase changes) = change-now mine sent is phase state changes
  other-now state (returns mine value address bytes is phase) = past unix _ stays
  other-now state (drops mine word lowest is phase low) = closed-now mine lowest (descriptor mine lowest)
  other-now state (ends mine word is phase low) = orphans-now mine (with_process unix mover (zombie mine word)) is (at-with_at-other unix.processes mover slot (Some (zombie mine word)) apart)
