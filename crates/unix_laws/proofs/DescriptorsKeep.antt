-- Every turn keeps what the rules of slots say of descriptors.
use Rattle.std.proofs.Common.{◌≡◌, ℕ, ◌≤◌, List, Option, Some, None, length, arith, refl, sym, subst, ap, ◌∙◌, inl, inr}
use Rattle.std.proofs.lemmas.Bool.Decides.{eqb_tells}
use Rattle.std.proofs.lemmas.List.{length-replicate, length-set}
use Rattle.std.specs.Prelude.{option_map, replicate, slice_set}
use Rattle.unix_model.specs.declared.instructions.Outcome.{Outcome}
use Rattle.unix_model.specs.declared.instructions.Outcome.TheVariants as outcome
use Rattle.unix_model.specs.Elf.{LoadPlan}
use Rattle.unix_model.specs.Execution as exec
use Rattle.unix_model.specs.FileCalls.{with_descriptors}
use Rattle.unix_model.specs.Limits.{descriptor_count, slot_count}
use Rattle.unix_model.specs.Process.{Process, SentCall, Phase, Run, Asked, Sent, Done, Exiting, Zombie, answered, descriptor, in_phase, with_descriptor, without_descriptor, zombie}
use Rattle.unix_model.specs.ProcessCalls.{child, with_program}
use Rattle.unix_model.specs.Rules.{IsPhase}
use Rattle.unix_model.specs.State.{Unix, adopted, phase_word, with_descriptor_closed, with_process}
use Rattle.unix_model.specs.Tables.{at, with_at}
use Rattle.unix_model.specs.Turn.{phase_after, ran, returned, with_orphans_adopted}
use Rattle.unix_model.proofs.TableLaws.{at-with_at}
use Rattle.unix_laws.proofs.Basics.{some-differ}
use Rattle.unix_laws.proofs.Changes.{Changes, IsAnswer, settles, exits, forks, loads, reaps, kills, dups, closes, dups_to, pipes, reads_file, seeks, lists, takes_pipe, puts_pipe, writes_file, resizes, opens, makes_directory, removes_directory, unlinks, links, renames}
use Rattle.unix_laws.proofs.Lasts.{released-processes}
use Rattle.unix_laws.proofs.OpenKeep.{adopted-descriptors}
use Rattle.unix_laws.proofs.OpenTurns.{entered-descriptors, program-descriptors, ran-descriptors, returned-descriptors}
use Rattle.unix_laws.proofs.OtherSlots.{Other, stays, gone, born, killed, adopts, other-now}
use Rattle.unix_laws.proofs.SentKeep.{adopted-phase}
use Rattle.unix_laws.proofs.TurnChanges.{Enters, TurnChanges, after-turn, answers, breaks, drops, effects, ends, enters, idles, returns, runs, sends}
use Rattle.unix_laws.specs.RuleLaws.{DescriptorsKept, HaveDescriptors, SlotsHaveDescriptors}

zombie-closed : (process : Process) (phase : Phase) (word : ℕ) → IsPhase process phase → phase_word phase ≡ Some word → process.descriptors ≡ replicate descriptor_count None
zombie-closed process Run word is e = some-differ word e
zombie-closed process Asked word is e = some-differ word e
zombie-closed process (Sent sent) word is e = some-differ word e
zombie-closed process (Done value address bytes) word is e = some-differ word e
zombie-closed process (Exiting given) word is e = some-differ word e
zombie-closed process (Zombie given) word is e = is.3

pub slots_have_descriptors : SlotsHaveDescriptors
slots_have_descriptors processes slots =
    record {
      end = slots.end;
      each = λ slot process there. (slots.each slot process there).descriptors;
      ended = λ slot word process there e. zombie-closed process process.phase word (slots.each slot process there).phase e;
    }

-- a process with its descriptors, of which none is open where it has ended
record Whole (process : Process) : Type 0 where
  size : length process.descriptors ≡ descriptor_count
  ended : (word : ℕ) → phase_word process.phase ≡ Some word → process.descriptors ≡ replicate descriptor_count None

abbrev WholeIf : Option Process → Type 0
WholeIf None = Unit {0}
WholeIf (Some process) = Whole process

-- one that lives
lives : (process : Process) → length process.descriptors ≡ descriptor_count → phase_word process.phase ≡ None → Whole process
lives process size e = record { size = size; ended = λ word f. some-differ word (sym e ∙ f) }

whole-if : (found : Option Process) → ((process : Process) → found ≡ Some process → Whole process) → WholeIf found
whole-if None holds = tt
whole-if (Some process) holds = holds process refl

whole-adopted : (ended : ℕ) (held : Option Process) → WholeIf held → WholeIf (option_map (adopted ended) held)
whole-adopted ended None whole = tt
whole-adopted ended (Some process) whole =
    record {
      size = ap length (adopted-descriptors ended process) ∙ whole.size;
      ended = λ word e. adopted-descriptors ended process ∙ whole.ended word (ap phase_word (sym (adopted-phase ended process)) ∙ e);
    }

pub answer-lives : (phase : Phase) → IsAnswer phase → phase_word phase ≡ None
answer-lives Run answer = refl
answer-lives Asked answer = refl
answer-lives (Sent sent) answer = refl
answer-lives (Done value address bytes) answer = refl
answer-lives (Exiting word) answer = refl
answer-lives (Zombie word) answer = absurd answer

after-lives : (done : Outcome) → phase_word (phase_after done) ≡ None
after-lives outcome.Next = refl
after-lives outcome.Call = refl
after-lives outcome.Break = refl
after-lives (outcome.Fault cause) = refl

pub ran-lives : (process : Process) → phase_word (ran process).phase ≡ None
unfolding ran
ran-lives process = after-lives (exec.executed process.registers process.memory).outcome

pub returned-lives : (process : Process) (value address : ℕ) (bytes : List ℕ) → phase_word (returned process value address bytes).phase ≡ None
unfolding returned
returned-lives process value address bytes = refl

pub program-lives : (process : Process) (file : List ℕ) (plan : LoadPlan) (strings : List (List ℕ)) → phase_word (with_program process file plan strings).phase ≡ None
unfolding with_program
program-lives process file plan strings = refl

pub entered-lives : (unix : Unix) (slot : ℕ) (process after : Process) → Enters unix slot process after → phase_word after.phase ≡ None
entered-lives unix slot process after (answers phase answer) = answer-lives phase answer
entered-lives unix slot process after (sends sent tested) = refl
entered-lives unix slot process after (breaks address above below room) = refl

module _ (unix : Unix) (mover : ℕ) (slots : HaveDescriptors unix.processes) where
  was-whole : (slot : ℕ) → WholeIf (at unix.processes slot)
  was-whole slot = whole-if (at unix.processes slot) (λ process there. record { size = slots.each slot process there; ended = λ word e. slots.ended slot word process there e })

  -- another slot
  other-whole : (slot : ℕ) (found : Option Process) → Other unix mover slot found → WholeIf found
  other-whole slot found stays = was-whole slot
  other-whole slot found (gone mine ended there is at_slot) = tt
  other-whole slot found (born mine there free below) = lives (child unix.next_pid mine) (slots.each mover mine there) refl
  other-whole slot found (killed process signal was goes by) = lives (in_phase process (Exiting signal)) (slots.each slot process was) refl
  other-whole slot found (adopts mine there) = whole-adopted mine.pid (at unix.processes slot) (was-whole slot)

  -- its own
  put : (processes : ℕ → Option Process) (next : Process) → Whole next → WholeIf (at (with_at processes mover (Some next)) mover)
  put processes next whole = subst WholeIf (sym (at-with_at processes mover (Some next))) whole

  put-phase : (processes : ℕ → Option Process) (next : Process) (phase : Phase) → length next.descriptors ≡ descriptor_count → phase_word phase ≡ None → WholeIf (at (with_at processes mover (Some (in_phase next phase))) mover)
  put-phase processes next phase size e = put processes (in_phase next phase) (lives (in_phase next phase) size e)

  module _ (mine : Process) (there : at unix.processes mover ≡ Some mine) where
    size : length mine.descriptors ≡ descriptor_count
    size = slots.each mover mine there

    set : (number : ℕ) (d : Option ℕ) → length (slice_set mine.descriptors number d) ≡ descriptor_count
    set number d = length-set mine.descriptors number d ∙ size

    change-whole : {sent : SentCall} (state : Unix) → Changes unix mover mine sent state → WholeIf (at state.processes mover)
    change-whole state (settles phase answer) = put-phase unix.processes mine phase size (answer-lives phase answer)
    change-whole state (exits word) = put-phase unix.processes mine (Exiting word) size refl
    change-whole state (forks place free pid room) = put-phase _ mine (answered unix.next_pid) size refl
    change-whole state (loads inode file plan held planned room) = put unix.processes (with_program mine file plan _) (lives (with_program mine file plan _) (ap length (program-descriptors mine file plan _) ∙ size) (program-lives mine file plan _))
    change-whole state (reaps wanted ended phase least answer) = put-phase _ mine phase size (answer-lives phase answer)
    change-whole state (kills pid target signal given_so is differ) = put-phase _ mine (answered 0) size refl
    change-whole state (dups number lowest file held low) = put-phase unix.processes (with_descriptor mine lowest file.number) (answered lowest) (set lowest (Some file.number)) refl
    change-whole state (closes number) = put-phase _ (without_descriptor mine number) (answered 0) (set number None) refl
    change-whole state (dups_to number to file held differ) = put-phase _ (with_descriptor mine to file.number) (answered to) (set to (Some file.number)) refl
    change-whole state (pipes first second reader writer number phase low next free free2 free_i room answer) =
        put-phase _ (with_descriptors mine first reader second writer) phase (length-set (slice_set mine.descriptors first (Some reader)) second (Some writer) ∙ set first (Some reader)) (answer-lives phase answer)
    change-whole state (reads_file number count file bytes phase held is answer) = put-phase _ mine phase size (answer-lives phase answer)
    change-whole state (seeks number place file held stream aligned below) = put-phase _ mine (answered place) size refl
    change-whole state (lists number count file phase held directory answer) = put-phase _ mine phase size (answer-lives phase answer)
    change-whole state (takes_pipe number count file bytes phase held is answer) = put-phase _ mine phase size (answer-lives phase answer)
    change-whole state (puts_pipe number file bytes written given_so held is few) = put-phase _ mine (answered _) size refl
    change-whole state (writes_file number place file bytes written given_so held is below room) = put-phase _ mine (answered _) size refl
    change-whole state (resizes number bytes_now file bytes held is few room) = put-phase _ mine (answered 0) size refl
    change-whole state (opens path flags number lowest spot new low free walk opening_so) = put-phase _ (with_descriptor mine lowest number) (answered lowest) (set lowest (Some number)) refl
    change-whole state (makes_directory path spot number walk free making_so) = put-phase _ mine (answered 0) size refl
    change-whole state (removes_directory path spot gone_inode walk root dots is directory names) = put-phase _ mine (answered 0) size refl
    change-whole state (unlinks path spot gone_inode walk is file) = put-phase _ mine (answered 0) size refl
    change-whole state (links old new from to linked walk is file walk2 free place room) = put-phase _ mine (answered 0) size refl
    change-whole state (renames old new from to named files walk root dots is walk2 root2 dots2 differ within renaming_so) = put-phase _ mine (answered 0) size refl

    closed-whole : (word number : ℕ) (found : Option ℕ) → mine.phase ≡ Exiting word → WholeIf (at (with_descriptor_closed unix mover mine number found).processes mover)
    closed-whole word number None is = was-whole mover
    closed-whole word number (Some description) is =
        subst (λ (processes : ℕ → Option Process). WholeIf (at processes mover)) (sym (released-processes (with_process unix mover (without_descriptor mine number)) description))
        (put unix.processes (without_descriptor mine number) (lives (without_descriptor mine number) (set number None) (ap phase_word is)))

  ended-whole : (mine : Process) (word : ℕ) → WholeIf (at (with_orphans_adopted mine.pid (with_process unix mover (zombie mine word))).processes mover)
  unfolding at
  ended-whole mine word =
      whole-adopted mine.pid (at (with_at unix.processes mover (Some (zombie mine word))) mover)
      (put unix.processes (zombie mine word) (record { size = length-replicate {A = Option ℕ} descriptor_count None; ended = λ given e. refl }))

  own-whole : (state : Unix) → TurnChanges unix mover state → WholeIf (at state.processes mover)
  own-whole state idles = was-whole mover
  own-whole state (runs mine is phase) = put unix.processes (ran mine) (lives (ran mine) (ap length (ran-descriptors mine) ∙ slots.each mover mine is) (ran-lives mine))
  own-whole state (enters mine next is phase entering) = put unix.processes next (lives next (ap length (entered-descriptors unix mover mine next entering) ∙ slots.each mover mine is) (entered-lives unix mover mine next entering))
  own-whole state (effects mine sent next is phase changes) = change-whole mine is state changes
  own-whole state (returns mine value address bytes is phase) =
      put unix.processes (returned mine value address bytes) (lives (returned mine value address bytes) (ap length (returned-descriptors mine value address bytes) ∙ slots.each mover mine is) (returned-lives mine value address bytes))
  own-whole state (drops mine word lowest is phase low) = closed-whole mine is word lowest (descriptor mine lowest) phase
  own-whole state (ends mine word is phase low) = ended-whole mine word

-- no slot past the last
other-end : (unix : Unix) (mover slot : ℕ) (found : Option Process) → HaveDescriptors unix.processes → slot_count ≤ slot → Other unix mover slot found → found ≡ None
other-end unix mover slot found slots past stays = slots.end slot past
other-end unix mover slot found slots past (gone mine ended there is at_slot) = refl
other-end unix mover slot found slots past (born mine there free below) = absurd (omega (arith, past, below))
other-end unix mover slot found slots past (killed process signal was goes by) = some-differ process (sym (slots.end slot past) ∙ was)
other-end unix mover slot found slots past (adopts mine there) = ap (option_map (adopted mine.pid)) (slots.end slot past)

own-end : (unix : Unix) (mover : ℕ) (state : Unix) → HaveDescriptors unix.processes → slot_count ≤ mover → TurnChanges unix mover state → at state.processes mover ≡ None
own-end unix mover state slots past idles = slots.end mover past
own-end unix mover state slots past (runs mine is phase) = some-differ mine (sym (slots.end mover past) ∙ is)
own-end unix mover state slots past (enters mine next is phase entering) = some-differ mine (sym (slots.end mover past) ∙ is)
own-end unix mover state slots past (effects mine sent next is phase changes) = some-differ mine (sym (slots.end mover past) ∙ is)
own-end unix mover state slots past (returns mine value address bytes is phase) = some-differ mine (sym (slots.end mover past) ∙ is)
own-end unix mover state slots past (drops mine word lowest is phase low) = some-differ mine (sym (slots.end mover past) ∙ is)
own-end unix mover state slots past (ends mine word is phase low) = some-differ mine (sym (slots.end mover past) ∙ is)

slot-end : (unix : Unix) (mover slot : ℕ) (state : Unix) → HaveDescriptors unix.processes → TurnChanges unix mover state → slot_count ≤ slot → at state.processes slot ≡ None
slot-end unix mover slot state slots changes past = elim (eqb_tells slot mover) as (λ _. at state.processes slot ≡ None) [
  | inl same ↦ ap (at state.processes) same.1 ∙ own-end unix mover state slots (omega (arith, past, same.1)) changes
  | inr apart ↦ other-end unix mover slot (at state.processes slot) slots past (other-now unix mover slot apart.1 state changes)
]

slot-whole : (unix : Unix) (mover slot : ℕ) (state : Unix) → HaveDescriptors unix.processes → TurnChanges unix mover state → WholeIf (at state.processes slot)
slot-whole unix mover slot state slots changes = elim (eqb_tells slot mover) as (λ _. WholeIf (at state.processes slot)) [
  | inl same ↦ subst (λ (s : ℕ). WholeIf (at state.processes s)) (sym same.1) (own-whole unix mover slots state changes)
  | inr apart ↦ other-whole unix mover slots slot (at state.processes slot) (other-now unix mover slot apart.1 state changes)
]

have-them : (unix : Unix) (mover : ℕ) (state : Unix) → HaveDescriptors unix.processes → TurnChanges unix mover state → HaveDescriptors state.processes
have-them unix mover state slots changes =
    record {
      end = λ slot past. slot-end unix mover slot state slots changes past;
      each = λ slot process there. (subst WholeIf there (slot-whole unix mover slot state slots changes)).size;
      ended = λ slot word process there e. (subst WholeIf there (slot-whole unix mover slot state slots changes)).ended word e;
    }

pub descriptors_kept : DescriptorsKept
descriptors_kept calls unix slot input slots = after-turn (λ state. HaveDescriptors state.processes) calls unix slot input (λ state changes. have-them unix slot state slots changes)
