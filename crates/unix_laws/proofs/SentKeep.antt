-- Calls on their way stay what the keeper gives.
use Rattle.std.proofs.Common.{◌≡◌, ◌≢◌, ℕ, List, Option, Some, None, Ok, Err, refl, sym, subst, ap, ◌∙◌, inl, inr}
use Rattle.std.proofs.lemmas.Bool.{cases_Bool}
use Rattle.std.proofs.lemmas.Bool.Decides.{eqb_tells}
use Rattle.std.specs.Prelude.{◌==◌, option_map}
use Rattle.unix_model.specs.declared.instructions.Outcome.{Outcome}
use Rattle.unix_model.specs.declared.instructions.Outcome.TheVariants as outcome
use Rattle.unix_model.specs.Calls.{Calls}
use Rattle.unix_model.specs.Elf.{LoadPlan}
use Rattle.unix_model.specs.Enter.{Entered, entered, entered_line, or_refused}
use Rattle.unix_model.specs.Execution as exec
use Rattle.unix_model.specs.Files.{Files}
use Rattle.unix_model.specs.Process.{Process, SentCall, Phase, Run, Asked, Sent, Done, Exiting, Zombie, answered, descriptor, in_phase, with_descriptor, without_descriptor, zombie}
use Rattle.unix_model.specs.ProcessCalls.{child, with_program}
use Rattle.unix_model.specs.Rules.{AreSent}
use Rattle.unix_model.specs.State.{Unix, adopted, with_descriptor_closed, with_phase, with_process}
use Rattle.unix_model.specs.Tables.{at, with_at}
use Rattle.unix_model.specs.FileCalls.{with_descriptors}
use Rattle.unix_model.specs.TurnRecord.{Turn}
use Rattle.unix_model.specs.Turn.{phase_after, ran, returned, ticked, turned, with_orphans_adopted}
use Rattle.unix_model.proofs.TableLaws.{at-with_at}
use Rattle.unix_laws.proofs.Basics.{some-differ, some-same}
use Rattle.unix_laws.proofs.Changes.{Changes, IsAnswer, settles, exits, forks, loads, reaps, kills, dups, closes, dups_to, pipes, reads_file, seeks, lists, takes_pipe, puts_pipe, writes_file, resizes, opens, makes_directory, removes_directory, unlinks, links, renames}
use Rattle.unix_laws.proofs.EnteredAgain.{entered-again, entered_lasts}
use Rattle.unix_laws.proofs.EveryTurn.{turned-in}
use Rattle.unix_laws.proofs.Lasts.{released-processes}
use Rattle.unix_laws.proofs.OtherSlots.{Other, stays, gone, born, killed, adopts, other-now}
use Rattle.unix_laws.proofs.Tested.{NoSent}
use Rattle.unix_laws.proofs.TurnChanges.{Entering, Enters, TurnChanges, after-turn, answers, breaks, drops, effects, ends, enters, idles, line-enters, returns, runs, sends}
use Rattle.unix_laws.specs.RuleLaws.{HaveDescriptors, SentKept}

-- ---- another slot's process has sent its call before

record Came (unix : Unix) (slot : ℕ) (sent : SentCall) : Type 0 where
  process : Process
  there : at unix.processes slot ≡ Some process
  has_sent : process.phase ≡ Sent sent

no-sent : {P : Type 0} (phase : Phase) (sent : SentCall) → NoSent phase → phase ≡ Sent sent → P
no-sent phase sent none is = absurd (subst NoSent is none)

pub adopted-phase : (ended : ℕ) (process : Process) → (adopted ended process).phase ≡ process.phase
adopted-phase ended process = elim (cases_Bool (process.parent == ended)) as (λ _. (adopted ended process).phase ≡ process.phase) [
  | inl orphan ↦ rw orphan refl
  | inr other ↦ rw other refl
]

adopted-came : (unix : Unix) (slot ended : ℕ) (held : Option Process) (p : Process) (sent : SentCall) → at unix.processes slot ≡ held → option_map (adopted ended) held ≡ Some p → p.phase ≡ Sent sent → Came unix slot sent
adopted-came unix slot ended None p sent is e phase = some-differ p e
adopted-came unix slot ended (Some process) p sent is e phase =
    record { process = process; there = is; has_sent = sym (adopted-phase ended process) ∙ ap (λ (x : Process). x.phase) (some-same (adopted ended process) p e) ∙ phase }

came : (unix : Unix) (mover slot : ℕ) (found : Option Process) (p : Process) (sent : SentCall) → Other unix mover slot found → found ≡ Some p → p.phase ≡ Sent sent → Came unix slot sent
came unix mover slot found p sent stays e phase = record { process = p; there = e; has_sent = phase }
came unix mover slot found p sent (gone mine ended there is at_slot) e phase = some-differ p e
came unix mover slot found p sent (born mine there free below) e phase =
    no-sent (answered 0) sent tt (ap (λ (x : Process). x.phase) (some-same (child unix.next_pid mine) p e) ∙ phase)
came unix mover slot found p sent (killed process signal there goes by) e phase =
    no-sent (Exiting signal) sent tt (ap (λ (x : Process). x.phase) (some-same (in_phase process (Exiting signal)) p e) ∙ phase)
came unix mover slot found p sent (adopts mine there) e phase = adopted-came unix slot mine.pid (at unix.processes slot) p sent refl e phase

-- ---- the turn's own slot

-- its process has no call on its way; or nothing has changed; or it had asked
data Own (unix : Unix) (mover : ℕ) (state : Unix) (p : Process) : Type 0 where
  quiet : NoSent p.phase → Own unix mover state p
  still : at unix.processes mover ≡ Some p → state.files ≡ unix.files → Own unix mover state p
  asked : (mine : Process) → at unix.processes mover ≡ Some mine → mine.phase ≡ Asked → Own unix mover state p

answer-quiet : (phase : Phase) → IsAnswer phase → NoSent phase
answer-quiet Run answer = tt
answer-quiet Asked answer = tt
answer-quiet (Sent sent) answer = absurd answer
answer-quiet (Done value address bytes) answer = tt
answer-quiet (Exiting word) answer = tt
answer-quiet (Zombie word) answer = tt

after-quiet : (done : Outcome) → NoSent (phase_after done)
after-quiet outcome.Next = tt
after-quiet outcome.Call = tt
after-quiet outcome.Break = tt
after-quiet (outcome.Fault cause) = tt

ran-quiet : (process : Process) → NoSent (ran process).phase
unfolding ran
ran-quiet process = after-quiet (exec.executed process.registers process.memory).outcome

returned-quiet : (process : Process) (value address : ℕ) (bytes : List ℕ) → NoSent (returned process value address bytes).phase
unfolding returned
returned-quiet process value address bytes = tt

program-quiet : (process : Process) (file : List ℕ) (plan : LoadPlan) (strings : List (List ℕ)) → NoSent (with_program process file plan strings).phase
unfolding with_program
program-quiet process file plan strings = tt

module _ (unix : Unix) (mover : ℕ) (p : Process) where
  abbrev Mine : Unix → Type 0
  Mine state = at state.processes mover ≡ Some p → Own unix mover (ticked state) p

  put : (state : Unix) (next : Process) → NoSent next.phase → Mine (with_process state mover next)
  put state next none e = quiet (subst (λ (x : Process). NoSent x.phase) (some-same next p (sym (at-with_at state.processes mover (Some next)) ∙ e)) none)

  put-phase : (state : Unix) (next : Process) (phase : Phase) → NoSent phase → Mine (with_phase state mover next phase)
  put-phase state next phase none = put state (in_phase next phase) none

  change-mine : {sent : SentCall} (mine : Process) (state : Unix) → Changes unix mover mine sent state → Mine state
  change-mine mine state (settles phase answer) = put-phase unix mine phase (answer-quiet phase answer)
  change-mine mine state (exits word) = put-phase unix mine (Exiting word) tt
  change-mine mine state (forks place free pid room) = put-phase _ mine (answered unix.next_pid) tt
  change-mine mine state (loads inode file plan held planned room) = put unix (with_program mine file plan _) (program-quiet mine file plan _)
  change-mine mine state (reaps wanted ended phase least answer) = put-phase _ mine phase (answer-quiet phase answer)
  change-mine mine state (kills pid target signal given_so is differ) = put-phase _ mine (answered 0) tt
  change-mine mine state (dups number lowest file held low) = put-phase unix (with_descriptor mine lowest file.number) (answered lowest) tt
  change-mine mine state (closes number) = put-phase _ (without_descriptor mine number) (answered 0) tt
  change-mine mine state (dups_to number to file held differ) = put-phase _ (with_descriptor mine to file.number) (answered to) tt
  change-mine mine state (pipes first second reader writer number phase low next free free2 free_i room answer) = put-phase _ (with_descriptors mine first reader second writer) phase (answer-quiet phase answer)
  change-mine mine state (reads_file number count file bytes phase held is answer) = put-phase _ mine phase (answer-quiet phase answer)
  change-mine mine state (seeks number place file held stream aligned below) = put-phase _ mine (answered place) tt
  change-mine mine state (lists number count file phase held directory answer) = put-phase _ mine phase (answer-quiet phase answer)
  change-mine mine state (takes_pipe number count file bytes phase held is answer) = put-phase _ mine phase (answer-quiet phase answer)
  change-mine mine state (puts_pipe number file bytes written given_so held is few) = put-phase _ mine (answered _) tt
  change-mine mine state (writes_file number place file bytes written given_so held is below room) = put-phase _ mine (answered _) tt
  change-mine mine state (resizes number size file bytes held is few room) = put-phase _ mine (answered 0) tt
  change-mine mine state (opens path flags number lowest spot new low free walk opening_so) = put-phase _ (with_descriptor mine lowest number) (answered lowest) tt
  change-mine mine state (makes_directory path spot number walk free making_so) = put-phase _ mine (answered 0) tt
  change-mine mine state (removes_directory path spot gone_inode walk root dots is directory names) = put-phase _ mine (answered 0) tt
  change-mine mine state (unlinks path spot gone_inode walk is file) = put-phase _ mine (answered 0) tt
  change-mine mine state (links old new from to linked walk is file walk2 free place room) = put-phase _ mine (answered 0) tt
  change-mine mine state (renames old new from to named files walk root dots is walk2 root2 dots2 differ within renaming_so) = put-phase _ mine (answered 0) tt

  closed-mine : (mine : Process) (word number : ℕ) (found : Option ℕ) → at unix.processes mover ≡ Some mine → mine.phase ≡ Exiting word → Mine (with_descriptor_closed unix mover mine number found)
  closed-mine mine word number None there is e = quiet (subst (λ (x : Process). NoSent x.phase) (some-same mine p (sym there ∙ e)) (subst NoSent (sym is) tt))
  closed-mine mine word number (Some description) there is e =
      let put_there : at (with_at unix.processes mover (Some (without_descriptor mine number))) mover ≡ Some p =
      ap (λ (processes : ℕ → Option Process). at processes mover) (sym (released-processes (with_process unix mover (without_descriptor mine number)) description)) ∙ e in
      quiet (subst (λ (x : Process). NoSent x.phase) (some-same (without_descriptor mine number) p (sym (at-with_at unix.processes mover (Some (without_descriptor mine number))) ∙ put_there)) (subst NoSent (sym is) tt))

  adopted-at : (ended word : ℕ) (mine : Process) → at (with_orphans_adopted ended (with_process unix mover (zombie mine word))).processes mover ≡ Some p → Some (adopted ended (zombie mine word)) ≡ Some p
  unfolding at
  adopted-at ended word mine e = sym (ap (option_map (adopted ended)) (at-with_at unix.processes mover (Some (zombie mine word)))) ∙ e

  ended-mine : (ended word : ℕ) (mine : Process) → Mine (with_orphans_adopted ended (with_process unix mover (zombie mine word)))
  ended-mine ended word mine e = quiet (subst NoSent (sym (adopted-phase ended (zombie mine word)) ∙ ap (λ (x : Process). x.phase) (some-same (adopted ended (zombie mine word)) p (adopted-at ended word mine e))) tt)

  turn-mine : (state : Unix) → TurnChanges unix mover state → Mine state
  turn-mine state idles = λ e. still e refl
  turn-mine state (runs mine is phase) = put unix (ran mine) (ran-quiet mine)
  turn-mine state (enters mine next is phase entering) = λ e. asked mine is phase
  turn-mine state (effects mine sent next is phase changes) = change-mine mine state changes
  turn-mine state (returns mine value address bytes is phase) = put unix (returned mine value address bytes) (returned-quiet mine value address bytes)
  turn-mine state (drops mine word lowest is phase low) = closed-mine mine word lowest (descriptor mine lowest) is phase
  turn-mine state (ends mine word is phase low) = ended-mine mine.pid word mine

-- ---- a process that asked

abbrev gives : Process → Entered
gives process = Ok process

abbrev given-phase : Process → Phase → Entered
given-phase process phase = Ok (in_phase process phase)

refused-sent : (mine p : Process) (sent : SentCall) (entry : Entered) → or_refused mine entry ≡ p → p.phase ≡ Sent sent → entry ≡ Ok p
refused-sent mine p sent (Ok after) e is = ap gives e
refused-sent mine p sent (Err errno) e is = no-sent (answered _) sent tt (ap (λ (x : Process). x.phase) e ∙ is)

-- what is sent is the process as it asked, but for its phase
same-asked : (unix : Unix) (slot : ℕ) (mine p : Process) (sent : SentCall) → Enters unix slot mine p → p.phase ≡ Sent sent → mine.phase ≡ Asked → in_phase p Asked ≡ mine
same-asked unix slot mine p sent (answers phase answer) is asks = no-sent phase sent (answer-quiet phase answer) is
same-asked unix slot mine p sent (sends given tested) is asks = ap (in_phase mine) (sym asks)
same-asked unix slot mine p sent (breaks address above below room) is asks = no-sent (answered address) sent tt is

-- a call on its way, in another state with the same files
stays-entered : (calls : Calls) (before after : Unix) (slot : ℕ) (p : Process) (sent : SentCall) → after.files ≡ before.files → p.phase ≡ Sent sent
    → entered_line calls before slot (in_phase p Asked) ≡ Ok p → entered_line calls after slot (in_phase p Asked) ≡ Ok p
stays-entered calls before after slot p sent files is e =
    entered-again calls before after slot p p.parent sent (λ number description held names there. (held.offset, ap (λ (f : Files). at f.descriptions description) files ∙ there)) is e
    ∙ ap (given-phase p) (sym is)

asked-kept : (calls : Calls) (unix after : Unix) (slot : ℕ) (mine p : Process) (sent : SentCall) → mine.phase ≡ Asked → entered calls unix slot mine ≡ p → p.phase ≡ Sent sent → after.files ≡ unix.files
    → entered_line calls after slot (in_phase p Asked) ≡ Ok p
asked-kept calls unix after slot mine p sent asks e is files =
    let line : entered_line calls unix slot mine ≡ Ok p = refused-sent mine p sent (entered_line calls unix slot mine) e is in
    let same : in_phase p Asked ≡ mine = same-asked unix slot mine p sent (subst (Entering unix slot mine) line (line-enters calls unix slot mine)) is asks in
    stays-entered calls unix after slot p sent files is (ap (entered_line calls unix slot) same ∙ line)

own-kept : (calls : Calls) (unix : Unix) (mover : ℕ) (input : List ℕ) (p : Process) (sent : SentCall) → AreSent calls unix → p.phase ≡ Sent sent
    → at (turned calls unix mover input).state.processes mover ≡ Some p → Own unix mover (turned calls unix mover input).state p
    → entered_line calls (with_phase (turned calls unix mover input).state mover p Asked) mover (in_phase p Asked) ≡ Ok p
unfolding AreSent
own-kept calls unix mover input p sent sents is there (quiet none) = no-sent p.phase sent none is
own-kept calls unix mover input p sent sents is there (still before files) =
    stays-entered calls (with_phase unix mover p Asked) (with_phase (turned calls unix mover input).state mover p Asked) mover p sent files is (sents mover p sent before is)
own-kept calls unix mover input p sent sents is there (asked mine before asks) =
    let state : Unix = ticked (with_process unix mover (entered calls unix mover mine)) in
    let turn : (turned calls unix mover input).state ≡ state = ap (λ (t : Turn). t.state) (turned-in calls unix mover mine input Asked before asks) in
    let given : entered calls unix mover mine ≡ p =
    some-same (entered calls unix mover mine) p (sym (at-with_at unix.processes mover (Some (entered calls unix mover mine))) ∙ ap (λ (s : Unix). at s.processes mover) (sym turn) ∙ there) in
    asked-kept calls unix (with_phase (turned calls unix mover input).state mover p Asked) mover mine p sent asks given is (ap (λ (s : Unix). s.files) turn)

-- ---- both

other-kept : (calls : Calls) (unix : Unix) (mover slot : ℕ) (input : List ℕ) (p : Process) (sent : SentCall) → HaveDescriptors unix.processes → AreSent calls unix → slot ≢ mover
    → at (turned calls unix mover input).state.processes slot ≡ Some p → p.phase ≡ Sent sent
    → entered_line calls (with_phase (turned calls unix mover input).state slot p Asked) slot (in_phase p Asked) ≡ Ok p
unfolding AreSent
other-kept calls unix mover slot input p sent slots sents apart there is =
    let before : Came unix slot sent =
    after-turn (λ state. at state.processes slot ≡ Some p → Came unix slot sent) calls unix mover input
    (λ state changes e. came unix mover slot (at state.processes slot) p sent (other-now unix mover slot apart state changes) e is) there in
    entered_lasts calls unix slot mover before.process p sent sent input slots before.there before.has_sent (λ e. apart (sym e)) (sents slot before.process sent before.there before.has_sent) there is

pub sent_kept : SentKept
unfolding AreSent
sent_kept calls unix mover input slots sents = λ slot p sent there is. elim (eqb_tells slot mover) as (λ _. entered_line calls (with_phase (turned calls unix mover input).state slot p Asked) slot (in_phase p Asked) ≡ Ok p) [
  | inl same ↦
      let here : at (turned calls unix mover input).state.processes mover ≡ Some p = ap (at (turned calls unix mover input).state.processes) (sym same.1) ∙ there in
      let own : Own unix mover (turned calls unix mover input).state p =
      after-turn (λ state. at state.processes mover ≡ Some p → Own unix mover state p) calls unix mover input (λ state changes. turn-mine unix mover p state changes) here in
      subst (λ (s : ℕ). entered_line calls (with_phase (turned calls unix mover input).state s p Asked) s (in_phase p Asked) ≡ Ok p) (sym same.1)
      (own-kept calls unix mover input p sent sents is here own)
  | inr apart ↦ other-kept calls unix mover slot input p sent slots sents apart.1 there is
]
