-- After every turn a description is there exactly where a descriptor names it.
use Rattle.std.proofs.Common.{◌≡◌, ◌≢◌, ◌⊎◌, ℕ, ◌<◌, true, false, List, [], ◌++◌, ◌-◌, take, drop, length, Option, Some, None, arith, refl, sym, subst, ap, ◌∙◌, inl, inr, get_or}
use Rattle.std.proofs.lemmas.Bool.{cases_Bool, cases_lt}
use Rattle.std.proofs.lemmas.Bool.Decides.{eqb_tells}
use Rattle.std.proofs.lemmas.List.{get_or-set_other, get_or_past, length-set}
use Rattle.std.specs.Prelude.{IsSome, ◌==◌, ◌&&◌, not, is_none, is_some}
use Rattle.unix_model.specs.Enter.{has_flag}
use Rattle.unix_model.specs.FileCalls.{pipe_end, with_contents, with_descriptors, with_offset, with_resized, with_written}
use Rattle.unix_model.specs.Files.{Files, Description, Directory, Pipe, free_description, next_description, with_name_moved, without_name}
use Rattle.unix_model.specs.Limits.{description_count, descriptor_count, most_file_bytes, slot_count}
use Rattle.unix_model.specs.NameCalls.{ToOpen, moved, opening, removed, with_link, with_made, with_opened, with_truncated}
use Rattle.unix_model.specs.Paths.{Spot}
use Rattle.unix_model.specs.Process.{Process, SentCall, Phase, Exiting, answered, descriptor, in_phase, lowest_closed, lowest_open, next_closed, with_descriptor, without_descriptor, zombie}
use Rattle.unix_model.specs.ProcessCalls.{EndedChild, child, forked, is_ending, least_ended, with_killed, with_program}
use Rattle.unix_model.specs.Rules.{AreOpen}
use Rattle.unix_model.specs.State.{Unix, Opened, free_slot, opened, phase_word, with_descriptor_closed, with_files, with_phase, with_process, without_process}
use Rattle.unix_model.specs.Tables.{at, with_at}
use Rattle.unix_model.specs.Turn.{ran, returned, with_orphans_adopted}
use Rattle.unix_model.proofs.TableLaws.{at-with_at, at-with_at-other, with_at-twice}
use Rattle.unix_laws.proofs.Basics.{true-false, some-differ, some-same, none-is, and-both, apart-of, not-apart}
use Rattle.unix_laws.proofs.Changes.{Changes, settles, exits, forks, loads, reaps, kills, dups, closes, dups_to, pipes, reads_file, seeks, lists, takes_pipe, puts_pipe, writes_file, resizes, opens, makes_directory, removes_directory, unlinks, links, renames, Opening, finds, creates, Renaming, onto, anew}
use Rattle.unix_laws.proofs.Counting.{Passes, least-passes, none-passes}
use Rattle.unix_laws.proofs.Lasts.{IsEndedChild, dropped-descriptions, least-ended-is, moved-descriptions}
use Rattle.unix_laws.proofs.OpenKeep.{IsClosed, cleared-reads, close-open, closed-all, inside, open-adopted, open-forked, open-killed, open-new, open-numbers, open-put, open-reaped, set-reads}
use Rattle.unix_laws.proofs.Tested.{opened-is}
use Rattle.unix_laws.proofs.TurnChanges.{Enters, TurnChanges, after-turn, answers, breaks, drops, effects, ends, enters, idles, returns, runs, sends}
use Rattle.unix_laws.specs.RuleLaws.{HaveDescriptors, OpenKept}

abbrev Opens : Unix → Type 0
Opens state = AreOpen state.processes state.files.descriptions

pub entered-descriptors : (unix : Unix) (slot : ℕ) (process after : Process) → Enters unix slot process after → after.descriptors ≡ process.descriptors
entered-descriptors unix slot process after (answers phase answer) = refl
entered-descriptors unix slot process after (sends sent tested) = refl
entered-descriptors unix slot process after (breaks address above below room) = refl

pub ran-descriptors : (process : Process) → (ran process).descriptors ≡ process.descriptors
unfolding ran
ran-descriptors process = refl

pub returned-descriptors : (process : Process) (value address : ℕ) (bytes : List ℕ) → (returned process value address bytes).descriptors ≡ process.descriptors
unfolding returned
returned-descriptors process value address bytes = refl

pub program-descriptors : (process : Process) (file : List ℕ) (plan : _) (strings : List (List ℕ)) → (with_program process file plan strings).descriptors ≡ process.descriptors
unfolding with_program
program-descriptors process file plan strings = refl

renaming-descriptions : (unix : Unix) (from to : Spot) (named : ℕ) (files : Files) → Renaming unix from to named files → files.descriptions ≡ unix.files.descriptions
renaming-descriptions unix from to named files (onto given is first second third) =
    let placed : Files = with_name_moved unix.files to.directory to.name named in
    dropped-descriptions (moved placed from to named) given ∙ moved-descriptions placed from to named
renaming-descriptions unix from to named files (anew is place room) = moved-descriptions (with_link unix to named).files from to named

-- the lowest closed descriptor, and the next one
pub lowest-is : (process : Process) (lowest : ℕ) → lowest_closed process ≡ Some lowest → (lowest < descriptor_count) × (descriptor process lowest ≡ None)
unfolding lowest_closed
lowest-is process lowest e =
    let least : Passes (λ number. is_none (descriptor process number)) descriptor_count lowest = least-passes (λ number. is_none (descriptor process number)) descriptor_count lowest e in
    (least.below, none-is (descriptor process lowest) least.holds)

pub next-is : (process : Process) (first second : ℕ) → next_closed process first ≡ Some second → (second < descriptor_count) × (second ≢ first) × (descriptor process second ≡ None)
unfolding next_closed
next-is process first second e =
    let least : Passes (λ number. not (number == first) && is_none (descriptor process number)) descriptor_count second = least-passes (λ number. not (number == first) && is_none (descriptor process number)) descriptor_count second e in
    let both : (not (second == first) ≡ true) × (is_none (descriptor process second) ≡ true) = and-both (not (second == first)) (is_none (descriptor process second)) least.holds in
    (least.below, not-apart second first both.0, none-is (descriptor process second) both.1)

pub free-is : (descriptions : ℕ → Option Description) (number : ℕ) → free_description descriptions ≡ Some number → at descriptions number ≡ None
unfolding free_description
free-is descriptions number e =
    let least : Passes (λ n. is_none (at descriptions n)) description_count number = least-passes (λ n. is_none (at descriptions n)) description_count number e in
    none-is (at descriptions number) least.holds

pub next-free : (descriptions : ℕ → Option Description) (reader writer : ℕ) → next_description descriptions reader ≡ Some writer → (writer ≢ reader) × (at descriptions writer ≡ None)
unfolding next_description
next-free descriptions reader writer e =
    let least : Passes (λ n. not (n == reader) && is_none (at descriptions n)) description_count writer = least-passes (λ n. not (n == reader) && is_none (at descriptions n)) description_count writer e in
    let both : (not (writer == reader) ≡ true) × (is_none (at descriptions writer) ≡ true) = and-both (not (writer == reader)) (is_none (at descriptions writer)) least.holds in
    (not-apart writer reader both.0, none-is (at descriptions writer) both.1)

pub free-slot-is : (processes : ℕ → Option Process) (place : ℕ) → free_slot processes ≡ Some place → at processes place ≡ None
unfolding free_slot
free-slot-is processes place e =
    let least : Passes (λ slot. is_none (at processes slot)) slot_count place = least-passes (λ slot. is_none (at processes slot)) slot_count place e in
    none-is (at processes place) least.holds

pub none-open : (process : Process) → length process.descriptors ≡ descriptor_count → lowest_open process ≡ None → (number n : ℕ) → descriptor process number ≡ Some n → ⊥
unfolding lowest_open
none-open process size none number n names = elim (cases_lt number descriptor_count) as (λ _. ⊥) [
  | inl below ↦ true-false (sym (ap is_some names) ∙ none-passes (λ k. is_some (descriptor process k)) descriptor_count none number below)
  | inr past ↦ some-differ n (sym (get_or_past process.descriptors number None (omega (arith, past, size))) ∙ names)
]

module _ (unix : Unix) (mover : ℕ) (mine : Process) (slots : HaveDescriptors unix.processes) (there : at unix.processes mover ≡ Some mine) (holds : Opens unix) where
  -- the process goes on with the descriptors that it had
  goes : (state : Unix) (current next : Process) → at state.processes mover ≡ Some current → next.descriptors ≡ current.descriptors → Opens state → Opens (with_process state mover next)
  goes state current next is e opens_now =
      open-put state.processes state.files.descriptions mover current next is
      (λ number n names. ap (λ (l : List (Option ℕ)). get_or l number None) e ∙ names)
      (λ number n names. opens_now.there mover number n current is (ap (λ (l : List (Option ℕ)). get_or l number None) (sym e) ∙ names)) opens_now

  same : (next : Process) → next.descriptors ≡ mine.descriptors → Opens (with_process unix mover next)
  same next e = goes unix mine next there e holds

  -- other files with descriptions at the same numbers
  files-go : (files : Files) (next : Process) → ((n : ℕ) → is_some (at files.descriptions n) ≡ is_some (at unix.files.descriptions n)) → next.descriptors ≡ mine.descriptors → Opens (with_process (with_files unix files) mover next)
  files-go files next numbers e = goes (with_files unix files) mine next there e (open-numbers unix.processes unix.files.descriptions files.descriptions numbers holds)

  files-same : (files : Files) (phase : Phase) → files.descriptions ≡ unix.files.descriptions → Opens (with_phase (with_files unix files) mover mine phase)
  files-same files phase e = files-go files (in_phase mine phase) (λ n. ap (λ (descriptions : ℕ → Option Description). is_some (at descriptions n)) e) refl

  offset-numbers : (number offset : ℕ) (file : Opened) → opened unix mine number ≡ Some file → (n : ℕ) → is_some (at (with_offset unix.files file offset).descriptions n) ≡ is_some (at unix.files.descriptions n)
  offset-numbers number offset file held n =
      let there_is : at unix.files.descriptions file.number ≡ Some file.description = (opened-is unix mine number file held).there in
      elim (eqb_tells n file.number) as (λ _. is_some (at (with_offset unix.files file offset).descriptions n) ≡ is_some (at unix.files.descriptions n)) [
        | inl alike ↦
            ap is_some (ap (at (with_offset unix.files file offset).descriptions) alike.1 ∙ at-with_at unix.files.descriptions file.number (Some (record file.description { offset = offset })))
            ∙ ap is_some (sym there_is ∙ ap (at unix.files.descriptions) (sym alike.1))
        | inr apart ↦ ap is_some (at-with_at-other unix.files.descriptions file.number n (Some (record file.description { offset = offset })) apart.1)
      ]

  offset-goes : (number offset : ℕ) (file : Opened) (phase : Phase) → opened unix mine number ≡ Some file → Opens (with_phase (with_files unix (with_offset unix.files file offset)) mover mine phase)
  offset-goes number offset file phase held = files-go (with_offset unix.files file offset) (in_phase mine phase) (offset-numbers number offset file held) refl

  -- a descriptor is closed, and perhaps set again
  closed-goes : (k : ℕ) (phase : Phase) → Opens (with_phase (with_descriptor_closed unix mover mine k (descriptor mine k)) mover (without_descriptor mine k) phase)
  closed-goes k phase =
      let state : Unix = with_descriptor_closed unix mover mine k (descriptor mine k) in
      let c : IsClosed state mover mine k = close-open unix mover mine slots there holds k (descriptor mine k) refl in
      open-put state.processes state.files.descriptions mover c.current (in_phase (without_descriptor mine k) phase) c.there
      (λ number n names. let before : (number ≢ k) × (descriptor mine number ≡ Some n) = c.reads number n names in get_or-set_other mine.descriptors k number None None before.0 ∙ before.1)
      (λ number n names.
      let before : (number ≢ k) × (descriptor mine number ≡ Some n) = cleared-reads mine.descriptors k number n names in
      c.opens.there mover number n c.current c.there (c.keeps number n before.0 before.1)) c.opens

  set-goes : (first to : ℕ) (file : Opened) (phase : Phase) → opened unix mine first ≡ Some file → first ≢ to → Opens (with_phase (with_descriptor_closed unix mover mine to (descriptor mine to)) mover (with_descriptor mine to file.number) phase)
  set-goes first to file phase held apart =
      let state : Unix = with_descriptor_closed unix mover mine to (descriptor mine to) in
      let c : IsClosed state mover mine to = close-open unix mover mine slots there holds to (descriptor mine to) refl in
      let first_there : IsSome (at state.files.descriptions file.number) = c.opens.there mover first file.number c.current c.there (c.keeps first file.number apart (opened-is unix mine first file held).names) in
      open-put state.processes state.files.descriptions mover c.current (in_phase (with_descriptor mine to file.number) phase) c.there
      (λ number n names. let before : (number ≢ to) × (descriptor mine number ≡ Some n) = c.reads number n names in get_or-set_other mine.descriptors to number (Some file.number) None before.0 ∙ before.1)
      (λ number n names. set-there state c first_there number n (set-reads mine.descriptors to number file.number n names)) c.opens
    where
      set-there : (state : Unix) (c : IsClosed state mover mine to) → IsSome (at state.files.descriptions file.number) → (number n : ℕ) → ((number ≡ to) × (file.number ≡ n)) ⊎ ((number ≢ to) × (get_or mine.descriptors number None ≡ Some n)) → IsSome (at state.files.descriptions n)
      set-there state c first_there number n (inl here) = subst (λ k. IsSome (at state.files.descriptions k)) here.1 first_there
      set-there state c first_there number n (inr other) = c.opens.there mover number n c.current c.there (c.keeps number n other.0 other.1)

  -- a descriptor of what is open already
  dup-goes : (number lowest : ℕ) (file : Opened) (phase : Phase) → opened unix mine number ≡ Some file → lowest_closed mine ≡ Some lowest → Opens (with_phase unix mover (with_descriptor mine lowest file.number) phase)
  dup-goes number lowest file phase held low =
      let closed : (lowest < descriptor_count) × (descriptor mine lowest ≡ None) = lowest-is mine lowest low in
      open-put unix.processes unix.files.descriptions mover mine (in_phase (with_descriptor mine lowest file.number) phase) there
      (λ k n names. get_or-set_other mine.descriptors lowest k (Some file.number) None (λ alike. some-differ n (sym closed.1 ∙ ap (descriptor mine) (sym alike) ∙ names)) ∙ names)
      (λ k n names. dup-there (opened-is unix mine number file held).names k n (set-reads mine.descriptors lowest k file.number n names)) holds
    where
      dup-there : descriptor mine number ≡ Some file.number → (k n : ℕ) → ((k ≡ lowest) × (file.number ≡ n)) ⊎ ((k ≢ lowest) × (get_or mine.descriptors k None ≡ Some n)) → IsSome (at unix.files.descriptions n)
      dup-there names k n (inl here) = subst (λ m. IsSome (at unix.files.descriptions m)) here.1 (holds.there mover number file.number mine there names)
      dup-there names k n (inr other) = holds.there mover k n mine there other.1

  -- a new description, and the two of a pipe
  new-goes : (number lowest : ℕ) (new : Description) (phase : Phase) → lowest_closed mine ≡ Some lowest → free_description unix.files.descriptions ≡ Some number
      → AreOpen (with_at unix.processes mover (Some (in_phase (with_descriptor mine lowest number) phase))) (with_at unix.files.descriptions number (Some new))
  new-goes number lowest new phase low free =
      let closed : (lowest < descriptor_count) × (descriptor mine lowest ≡ None) = lowest-is mine lowest low in
      open-new unix mover mine (inside unix.processes slots mover mine there) (slots.each mover mine there) there holds lowest number new (in_phase (with_descriptor mine lowest number) phase) refl closed.0 closed.1 (free-is unix.files.descriptions number free)

  opening-goes : (flags number lowest : ℕ) (spot : Spot) (new : ToOpen) → lowest_closed mine ≡ Some lowest → free_description unix.files.descriptions ≡ Some number → Opening unix flags spot new
      → Opens (with_phase (with_opened new.state number (opening flags new.inode)) mover (with_descriptor mine lowest number) (answered lowest))
  opening-goes flags number lowest spot new low free (finds found is reads) =
      elim (cases_Bool (has_flag flags 64)) as (λ _. Opens (with_phase (with_opened (with_truncated unix flags found) number (opening flags found)) mover (with_descriptor mine lowest number) (answered lowest))) [
        | inl cuts ↦ rw cuts (new-goes number lowest (opening flags found) (answered lowest) low free)
        | inr keeps ↦ rw keeps (new-goes number lowest (opening flags found) (answered lowest) low free)
      ]
  opening-goes flags number lowest spot new low free (creates given is making_so) = new-goes number lowest (opening flags given) (answered lowest) low free

  pipe-goes : (first second reader writer : ℕ) (one two : Description) (phase : Phase) → lowest_closed mine ≡ Some first → next_closed mine first ≡ Some second
      → free_description unix.files.descriptions ≡ Some reader → next_description unix.files.descriptions reader ≡ Some writer
      → AreOpen (with_at unix.processes mover (Some (in_phase (with_descriptors mine first reader second writer) phase))) (with_at (with_at unix.files.descriptions reader (Some one)) writer (Some two))
  pipe-goes first second reader writer one two phase low next free free2 =
      let middle : Process = with_descriptor mine first reader in
      let last : Process = in_phase (with_descriptors mine first reader second writer) phase in
      let after : (second < descriptor_count) × (second ≢ first) × (descriptor mine second ≡ None) = next-is mine first second next in
      let apart : (writer ≢ reader) × (at unix.files.descriptions writer ≡ None) = next-free unix.files.descriptions reader writer free2 in
      let half : AreOpen (with_at unix.processes mover (Some middle)) (with_at unix.files.descriptions reader (Some one)) = new-goes reader first one mine.phase low free in
      let state : Unix = with_process (with_files unix (record unix.files { descriptions = with_at unix.files.descriptions reader (Some one) })) mover middle in
      subst (λ (processes : ℕ → Option Process). AreOpen processes (with_at (with_at unix.files.descriptions reader (Some one)) writer (Some two))) (with_at-twice unix.processes mover (Some middle) (Some last))
      (open-new state mover middle (inside unix.processes slots mover mine there) (length-set mine.descriptors first (Some reader) ∙ (slots.each mover mine there)) (at-with_at unix.processes mover (Some middle)) half second writer two last refl after.0
      (get_or-set_other mine.descriptors first second (Some reader) None after.1 ∙ after.2)
      (at-with_at-other unix.files.descriptions reader writer (Some one) apart.0 ∙ apart.1))

  -- ---- processes

  forked-goes : (place : ℕ) → free_slot unix.processes ≡ Some place → Opens (with_phase (forked unix place mine) mover mine (answered unix.next_pid))
  forked-goes place free =
      let empty : at unix.processes place ≡ None = free-slot-is unix.processes place free in
      let here : at (with_at unix.processes place (Some (child unix.next_pid mine))) mover ≡ Some mine =
      at-with_at-other unix.processes place mover (Some (child unix.next_pid mine)) (λ alike. some-differ mine (sym empty ∙ ap (at unix.processes) (sym alike) ∙ there)) ∙ there in
      goes (forked unix place mine) mine (in_phase mine (answered unix.next_pid)) here refl (open-forked unix.processes unix.files.descriptions mover place unix.next_pid mine there empty holds)

  reaped-goes : (wanted : ℕ) (ended : EndedChild) (phase : Phase) → phase_word mine.phase ≡ None → least_ended unix.processes mine.pid wanted slot_count ≡ Some ended → Opens (with_phase (without_process unix ended.slot) mover mine phase)
  reaped-goes wanted ended phase lives least =
      let is : IsEndedChild unix.processes mine.pid ended = least-ended-is unix.processes mine.pid wanted slot_count ended least in
      let apart : mover ≢ ended.slot = λ alike. some-differ ended.word (sym lives ∙ ap (λ (p : Process). phase_word p.phase) (some-same mine is.process (sym there ∙ ap (at unix.processes) alike ∙ is.there)) ∙ is.word) in
      goes (without_process unix ended.slot) mine (in_phase mine phase) (at-with_at-other unix.processes ended.slot mover None apart ∙ there) refl
      (open-reaped unix.processes unix.files.descriptions mine.pid ended slots is holds)

  killed-own : (target signal : ℕ) (found : Option Process) → target ≢ mover → at (with_killed unix target signal found).processes mover ≡ Some mine
  killed-own target signal None apart = there
  killed-own target signal (Some held) apart = elim (cases_Bool (is_ending held.phase)) as (λ _. at (with_killed unix target signal (Some held)).processes mover ≡ Some mine) [
    | inl ending ↦ rw ending there
    | inr going ↦ rw going (at-with_at-other unix.processes target mover (Some (in_phase held (Exiting signal))) (λ e. apart (sym e)) ∙ there)
  ]

  killed-goes : (target signal : ℕ) → target == mover ≡ false → Opens (with_phase (with_killed unix target signal (at unix.processes target)) mover mine (answered 0))
  killed-goes target signal apart =
      goes (with_killed unix target signal (at unix.processes target)) mine (in_phase mine (answered 0)) (killed-own target signal (at unix.processes target) (apart-of target mover apart)) refl
      (open-killed unix target signal (at unix.processes target) refl holds)

  change-opens : {sent : SentCall} → phase_word mine.phase ≡ None → (state : Unix) → Changes unix mover mine sent state → Opens state
  change-opens lives state (settles phase answer) = same (in_phase mine phase) refl
  change-opens lives state (exits word) = same (in_phase mine (Exiting word)) refl
  change-opens lives state (forks place free pid room) = forked-goes place free
  change-opens lives state (loads inode file plan held planned room) = same (with_program mine file plan _) (program-descriptors mine file plan _)
  change-opens lives state (reaps wanted ended phase least answer) = reaped-goes wanted ended phase lives least
  change-opens lives state (kills pid target signal given_so is apart) = killed-goes target signal apart
  change-opens lives state (dups number lowest file held low) = dup-goes number lowest file (answered lowest) held low
  change-opens lives state (closes number) = closed-goes number (answered 0)
  change-opens lives state (dups_to number to file held apart) = set-goes number to file (answered to) held (apart-of number to apart)
  change-opens lives state (pipes first second reader writer number phase low next free free2 free_i room answer) =
      pipe-goes first second reader writer (pipe_end number false) (pipe_end number true) phase low next free free2
  change-opens lives state (reads_file number count file bytes phase held is answer) = offset-goes number _ file phase held
  change-opens lives state (seeks number place file held stream aligned below) = offset-goes number place file (answered place) held
  change-opens lives state (lists number count file phase held directory answer) = offset-goes number _ file phase held
  change-opens lives state (takes_pipe number count file bytes phase held is answer) = files-same (with_contents unix.files file (Pipe (drop count bytes))) phase refl
  change-opens lives state (puts_pipe number file bytes written given_so held is few) = files-same (with_contents unix.files file (Pipe (bytes ++ written))) (answered (length written)) refl
  change-opens lives state (writes_file number place file bytes written given_so held is below room) =
      files-go (with_written unix file bytes place (take (most_file_bytes - place) written)).files (in_phase mine (answered (length (take (most_file_bytes - place) written)))) (offset-numbers number _ file held) refl
  change-opens lives state (resizes number size file bytes held is few room) = files-same (with_resized unix file bytes size).files (answered 0) refl
  change-opens lives state (opens path flags number lowest spot new low free walk opening_so) = opening-goes flags number lowest spot new low free opening_so
  change-opens lives state (makes_directory path spot number walk free making_so) = files-same (with_made unix spot number (Directory spot.directory [])).files (answered 0) refl
  change-opens lives state (removes_directory path spot gone walk root dots is directory names) =
      files-same (removed unix.files spot gone) (answered 0) (dropped-descriptions (without_name unix.files spot.directory spot.name) gone)
  change-opens lives state (unlinks path spot gone walk is file) =
      files-same (removed unix.files spot gone) (answered 0) (dropped-descriptions (without_name unix.files spot.directory spot.name) gone)
  change-opens lives state (links old new from to linked walk is file walk2 free place room) = files-same (with_link unix to linked).files (answered 0) refl
  change-opens lives state (renames old new from to named files walk root dots is walk2 root2 dots2 differ_names within renaming_so) =
      files-same files (answered 0) (renaming-descriptions unix from to named files renaming_so)

  -- a process without a descriptor ends
  ended-goes : (word : ℕ) → lowest_open mine ≡ None → Opens (with_orphans_adopted mine.pid (with_process unix mover (zombie mine word)))
  ended-goes word none =
      open-adopted mine.pid (with_process unix mover (zombie mine word))
      (open-put unix.processes unix.files.descriptions mover mine (zombie mine word) there
      (λ number n names. absurd (none-open mine (slots.each mover mine there) none number n names))
      (λ number n names. absurd (closed-all number n (zombie mine word).descriptors refl names)) holds)

turn-opens : (unix : Unix) (mover : ℕ) → HaveDescriptors unix.processes → Opens unix → (state : Unix) → TurnChanges unix mover state → Opens state
turn-opens unix mover slots holds state idles = holds
turn-opens unix mover slots holds state (runs mine there phase) = same unix mover mine slots there holds (ran mine) (ran-descriptors mine)
turn-opens unix mover slots holds state (enters mine after there phase entering) = same unix mover mine slots there holds after (entered-descriptors unix mover mine after entering)
turn-opens unix mover slots holds state (effects mine sent after there phase changes) = change-opens unix mover mine slots there holds (ap phase_word phase) after changes
turn-opens unix mover slots holds state (returns mine value address bytes there phase) = same unix mover mine slots there holds (returned mine value address bytes) (returned-descriptors mine value address bytes)
turn-opens unix mover slots holds state (drops mine word lowest there phase low) = (close-open unix mover mine slots there holds lowest (descriptor mine lowest) refl).opens
turn-opens unix mover slots holds state (ends mine word there phase low) = ended-goes unix mover mine slots there holds word low

pub open_kept : OpenKept
open_kept calls unix slot input slots holds = after-turn Opens calls unix slot input (λ state changes. record { named = (turn-opens unix slot slots holds state changes).named; there = (turn-opens unix slot slots holds state changes).there })
