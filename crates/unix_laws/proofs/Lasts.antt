-- A process that waits for an answer lasts through a turn of another slot.
use Rattle.std.proofs.Common.{◌≡◌, ◌≢◌, ℕ, zero, suc, ◌-◌, ◌<◌, true, false, List, [], ◌++◌, take, drop, length, Option, Some, None, refl, sym, subst, ap, ◌∙◌, inl, inr, get_or}
use Rattle.std.proofs.lemmas.Bool.{cases_Bool, cases_lt}
use Rattle.std.proofs.lemmas.Bool.Decides.{eqb_tells}
use Rattle.std.proofs.lemmas.Bool.{eq-eqb}
use Rattle.std.proofs.lemmas.List.{get_or_past}
use Rattle.std.proofs.lemmas.List.Folds.{list_any_at}
use Rattle.std.specs.List.{list_any}
use Rattle.std.specs.Prelude.{if◌then◌else◌, ◌==◌, ◌&&◌, is_none, not, option_map, nat_lt}
use Rattle.unix_model.specs.Enter.{has_flag}
use Rattle.unix_model.specs.FileCalls.{pipe_end, with_contents, with_descriptors, with_offset, with_pipe, with_resized, with_written}
use Rattle.unix_model.specs.Files.{next_description, Files, Inode, File, Directory, Pipe, Console, Description, free_description, is_kept, with_description, with_description_freed, with_inode_dropped, with_name_moved, without_name}
use Rattle.unix_model.specs.Limits.{most_file_bytes, description_count, slot_count}
use Rattle.unix_model.specs.NameCalls.{ToOpen, moved, opening, removed, with_link, with_made, with_opened, with_parent, with_truncated}
use Rattle.unix_model.specs.Paths.{Spot}
use Rattle.unix_model.specs.Process.{Process, SentCall, Exiting, answered, descriptor, in_phase, with_descriptor, without_descriptor, zombie}
use Rattle.unix_model.specs.ProcessCalls.{EndedChild, child, ended_child, ended_in, forked, is_ending, is_waited, least_ended, lesser_pid, with_killed, with_program}
use Rattle.unix_model.specs.State.{Unix, Opened, adopted, free_slot, has_descriptor, names_description, opened, phase_word, process_names, with_description_released, with_descriptor_closed, with_files, with_phase, with_process, without_process}
use Rattle.unix_model.specs.Tables.{at, with_at}
use Rattle.unix_model.specs.Turn.{ran, returned, ticked, with_orphans_adopted}
use Rattle.unix_model.proofs.TableLaws.{at-with_at, at-with_at-other}
use Rattle.unix_laws.proofs.Basics.{true-false, some-differ, some-same, none-is, and-both, same-of, not-apart}
use Rattle.unix_laws.proofs.Changes.{Changes, settles, exits, forks, loads, reaps, kills, dups, closes, dups_to, pipes, reads_file, seeks, lists, takes_pipe, puts_pipe, writes_file, resizes, opens, makes_directory, removes_directory, unlinks, links, renames, Opening, finds, creates, Renaming, onto, anew}
use Rattle.unix_laws.proofs.Counting.{Passes, least-passes, passes-any}
use Rattle.unix_laws.proofs.Tested.{opened-is}
use Rattle.unix_laws.proofs.TurnChanges.{TurnChanges, idles, runs, enters, effects, returns, drops, ends, after-turn}
use Rattle.unix_laws.specs.LastingLaws.{Lasts, SentLasts}
use Rattle.unix_laws.specs.RuleLaws.{HaveDescriptors}

-- a description in another table: as before, but for its offset
abbrev Keeps : (ℕ → Option Description) → (ℕ → Option Description) → ℕ → Type 0
Keeps before after n = (held : Description) → at before n ≡ Some held → (offset : ℕ) × (at after n ≡ Some (record held { offset = offset }))

keeps-same : (before after : ℕ → Option Description) (n : ℕ) → at after n ≡ at before n → Keeps before after n
keeps-same before after n e = λ held there. (held.offset, e ∙ there)

-- a child that has ended, with its process
pub record IsEndedChild (processes : ℕ → Option Process) (parent : ℕ) (ended : EndedChild) : Type 0 where
  pub process : Process
  pub there : at processes ended.slot ≡ Some process
  pub word : phase_word process.phase ≡ Some ended.word
  pub pid : process.pid ≡ ended.pid
  pub parent_is : process.parent ≡ parent

-- the files without an inode have all descriptions
pub dropped-descriptions : (files : Files) (n : ℕ) → (with_inode_dropped files n).descriptions ≡ files.descriptions
dropped-descriptions files n = elim (cases_Bool (is_kept files n)) as (λ _. (with_inode_dropped files n).descriptions ≡ files.descriptions) [
  | inl kept ↦ rw kept refl
  | inr gone ↦ rw gone refl
]

parent-descriptions : (files : Files) (n parent : ℕ) (found : Option Inode) → (with_parent files n parent found).descriptions ≡ files.descriptions
parent-descriptions files n parent None = refl
parent-descriptions files n parent (Some (File bytes)) = refl
parent-descriptions files n parent (Some (Directory old places)) = refl
parent-descriptions files n parent (Some (Pipe bytes)) = refl
parent-descriptions files n parent (Some Console) = refl

pub moved-descriptions : (files : Files) (from to : Spot) (n : ℕ) → (moved files from to n).descriptions ≡ files.descriptions
moved-descriptions files from to n =
    let after : Files = without_name files from.directory from.name in
    parent-descriptions after n to.directory (at after.inodes n)

pub freed-keeps : (files : Files) (number n : ℕ) (found : Option Description) → n ≢ number → at (with_description_freed files number found).descriptions n ≡ at files.descriptions n
freed-keeps files number n None apart = refl
freed-keeps files number n (Some description) apart =
    ap (λ (descriptions : ℕ → Option Description). at descriptions n) (dropped-descriptions (record files { descriptions = with_at files.descriptions number None }) description.inode)
    ∙ at-with_at-other files.descriptions number n None apart

-- a description that a process still names isn't released
released-keeps : (state : Unix) (number n : ℕ) → has_descriptor state.processes n ≡ true → at (with_description_released state number).files.descriptions n ≡ at state.files.descriptions n
released-keeps state number n names = elim (cases_Bool (has_descriptor state.processes number)) as (λ _. at (with_description_released state number).files.descriptions n ≡ at state.files.descriptions n) [
  | inl kept ↦ rw kept refl
  | inr gone ↦ rw gone (freed-keeps state.files number n (at state.files.descriptions number) (λ same. true-false (sym names ∙ ap (has_descriptor state.processes) same ∙ gone)))
]

pub released-processes : (state : Unix) (number : ℕ) → (with_description_released state number).processes ≡ state.processes
released-processes state number = elim (cases_Bool (has_descriptor state.processes number)) as (λ _. (with_description_released state number).processes ≡ state.processes) [
  | inl kept ↦ rw kept refl
  | inr gone ↦ rw gone refl
]

-- ---- what a least ended child is

module _ (processes : ℕ → Option Process) (parent wanted : ℕ) where
  lesser-one : (first second : Option EndedChild) (P : EndedChild → Type 0) → ((ended : EndedChild) → first ≡ Some ended → P ended) → ((ended : EndedChild) → second ≡ Some ended → P ended)
      → (ended : EndedChild) → lesser_pid first second ≡ Some ended → P ended
  lesser-one None second P one two ended e = two ended e
  lesser-one (Some first) None P one two ended e = one ended e
  lesser-one (Some first) (Some second) P one two ended e = elim (cases_Bool (nat_lt second.pid first.pid)) as (λ _. P ended) [
    | inl less ↦ two ended (rw less at e)
    | inr more ↦ one ended (rw more at e)
  ]

  ended-word : (slot : ℕ) (process : Process) (ended : EndedChild) (word : Option ℕ) → at processes slot ≡ Some process → process.parent ≡ parent → phase_word process.phase ≡ word
      → ended_child slot process.pid word ≡ Some ended → IsEndedChild processes parent ended
  ended-word slot process ended None there child_of is e = some-differ ended e
  ended-word slot process ended (Some word) there child_of is e =
      let same : record { slot = slot; pid = process.pid; word = word } ≡ ended = cc in
      record {
        process = process;
        there = ap (λ (x : EndedChild). at processes x.slot) (sym same) ∙ there;
        word = is ∙ ap (λ (x : EndedChild). Some x.word) same;
        pid = ap (λ (x : EndedChild). x.pid) same;
        parent_is = child_of;
      }

  ended-at : (slot : ℕ) (ended : EndedChild) (found : Option Process) → at processes slot ≡ found → (if is_waited parent wanted found then ended_in slot found else None) ≡ Some ended → IsEndedChild processes parent ended
  ended-at slot ended None there e = some-differ ended e
  ended-at slot ended (Some process) there e = elim (cases_Bool (is_waited parent wanted (Some process))) as (λ _. IsEndedChild processes parent ended) [
    | inl waited ↦ ended-word slot process ended (phase_word process.phase) there (same-of process.parent parent ((and-both (process.parent == parent) _ waited).0)) refl (rw waited at e)
    | inr other ↦ some-differ ended (rw other at e)
  ]

  pub least-ended-is : (limit : ℕ) (ended : EndedChild) → least_ended processes parent wanted limit ≡ Some ended → IsEndedChild processes parent ended
  unfolding least_ended
  least-ended-is zero ended e = some-differ ended e
  least-ended-is (suc last) ended e =
      lesser-one (least_ended processes parent wanted last) (if is_waited parent wanted (at processes last) then ended_in last (at processes last) else None) (IsEndedChild processes parent)
      (λ x f. least-ended-is last x f) (λ x f. ended-at last x (at processes last) refl f) ended e

adopted-orphan : (ended : ℕ) (process : Process) → process.parent == ended ≡ true → Some (adopted ended process) ≡ Some (record process { parent = 1 })
adopted-orphan ended process orphan = rw orphan refl

adopted-other : (ended : ℕ) (process : Process) → process.parent == ended ≡ false → Some (adopted ended process) ≡ Some process
adopted-other ended process other = rw other refl

-- ---- descriptions that others keep

keeps-trans : (first second third : ℕ → Option Description) (n : ℕ) → Keeps first second n → Keeps second third n → Keeps first third n
keeps-trans first second third n one two held there =
    let here : (offset : ℕ) × (at second n ≡ Some (record held { offset = offset })) = one held there in
    two (record held { offset = here.0 }) here.1

-- a new description, at a number that was free
keeps-new : (before : ℕ → Option Description) (number : ℕ) (new : Description) (n : ℕ) → at before number ≡ None → Keeps before (with_at before number (Some new)) n
keeps-new before number new n free held there =
    let apart : n ≢ number = λ same. some-differ held (sym free ∙ ap (at before) (sym same) ∙ there) in
    (held.offset, at-with_at-other before number n (Some new) apart ∙ there)

-- another offset
keeps-offset : (before : ℕ → Option Description) (number offset : ℕ) (description : Description) (n : ℕ) → at before number ≡ Some description
    → Keeps before (with_at before number (Some (record description { offset = offset }))) n
keeps-offset before number offset description n is held there = elim (eqb_tells n number) as (λ _. (now : ℕ) × (at (with_at before number (Some (record description { offset = offset }))) n ≡ Some (record held { offset = now }))) [
  | inl same ↦
      let both : Some description ≡ Some held = sym is ∙ ap (at before) (sym same.1) ∙ there in
      let one : description ≡ held = cc in
      (offset, ap (at (with_at before number (Some (record description { offset = offset })))) same.1 ∙ at-with_at before number (Some (record description { offset = offset })) ∙ ap (λ (d : Description). Some (record d { offset = offset })) one)
  | inr apart ↦ (held.offset, at-with_at-other before number n (Some (record description { offset = offset })) apart.1 ∙ there)
]

-- ---- a turn of another slot

names-number : (n : ℕ) → names_description n (Some n) ≡ true
names-number n = eq-eqb n n refl

pub list-names : (descriptors : List (Option ℕ)) (number n : ℕ) → get_or descriptors number None ≡ Some n → list_any (names_description n) descriptors ≡ true
list-names descriptors number n e = elim (cases_lt number (length descriptors)) as (λ _. list_any (names_description n) descriptors ≡ true) [
  | inl below ↦ list_any_at (names_description n) descriptors number None below (ap (names_description n) e ∙ names-number n)
  | inr past ↦ some-differ n (sym (get_or_past descriptors number None past) ∙ e)
]

module _ (unix : Unix) (mover slot : ℕ) (process : Process) (slots : HaveDescriptors unix.processes) (there : at unix.processes slot ≡ Some process) (apart : mover ≢ slot) where
  other : slot ≢ mover
  other e = apart (sym e)

  inside : slot < slot_count
  inside = elim (cases_lt slot slot_count) as (λ _. slot < slot_count) [
    | inl below ↦ below
    | inr past ↦ some-differ process (sym (slots.end slot past) ∙ there)
  ]

  abbrev Kept : Unix → Type 0
  Kept state = (number n : ℕ) (held : Description) → descriptor process number ≡ Some n → at unix.files.descriptions n ≡ Some held → (offset : ℕ) × (at state.files.descriptions n ≡ Some (record held { offset = offset }))

  -- the process as it was, and with another phase
  lasts : (state : Unix) → at state.processes slot ≡ Some process → Kept state → Lasts unix state slot process
  lasts state e kept = record { parent = process.parent; phase = process.phase; there = e; stays = inl refl; descriptions = kept }

  past-mover : (state : Unix) (next : Process) → at state.processes slot ≡ Some process → at (with_process state mover next).processes slot ≡ Some process
  past-mover state next e = at-with_at-other state.processes mover slot (Some next) other ∙ e

  lasts-past : (state : Unix) (next : Process) → at state.processes slot ≡ Some process → Kept state → Lasts unix (with_process state mover next) slot process
  lasts-past state next e kept = lasts (with_process state mover next) (past-mover state next e) kept

  -- the descriptions stay, or change at one number
  kept-same : (state : Unix) → state.files.descriptions ≡ unix.files.descriptions → Kept state
  kept-same state e number n held names is = (held.offset, ap (λ (descriptions : ℕ → Option Description). at descriptions n) e ∙ is)

  kept-released : (next : Process) (description : ℕ) → Kept (with_description_released (with_process unix mover next) description)
  kept-released next description number n held names is =
      let state : Unix = with_process unix mover next in
      let named : has_descriptor state.processes n ≡ true =
      passes-any (λ s. process_names n (at state.processes s)) slot_count slot inside (ap (process_names n) (past-mover unix next there) ∙ list-names process.descriptors number n names) in
      (held.offset, released-keeps state description n named ∙ is)

  closed-there : (mine : Process) (number : ℕ) (found : Option ℕ) → at (with_descriptor_closed unix mover mine number found).processes slot ≡ Some process
  closed-there mine number None = there
  closed-there mine number (Some description) =
      ap (λ (processes : ℕ → Option Process). at processes slot) (released-processes (with_process unix mover (without_descriptor mine number)) description) ∙ past-mover unix (without_descriptor mine number) there

  closed-kept : (mine : Process) (number : ℕ) (found : Option ℕ) → Kept (with_descriptor_closed unix mover mine number found)
  closed-kept mine number None = kept-same unix refl
  closed-kept mine number (Some description) = kept-released (without_descriptor mine number) description

  kept-files : (files : Files) → ((n : ℕ) → Keeps unix.files.descriptions files.descriptions n) → Kept (with_files unix files)
  kept-files files keeps number n held names is = keeps n held is

  -- files whose descriptions are those of others
  lasts-files : (files : Files) (next : Process) → ((n : ℕ) → Keeps unix.files.descriptions files.descriptions n) → Lasts unix (with_process (with_files unix files) mover next) slot process
  lasts-files files next keeps = lasts-past (with_files unix files) next there (kept-files files keeps)

  lasts-same : (files : Files) (next : Process) → files.descriptions ≡ unix.files.descriptions → Lasts unix (with_process (with_files unix files) mover next) slot process
  lasts-same files next e = lasts-files files next (λ n. keeps-same unix.files.descriptions files.descriptions n (ap (λ (descriptions : ℕ → Option Description). at descriptions n) e))

  -- a child goes into a free slot, and a child that ended frees one
  forked-there : (place : ℕ) (mine : Process) → free_slot unix.processes ≡ Some place → at (forked unix place mine).processes slot ≡ Some process
  unfolding free_slot
  forked-there place mine free =
      let least : Passes (λ s. is_none (at unix.processes s)) slot_count place = least-passes (λ s. is_none (at unix.processes s)) slot_count place free in
      let empty : at unix.processes place ≡ None = none-is (at unix.processes place) least.holds in
      at-with_at-other unix.processes place slot (Some (child unix.next_pid mine)) (λ same. some-differ process (sym empty ∙ ap (at unix.processes) (sym same) ∙ there)) ∙ there

  reaped-there : (parent wanted : ℕ) (ended : EndedChild) (goes : phase_word process.phase ≡ None) → least_ended unix.processes parent wanted slot_count ≡ Some ended
      → at (without_process unix ended.slot).processes slot ≡ Some process
  reaped-there parent wanted ended goes least =
      let is : IsEndedChild unix.processes parent ended = least-ended-is unix.processes parent wanted slot_count ended least in
      at-with_at-other unix.processes ended.slot slot None (λ same. some-differ ended.word
      (sym goes ∙ ap phase_word (ap (λ (p : Process). p.phase) (some-same process is.process (sym there ∙ ap (at unix.processes) same ∙ is.there))) ∙ is.word)) ∙ there

  -- a signal ends it, or another one
  killed-lasts : (target signal : ℕ) (next : Process) (found : Option Process) → at unix.processes target ≡ found → Lasts unix (with_process (with_killed unix target signal found) mover next) slot process
  killed-lasts target signal next None is = lasts-past unix next there (kept-same unix refl)
  killed-lasts target signal next (Some held) is = elim (cases_Bool (is_ending held.phase)) as (λ _. Lasts unix (with_process (with_killed unix target signal (Some held)) mover next) slot process) [
    | inl ending ↦ rw ending (lasts-past unix next there (kept-same unix refl))
    | inr goes ↦ rw goes (elim (eqb_tells slot target) as (λ _. Lasts unix (with_process (with_phase unix target held (Exiting signal)) mover next) slot process) [
      | inl same ↦
          let one : held ≡ process = some-same held process (sym is ∙ ap (at unix.processes) (sym same.1) ∙ there) in
          record {
            parent = process.parent;
            phase = Exiting signal;
            there = at-with_at-other (with_at unix.processes target (Some (in_phase held (Exiting signal)))) mover slot (Some next) other
                ∙ ap (at (with_at unix.processes target (Some (in_phase held (Exiting signal))))) same.1 ∙ at-with_at unix.processes target (Some (in_phase held (Exiting signal)))
                ∙ ap (λ (p : Process). Some (in_phase p (Exiting signal))) one;
            stays = inr (signal, refl);
            descriptions = kept-same unix refl;
          }
      | inr differ ↦
          lasts-past (with_phase unix target held (Exiting signal)) next (at-with_at-other unix.processes target slot (Some (in_phase held (Exiting signal))) differ.1 ∙ there) (kept-same (with_phase unix target held (Exiting signal)) refl)
    ])
  ]

  -- descriptions that are put where none was
  opened-keeps : (files : Files) (number : ℕ) (new : Description) → files.descriptions ≡ unix.files.descriptions → free_description unix.files.descriptions ≡ Some number → (n : ℕ)
      → Keeps unix.files.descriptions (with_description files number new).descriptions n
  unfolding free_description
  opened-keeps files number new e free n =
      let least : Passes (λ k. is_none (at unix.files.descriptions k)) description_count number = least-passes (λ k. is_none (at unix.files.descriptions k)) description_count number free in
      subst (λ (descriptions : ℕ → Option Description). Keeps unix.files.descriptions (with_at descriptions number (Some new)) n) (sym e)
      (keeps-new unix.files.descriptions number new n (none-is (at unix.files.descriptions number) least.holds))

  pipe-keeps : (reader writer : ℕ) (first second : Description) → free_description unix.files.descriptions ≡ Some reader → next_description unix.files.descriptions reader ≡ Some writer → (n : ℕ)
      → Keeps unix.files.descriptions (with_at (with_at unix.files.descriptions reader (Some first)) writer (Some second)) n
  unfolding free_description next_description
  pipe-keeps reader writer first second free next n =
      let least : Passes (λ k. is_none (at unix.files.descriptions k)) description_count reader = least-passes (λ k. is_none (at unix.files.descriptions k)) description_count reader free in
      let after : Passes (λ k. not (k == reader) && is_none (at unix.files.descriptions k)) description_count writer = least-passes (λ k. not (k == reader) && is_none (at unix.files.descriptions k)) description_count writer next in
      let both : (not (writer == reader) ≡ true) × (is_none (at unix.files.descriptions writer) ≡ true) = and-both (not (writer == reader)) (is_none (at unix.files.descriptions writer)) after.holds in
      keeps-trans unix.files.descriptions (with_at unix.files.descriptions reader (Some first)) (with_at (with_at unix.files.descriptions reader (Some first)) writer (Some second)) n
      (keeps-new unix.files.descriptions reader first n (none-is (at unix.files.descriptions reader) least.holds))
      (keeps-new (with_at unix.files.descriptions reader (Some first)) writer second n (at-with_at-other unix.files.descriptions reader writer (Some first) (not-apart writer reader both.0) ∙ none-is (at unix.files.descriptions writer) both.1))

  offset-keeps : (mine : Process) (number offset : ℕ) (file : Opened) → opened unix mine number ≡ Some file → (n : ℕ) → Keeps unix.files.descriptions (with_offset unix.files file offset).descriptions n
  offset-keeps mine number offset file held n = keeps-offset unix.files.descriptions file.number offset file.description n (opened-is unix mine number file held).there

  truncated-descriptions : (flags number : ℕ) → (with_truncated unix flags number).files.descriptions ≡ unix.files.descriptions
  truncated-descriptions flags number = elim (cases_Bool (has_flag flags 64)) as (λ _. (with_truncated unix flags number).files.descriptions ≡ unix.files.descriptions) [
    | inl cuts ↦ rw cuts refl
    | inr keeps ↦ rw keeps refl
  ]

  truncated-there : (flags number : ℕ) → at (with_truncated unix flags number).processes slot ≡ Some process
  truncated-there flags number = elim (cases_Bool (has_flag flags 64)) as (λ _. at (with_truncated unix flags number).processes slot ≡ Some process) [
    | inl cuts ↦ rw cuts there
    | inr keeps ↦ rw keeps there
  ]

  opening-lasts : (flags number : ℕ) (spot : Spot) (new : ToOpen) (next : Process) → free_description unix.files.descriptions ≡ Some number → Opening unix flags spot new
      → Lasts unix (with_process (with_opened new.state number (opening flags new.inode)) mover next) slot process
  opening-lasts flags number spot new next free (finds found is reads) =
      lasts-past (with_opened (with_truncated unix flags found) number (opening flags found)) next (truncated-there flags found)
      (λ d n held names e. opened-keeps (with_truncated unix flags found).files number (opening flags found) (truncated-descriptions flags found) free n held e)
  opening-lasts flags number spot new next free (creates given is making_so) =
      lasts-past (with_opened (with_made unix spot given (File [])) number (opening flags given)) next there
      (λ d n held names e. opened-keeps (with_made unix spot given (File [])).files number (opening flags given) refl free n held e)

  renaming-descriptions : (from to : Spot) (named : ℕ) (files : Files) → Renaming unix from to named files → files.descriptions ≡ unix.files.descriptions
  renaming-descriptions from to named files (onto given is first second third) =
      let placed : Files = with_name_moved unix.files to.directory to.name named in
      dropped-descriptions (moved placed from to named) given ∙ moved-descriptions placed from to named
  renaming-descriptions from to named files (anew is place room) = moved-descriptions (with_link unix to named).files from to named

  change-lasts : {sent : SentCall} (mine : Process) (goes : phase_word process.phase ≡ None) (state : Unix) → Changes unix mover mine sent state → Lasts unix state slot process
  change-lasts mine goes state (settles phase answer) = lasts-past unix (in_phase mine phase) there (kept-same unix refl)
  change-lasts mine goes state (exits word) = lasts-past unix (in_phase mine (Exiting word)) there (kept-same unix refl)
  change-lasts mine goes state (forks place free pid room) = lasts-past (forked unix place mine) (in_phase mine (answered unix.next_pid)) (forked-there place mine free) (kept-same (forked unix place mine) refl)
  change-lasts mine goes state (loads inode file plan held planned room) = lasts-past unix (with_program mine file plan _) there (kept-same unix refl)
  change-lasts mine goes state (reaps wanted ended phase least answer) =
      lasts-past (without_process unix ended.slot) (in_phase mine phase) (reaped-there mine.pid wanted ended goes least) (kept-same (without_process unix ended.slot) refl)
  change-lasts mine goes state (kills pid target signal given_so is differ) = killed-lasts target signal (in_phase mine (answered 0)) (at unix.processes target) refl
  change-lasts mine goes state (dups number lowest file held low) = lasts-past unix (in_phase (with_descriptor mine lowest file.number) (answered lowest)) there (kept-same unix refl)
  change-lasts mine goes state (closes number) =
      lasts-past (with_descriptor_closed unix mover mine number (descriptor mine number)) (in_phase (without_descriptor mine number) (answered 0)) (closed-there mine number (descriptor mine number)) (closed-kept mine number (descriptor mine number))
  change-lasts mine goes state (dups_to number to file held differ) =
      lasts-past (with_descriptor_closed unix mover mine to (descriptor mine to)) (in_phase (with_descriptor mine to file.number) (answered to)) (closed-there mine to (descriptor mine to)) (closed-kept mine to (descriptor mine to))
  change-lasts mine goes state (pipes first second reader writer number phase low next free free2 free_i room answer) =
      lasts-files (with_pipe unix number reader writer).files (in_phase (with_descriptors mine first reader second writer) phase) (pipe-keeps reader writer (pipe_end number false) (pipe_end number true) free free2)
  change-lasts mine goes state (reads_file number count file bytes phase held is answer) = lasts-files (with_offset unix.files file _) (in_phase mine phase) (offset-keeps mine number _ file held)
  change-lasts mine goes state (seeks number place file held stream aligned below) = lasts-files (with_offset unix.files file place) (in_phase mine (answered place)) (offset-keeps mine number place file held)
  change-lasts mine goes state (lists number count file phase held directory answer) = lasts-files (with_offset unix.files file _) (in_phase mine phase) (offset-keeps mine number _ file held)
  change-lasts mine goes state (takes_pipe number count file bytes phase held is answer) = lasts-same (with_contents unix.files file (Pipe (drop count bytes))) (in_phase mine phase) refl
  change-lasts mine goes state (puts_pipe number file bytes written given_so held is few) = lasts-same (with_contents unix.files file (Pipe (bytes ++ written))) (in_phase mine (answered (length written))) refl
  change-lasts mine goes state (writes_file number place file bytes written given_so held is below room) =
      lasts-files (with_written unix file bytes place (take (most_file_bytes - place) written)).files (in_phase mine (answered (length (take (most_file_bytes - place) written)))) (offset-keeps mine number _ file held)
  change-lasts mine goes state (resizes number size file bytes held is few room) = lasts-same (with_resized unix file bytes size).files (in_phase mine (answered 0)) refl
  change-lasts mine goes state (opens path flags number lowest spot new low free walk opening_so) = opening-lasts flags number spot new (in_phase (with_descriptor mine lowest number) (answered lowest)) free opening_so
  change-lasts mine goes state (makes_directory path spot number walk free making_so) = lasts-same (with_made unix spot number (Directory spot.directory [])).files (in_phase mine (answered 0)) refl
  change-lasts mine goes state (removes_directory path spot gone walk root dots is directory names) =
      lasts-same (removed unix.files spot gone) (in_phase mine (answered 0)) (dropped-descriptions (without_name unix.files spot.directory spot.name) gone)
  change-lasts mine goes state (unlinks path spot gone walk is file) =
      lasts-same (removed unix.files spot gone) (in_phase mine (answered 0)) (dropped-descriptions (without_name unix.files spot.directory spot.name) gone)
  change-lasts mine goes state (links old new from to linked walk is file walk2 free place room) = lasts-same (with_link unix to linked).files (in_phase mine (answered 0)) refl
  change-lasts mine goes state (renames old new from to named files walk root dots is walk2 root2 dots2 differ within renaming_so) =
      lasts-same files (in_phase mine (answered 0)) (renaming-descriptions from to named files renaming_so)

  orphans-last : (ended : ℕ) (state : Unix) → at state.processes slot ≡ Some process → Kept state → Lasts unix (with_orphans_adopted ended state) slot process
  unfolding at
  orphans-last ended state is kept = elim (cases_Bool (process.parent == ended)) as (λ _. Lasts unix (with_orphans_adopted ended state) slot process) [
    | inl orphan ↦ record { parent = 1; phase = process.phase; there = ap (option_map (adopted ended)) is ∙ adopted-orphan ended process orphan; stays = inl refl; descriptions = kept }
    | inr child_of ↦ record { parent = process.parent; phase = process.phase; there = ap (option_map (adopted ended)) is ∙ adopted-other ended process child_of; stays = inl refl; descriptions = kept }
  ]

  turn-lasts : (goes : phase_word process.phase ≡ None) (state : Unix) → TurnChanges unix mover state → Lasts unix state slot process
  turn-lasts goes state idles = lasts unix there (kept-same unix refl)
  turn-lasts goes state (runs mine is phase) = lasts-past unix (ran mine) there (kept-same unix refl)
  turn-lasts goes state (enters mine next is phase entering) = lasts-past unix next there (kept-same unix refl)
  turn-lasts goes state (effects mine sent next is phase changes) = change-lasts mine goes state changes
  turn-lasts goes state (returns mine value address bytes is phase) = lasts-past unix (returned mine value address bytes) there (kept-same unix refl)
  turn-lasts goes state (drops mine word lowest is phase low) =
      lasts (with_descriptor_closed unix mover mine lowest (descriptor mine lowest)) (closed-there mine lowest (descriptor mine lowest)) (closed-kept mine lowest (descriptor mine lowest))
  turn-lasts goes state (ends mine word is phase low) = orphans-last mine.pid (with_process unix mover (zombie mine word)) (past-mover unix (zombie mine word) there) (kept-same (with_process unix mover (zombie mine word)) refl)

ticked-lasts : (unix state : Unix) (slot : ℕ) (process : Process) → Lasts unix state slot process → Lasts unix (ticked state) slot process
ticked-lasts unix state slot process l = record { parent = l.parent; phase = l.phase; there = l.there; stays = l.stays; descriptions = l.descriptions }

pub sent_lasts : SentLasts
sent_lasts calls unix slot turn process sent input slots there is apart =
    after-turn (λ state. Lasts unix state slot process) calls unix turn input
    (λ state changes. ticked-lasts unix state slot process (turn-lasts unix turn slot process slots there apart (ap phase_word is) state changes))
