-- Whether a call that was sent waits lasts through the turns of others, unless they change what it waits for.
use Rattle.std.proofs.Common.{◌≡◌, ◌≢◌, ◌⊎◌, ℕ, zero, suc, ◌-◌, ◌^◌, false, List, length, take, Option, Some, None, Ok, arith, refl, sym, subst, ap, ◌∙◌, inl, inr}
use Rattle.std.proofs.Math.Path.{fun_ext}
use Rattle.std.proofs.lemmas.Bool.{eq-eqb}
use Rattle.std.proofs.lemmas.Bool.Decides.{eqb_tells}
use Rattle.std.specs.Prelude.{◌↔◌, IsSome, option_map, ◌==◌, if◌then◌else◌}
use Rattle.unix_model.specs.declared.calls.Call.{Call}
use Rattle.unix_model.specs.declared.calls.Call.TheVariants as call
use Rattle.unix_model.specs.Calls.{Calls}
use Rattle.unix_model.specs.Effect.{Waits, argument_of}
use Rattle.unix_model.specs.FileCalls.{with_descriptors}
use Rattle.unix_model.specs.Files.{Description, has_reader, has_writer}
use Rattle.unix_model.specs.Limits.{most_file_bytes, slot_count}
use Rattle.unix_model.specs.Process.{Process, SentCall, Phase, Run, Asked, Sent, Done, Exiting, Zombie, answered, descriptor, in_phase, with_descriptor, without_descriptor, zombie}
use Rattle.unix_model.specs.ProcessCalls.{child, ended_in, is_ending, is_waited, least_ended, with_program}
use Rattle.unix_model.specs.Rules.{ArePids, HaveParents, IsUnix}
use Rattle.unix_model.specs.State.{Unix, Opened, adopted, opened, opened_as, opened_at, phase_word, with_descriptor_closed, with_process}
use Rattle.unix_model.specs.Tables.{any_below, at, with_at}
use Rattle.unix_model.specs.Turn.{call_line, ran, returned, ticked, with_orphans_adopted}
use Rattle.unix_model.proofs.TableLaws.{at-with_at}
use Rattle.unix_laws.proofs.Basics.{apart-is, some-differ, some-same, true-false}
use Rattle.unix_laws.proofs.Changes.{Changes, settles, exits, forks, loads, reaps, kills, dups, closes, dups_to, pipes, reads_file, seeks, lists, takes_pipe, puts_pipe, writes_file, resizes, opens, makes_directory, removes_directory, unlinks, links, renames}
use Rattle.unix_laws.proofs.DescriptorsKeep.{slots_have_descriptors}
use Rattle.unix_laws.proofs.Lasts.{released-processes, sent_lasts}
use Rattle.unix_laws.proofs.OtherSlots.{Other, stays, gone, born, killed, adopts, other-now}
use Rattle.unix_laws.proofs.SentKeep.{adopted-phase}
use Rattle.unix_laws.proofs.Tested.{opened-is}
use Rattle.unix_laws.proofs.TurnChanges.{TurnChanges, after-turn, drops, effects, ends, enters, idles, returns, runs}
use Rattle.unix_laws.proofs.WaitsFor.{waits_exactly}
use Rattle.unix_laws.specs.LastingLaws.{Lasts}
use Rattle.unix_laws.specs.WaitingLaws.{ChildWaits, IsWaiting, ReadWaits, WriteWaits}
use Rattle.unix_rules.proofs.Kin.{adopted-parent, adopted-pid, entered-pid, program-pid, ran-pid, returned-pid}
use Rattle.unix_rules.specs.WaitLaws.{SameChildren, SamePipe, Undisturbed, WaitingLasts}

-- ---- the process of the turn

-- the process that goes on in its slot, with its pid and parent; one that has ended stays as it is
record Next (unix : Unix) (mover : ℕ) (found : Option Process) : Type 0 where
  mine : Process
  next : Process
  there : at unix.processes mover ≡ Some mine
  is : found ≡ Some next
  pid : next.pid ≡ mine.pid
  parent : next.parent ≡ mine.parent
  ended : (word : ℕ) → phase_word mine.phase ≡ Some word → next ≡ mine

-- what the slot holds: what it held, or that process
abbrev Now : (unix : Unix) (mover : ℕ) → Option Process → Type 0
Now unix mover found = (found ≡ at unix.processes mover) ⊎ Next unix mover found

module _ (unix : Unix) (mover : ℕ) (parents : HaveParents unix.processes) where
  module _ (mine : Process) (there : at unix.processes mover ≡ Some mine) (goes : phase_word mine.phase ≡ None) where
    put : (processes : ℕ → Option Process) (next : Process) → next.pid ≡ mine.pid → next.parent ≡ mine.parent → Now unix mover (at (with_at processes mover (Some next)) mover)
    put processes next pid parent =
        inr (record { mine = mine; next = next; there = there; is = at-with_at processes mover (Some next); pid = pid; parent = parent; ended = λ word e. some-differ word (sym goes ∙ e) })

    change-now : (sent : SentCall) (state : Unix) → Changes unix mover mine sent state → Now unix mover (at state.processes mover)
    change-now sent state (settles phase answer) = put _ (in_phase mine phase) refl refl
    change-now sent state (exits word) = put _ (in_phase mine (Exiting word)) refl refl
    change-now sent state (forks place free pid room) = put _ (in_phase mine (answered unix.next_pid)) refl refl
    change-now sent state (loads inode file plan held planned room) = put _ (with_program mine file plan _) (program-pid mine file plan _).0 (program-pid mine file plan _).1
    change-now sent state (reaps wanted ended phase least answer) = put _ (in_phase mine phase) refl refl
    change-now sent state (kills pid target signal given_so is differ) = put _ (in_phase mine (answered 0)) refl refl
    change-now sent state (dups number lowest file held low) = put _ (in_phase (with_descriptor mine lowest file.number) (answered lowest)) refl refl
    change-now sent state (closes number) = put _ (in_phase (without_descriptor mine number) (answered 0)) refl refl
    change-now sent state (dups_to number to file held differ) = put _ (in_phase (with_descriptor mine to file.number) (answered to)) refl refl
    change-now sent state (pipes first second reader writer number phase low next free free2 free_i room answer) = put _ (in_phase (with_descriptors mine first reader second writer) phase) refl refl
    change-now sent state (reads_file number count file bytes phase held is answer) = put _ (in_phase mine phase) refl refl
    change-now sent state (seeks number place file held stream aligned below) = put _ (in_phase mine (answered place)) refl refl
    change-now sent state (lists number count file phase held directory answer) = put _ (in_phase mine phase) refl refl
    change-now sent state (takes_pipe number count file bytes phase held is answer) = put _ (in_phase mine phase) refl refl
    change-now sent state (puts_pipe number file bytes written given_so held is few) = put _ (in_phase mine (answered (length written))) refl refl
    change-now sent state (writes_file number place file bytes written given_so held is below room) = put _ (in_phase mine (answered (length (take (most_file_bytes - place) written)))) refl refl
    change-now sent state (resizes number size file bytes held is few room) = put _ (in_phase mine (answered 0)) refl refl
    change-now sent state (opens path flags number lowest spot new low free walk opening_so) = put _ (in_phase (with_descriptor mine lowest number) (answered lowest)) refl refl
    change-now sent state (makes_directory path spot number walk free making_so) = put _ (in_phase mine (answered 0)) refl refl
    change-now sent state (removes_directory path spot gone_inode walk root dots is directory names) = put _ (in_phase mine (answered 0)) refl refl
    change-now sent state (unlinks path spot gone_inode walk is file) = put _ (in_phase mine (answered 0)) refl refl
    change-now sent state (links old new from to linked walk is file walk2 free place room) = put _ (in_phase mine (answered 0)) refl refl
    change-now sent state (renames old new from to named files walk root dots is walk2 root2 dots2 differ within renaming_so) = put _ (in_phase mine (answered 0)) refl refl

    closed-now : (number : ℕ) (found : Option ℕ) → Now unix mover (at (with_descriptor_closed unix mover mine number found).processes mover)
    closed-now number None = inl refl
    closed-now number (Some description) =
        subst (λ (processes : ℕ → Option Process). Now unix mover (at processes mover)) (sym (released-processes (with_process unix mover (without_descriptor mine number)) description))
        (put unix.processes (without_descriptor mine number) refl refl)

    -- a parent is older, so a process isn't its own
    same-parent : (word : ℕ) → ((mine.parent ≡ mine.pid) × ((adopted mine.pid (zombie mine word)).parent ≡ 1)) ⊎ ((mine.parent ≢ mine.pid) × ((adopted mine.pid (zombie mine word)).parent ≡ mine.parent))
        → (adopted mine.pid (zombie mine word)).parent ≡ mine.parent
    same-parent word (inl own) = absurd (omega (arith, own.0, parents.older mover mine there))
    same-parent word (inr other) = other.1

    ended-now : (word : ℕ) → Now unix mover (at (with_orphans_adopted mine.pid (with_process unix mover (zombie mine word))).processes mover)
    unfolding at
    ended-now word =
        inr (record {
          mine = mine;
          next = adopted mine.pid (zombie mine word);
          there = there;
          is = ap (option_map (adopted mine.pid)) (at-with_at unix.processes mover (Some (zombie mine word)));
          pid = adopted-pid mine.pid (zombie mine word);
          parent = same-parent word (adopted-parent mine.pid (zombie mine word));
          ended = λ given e. some-differ given (sym goes ∙ e);
        })

  own-now : (state : Unix) → TurnChanges unix mover state → Now unix mover (at state.processes mover)
  own-now state idles = inl refl
  own-now state (runs mine there phase) = put mine there (ap phase_word phase) unix.processes (ran mine) (ran-pid mine).0 (ran-pid mine).1
  own-now state (enters mine next there phase entering) = put mine there (ap phase_word phase) unix.processes next (entered-pid unix mover mine next entering).0 (entered-pid unix mover mine next entering).1
  own-now state (effects mine sent next there phase changes) = change-now mine there (ap phase_word phase) sent state changes
  own-now state (returns mine value address bytes there phase) =
      put mine there (ap phase_word phase) unix.processes (returned mine value address bytes) (returned-pid mine value address bytes).0 (returned-pid mine value address bytes).1
  own-now state (drops mine word lowest there phase low) = closed-now mine there (ap phase_word phase) lowest (descriptor mine lowest)
  own-now state (ends mine word there phase low) = ended-now mine there (ap phase_word phase) word

-- what each slot holds after a turn
record IsTurned (unix : Unix) (mover : ℕ) (processes : ℕ → Option Process) : Type 0 where
  own : Now unix mover (at processes mover)
  others : (slot : ℕ) → slot ≢ mover → Other unix mover slot (at processes slot)

is-turned : (unix : Unix) (mover : ℕ) (state : Unix) → HaveParents unix.processes → TurnChanges unix mover state → IsTurned unix mover state.processes
is-turned unix mover state parents changes = record { own = own-now unix mover parents state changes; others = λ slot apart. other-now unix mover slot apart state changes }

-- ---- children

-- what a wait reads of a slot is the same
record SameSlot (pid wanted slot : ℕ) (before after : Option Process) : Type 0 where
  waited : is_waited pid wanted after ≡ is_waited pid wanted before
  ended : (if is_waited pid wanted after then ended_in slot after else None) ≡ (if is_waited pid wanted before then ended_in slot before else None)

same-slot : (pid wanted slot : ℕ) (found : Option Process) → SameSlot pid wanted slot found found
same-slot pid wanted slot found = record { waited = refl; ended = refl }

not-waited : (pid wanted : ℕ) (process : Process) → process.parent ≢ pid → is_waited pid wanted (Some process) ≡ false
not-waited pid wanted process apart = rw (apart-is process.parent pid apart) refl

slot-gone : (pid wanted slot : ℕ) (process : Process) → process.parent ≢ pid → SameSlot pid wanted slot (Some process) None
slot-gone pid wanted slot process apart =
    let no : is_waited pid wanted (Some process) ≡ false = not-waited pid wanted process apart in
    record { waited = sym no; ended = rw no refl }

slot-born : (pid wanted slot : ℕ) (process : Process) → process.parent ≢ pid → SameSlot pid wanted slot None (Some process)
slot-born pid wanted slot process apart =
    let no : is_waited pid wanted (Some process) ≡ false = not-waited pid wanted process apart in
    record { waited = no; ended = rw no refl }

slot-both : (pid wanted slot : ℕ) (before after : Process) → after.pid ≡ before.pid → (after.parent ≡ pid → before.parent ≡ pid) → (before.parent ≡ pid → (after.parent ≡ pid) × (phase_word after.phase ≡ phase_word before.phase))
    → SameSlot pid wanted slot (Some before) (Some after)
slot-both pid wanted slot before after same back forth = elim (eqb_tells before.parent pid) as (λ _. SameSlot pid wanted slot (Some before) (Some after)) [
  | inl is ↦
      let both : (after.parent ≡ pid) × (phase_word after.phase ≡ phase_word before.phase) = forth is.1 in
      let first : (after.parent == pid) ≡ (before.parent == pid) = eq-eqb after.parent pid both.0 ∙ sym is.0 in
      let waited : is_waited pid wanted (Some after) ≡ is_waited pid wanted (Some before) = rw (first, same) refl in
      record { waited = waited; ended = rw (waited, same, both.1) refl }
  | inr apart ↦
      let no : is_waited pid wanted (Some before) ≡ false = not-waited pid wanted before apart.1 in
      let none : is_waited pid wanted (Some after) ≡ false = not-waited pid wanted after (λ e. apart.1 (back e)) in
      record { waited = none ∙ sym no; ended = rw (none, no) refl }
]

going-word : (phase : Phase) → is_ending phase ≡ false → phase_word phase ≡ None
going-word Run e = refl
going-word Asked e = refl
going-word (Sent sent) e = refl
going-word (Done value address bytes) e = refl
going-word (Exiting word) e = refl
going-word (Zombie word) e = absurd (true-false e)

module _ (unix after : Unix) (slot mover : ℕ) (process : Process) (there : at unix.processes slot ≡ Some process) (apart : mover ≢ slot) (pids : ArePids unix.processes unix.next_pid) (parents : HaveParents unix.processes)
    (same : SameChildren unix.processes after.processes process.pid) (wanted : ℕ) where
  abbrev pid : ℕ
  pid = process.pid

  -- the process of the turn isn't the one that waits
  mover-apart : (mine : Process) → at unix.processes mover ≡ Some mine → mine.pid ≢ pid
  mover-apart mine is alike = apart (pids.differ mover slot mine process is there alike)

  word-of : (child next : Process) (found : Option ℕ) → phase_word child.phase ≡ found → (phase_word child.phase ≡ None → phase_word next.phase ≡ None) → ((word : ℕ) → phase_word child.phase ≡ Some word → next ≡ child)
      → phase_word next.phase ≡ phase_word child.phase
  word-of child next None e goes ended = goes e ∙ sym e
  word-of child next (Some word) e goes ended = ap (λ (p : Process). phase_word p.phase) (ended word e)

  own-slot : (found : Option Process) → at after.processes mover ≡ found → Now unix mover found → SameSlot pid wanted mover (at unix.processes mover) found
  own-slot found is (inl stays_so) = subst (SameSlot pid wanted mover (at unix.processes mover)) (sym stays_so) (same-slot pid wanted mover (at unix.processes mover))
  own-slot found is (inr n) =
      subst (λ (before : Option Process). SameSlot pid wanted mover before found) (sym n.there)
      (subst (SameSlot pid wanted mover (Some n.mine)) (sym n.is)
      (slot-both pid wanted mover n.mine n.next n.pid (λ e. sym n.parent ∙ e)
      (λ e. (n.parent ∙ e, word-of n.mine n.next (phase_word n.mine.phase) refl (λ goes. same.ended mover n.mine n.next n.there (is ∙ n.is) e goes) n.ended))))

  kept-parent : (mine held : Process) → held.parent ≡ pid → at unix.processes mover ≡ Some mine
      → ((held.parent ≡ mine.pid) × ((adopted mine.pid held).parent ≡ 1)) ⊎ ((held.parent ≢ mine.pid) × ((adopted mine.pid held).parent ≡ held.parent)) → (adopted mine.pid held).parent ≡ pid
  kept-parent mine held e mine_there (inl own) = absurd (mover-apart mine mine_there (sym own.0 ∙ e))
  kept-parent mine held e mine_there (inr other) = other.1 ∙ e

  -- an adopted process
  adopted-slot : (s : ℕ) (mine : Process) → at unix.processes mover ≡ Some mine → (held : Option Process) → at unix.processes s ≡ held → at after.processes s ≡ option_map (adopted mine.pid) held
      → SameSlot pid wanted s held (option_map (adopted mine.pid) held)
  adopted-slot s mine mine_there None was is = same-slot pid wanted s None
  adopted-slot s mine mine_there (Some held) was is =
      slot-both pid wanted s held (adopted mine.pid held) (adopted-pid mine.pid held) (λ e. same.came s held (adopted mine.pid held) was is e)
      (λ e. (kept-parent mine held e mine_there (adopted-parent mine.pid held), ap phase_word (adopted-phase mine.pid held)))

  other-slot : (s : ℕ) (found : Option Process) → at after.processes s ≡ found → Other unix mover s found → SameSlot pid wanted s (at unix.processes s) found
  other-slot s found is stays = same-slot pid wanted s (at unix.processes s)
  other-slot s found is (gone mine ended mine_there ended_is at_slot) =
      subst (λ (before : Option Process). SameSlot pid wanted s before None) (sym (ap (at unix.processes) (sym at_slot) ∙ ended_is.there))
      (slot-gone pid wanted s ended_is.process (λ e. mover-apart mine mine_there (sym ended_is.parent_is ∙ e)))
  other-slot s found is (born mine mine_there free below) =
      subst (λ (before : Option Process). SameSlot pid wanted s before (Some (child unix.next_pid mine))) (sym free) (slot-born pid wanted s (child unix.next_pid mine) (mover-apart mine mine_there))
  other-slot s found is (killed held signal was goes by) =
      subst (λ (before : Option Process). SameSlot pid wanted s before (Some (in_phase held (Exiting signal)))) (sym was)
      (slot-both pid wanted s held (in_phase held (Exiting signal)) refl (λ e. e) (λ e. (e, sym (going-word held.phase goes))))
  other-slot s found is (adopts mine mine_there) = adopted-slot s mine mine_there (at unix.processes s) refl is

  each-slot : IsTurned unix mover after.processes → (s : ℕ) → SameSlot pid wanted s (at unix.processes s) (at after.processes s)
  each-slot changes s = elim (eqb_tells s mover) as (λ _. SameSlot pid wanted s (at unix.processes s) (at after.processes s)) [
    | inl alike ↦ subst (λ k. SameSlot pid wanted k (at unix.processes k) (at after.processes k)) (sym alike.1) (own-slot (at after.processes mover) refl changes.own)
    | inr other ↦ other-slot s (at after.processes s) refl (changes.others s other.1)
  ]

  same-any : IsTurned unix mover after.processes → any_below (λ s. is_waited pid wanted (at after.processes s)) slot_count ≡ any_below (λ s. is_waited pid wanted (at unix.processes s)) slot_count
  same-any changes = ap (λ test. any_below test slot_count) (fun_ext (λ s. (each-slot changes s).waited))

  same-least : IsTurned unix mover after.processes → (limit : ℕ) → least_ended after.processes pid wanted limit ≡ least_ended unix.processes pid wanted limit
  unfolding least_ended
  same-least changes zero = refl
  same-least changes (suc last) = rw (same-least changes last, (each-slot changes last).ended) refl

-- ---- descriptors

opened-from : (unix : Unix) (process : Process) (number n : ℕ) (held : Description) → descriptor process number ≡ Some n → at unix.files.descriptions n ≡ Some held → opened unix process number ≡ Some (record { number = n; description = held })
opened-from unix process number n held names there = ap (opened_at unix.files) names ∙ ap (opened_as n) there

-- the same descriptor, before and after
record BothOpen (before after : Unix) (process next : Process) (number : ℕ) : Type 0 where
  file : Opened
  later : Opened
  held : opened before process number ≡ Some file
  now : opened after next number ≡ Some later
  same_inode : later.description.inode ≡ file.description.inode

some-held : (found : Option Description) → IsSome found → (held : Description) × (found ≡ Some held)
some-held None some = absurd (true-false (sym some))
some-held (Some held) some = (held, refl)

module _ (calls : Calls) (unix after : Unix) (slot : ℕ) (process next : Process) (is : IsUnix calls unix) (there : at unix.processes slot ≡ Some process) (lasts : Lasts unix after slot process)
    (there_after : at after.processes slot ≡ Some next) where
  next-is : record process { parent = lasts.parent; phase = lasts.phase } ≡ next
  next-is = some-same (record process { parent = lasts.parent; phase = lasts.phase }) next (sym lasts.there ∙ there_after)

  next-pid : process.pid ≡ next.pid
  next-pid = ap (λ (p : Process). p.pid) next-is

  next-descriptor : (number : ℕ) → descriptor process number ≡ descriptor next number
  next-descriptor number = ap (λ (p : Process). descriptor p number) next-is

  both-open : (number n : ℕ) → descriptor process number ≡ Some n → BothOpen unix after process next number
  both-open number n names =
      let held : (held : Description) × (at unix.files.descriptions n ≡ Some held) = some-held (at unix.files.descriptions n) (is.opens.there slot number n process there names) in
      let stays_so : (offset : ℕ) × (at after.files.descriptions n ≡ Some (record held.0 { offset = offset })) = lasts.descriptions number n held.0 names held.1 in
      record {
        file = record { number = n; description = held.0 };
        later = record { number = n; description = record held.0 { offset = stays_so.0 } };
        held = opened-from unix process number n held.0 names held.1;
        now = opened-from after next number n (record held.0 { offset = stays_so.0 }) (sym (next-descriptor number) ∙ names) stays_so.1;
        same_inode = refl;
      }

  before-open : (number : ℕ) (file : Opened) → opened unix process number ≡ Some file → BothOpen unix after process next number
  before-open number file held = both-open number file.number (opened-is unix process number file held).names

  after-open : (number : ℕ) (file : Opened) → opened after next number ≡ Some file → BothOpen unix after process next number
  after-open number file held = both-open number file.number (next-descriptor number ∙ (opened-is after next number file held).names)

  inode-was : (number : ℕ) (file : Opened) → opened unix process number ≡ Some file → (both : BothOpen unix after process next number) → file.description.inode ≡ both.later.description.inode
  inode-was number file held both = ap (λ (f : Opened). f.description.inode) (some-same file both.file (sym held ∙ both.held)) ∙ sym both.same_inode

  inode-is : (number : ℕ) (file : Opened) → opened after next number ≡ Some file → (both : BothOpen unix after process next number) → file.description.inode ≡ both.file.description.inode
  inode-is number file now both = ap (λ (f : Opened). f.description.inode) (some-same file both.later (sym now ∙ both.now)) ∙ both.same_inode

  module _ (number : ℕ) (same : (file : Opened) → opened unix process number ≡ Some file → SamePipe unix.files after.files file.description.inode) where
    read-after : (count : ℕ) → ReadWaits unix process number count → ReadWaits after next number count
    read-after count w =
        let both : BothOpen unix after process next number = before-open number w.file w.held in
        let inode : w.file.description.inode ≡ both.later.description.inode = inode-was number w.file w.held both in
        let pipe : SamePipe unix.files after.files w.file.description.inode = same w.file w.held in
        record {
          file = both.later;
          held = both.now;
          some_bytes = w.some_bytes;
          empty = ap (at after.files.inodes) (sym inode) ∙ pipe.contents ∙ w.empty;
          writer = ap (has_writer after.files) (sym inode) ∙ pipe.writers ∙ w.writer;
        }

    read-before : (count : ℕ) → ReadWaits after next number count → ReadWaits unix process number count
    read-before count w =
        let both : BothOpen unix after process next number = after-open number w.file w.held in
        let inode : w.file.description.inode ≡ both.file.description.inode = inode-is number w.file w.held both in
        let pipe : SamePipe unix.files after.files both.file.description.inode = same both.file both.held in
        record {
          file = both.file;
          held = both.held;
          some_bytes = w.some_bytes;
          empty = sym pipe.contents ∙ ap (at after.files.inodes) (sym inode) ∙ w.empty;
          writer = sym pipe.writers ∙ ap (has_writer after.files) (sym inode) ∙ w.writer;
        }

    write-after : (written : List ℕ) → WriteWaits unix process number written → WriteWaits after next number written
    write-after written w =
        let both : BothOpen unix after process next number = before-open number w.file w.held in
        let inode : w.file.description.inode ≡ both.later.description.inode = inode-was number w.file w.held both in
        let pipe : SamePipe unix.files after.files w.file.description.inode = same w.file w.held in
        record {
          file = both.later;
          contents = w.contents;
          held = both.now;
          some_bytes = w.some_bytes;
          pipe = ap (at after.files.inodes) (sym inode) ∙ pipe.contents ∙ w.pipe;
          reader = ap (has_reader after.files) (sym inode) ∙ pipe.readers ∙ w.reader;
          full = w.full;
        }

    write-before : (written : List ℕ) → WriteWaits after next number written → WriteWaits unix process number written
    write-before written w =
        let both : BothOpen unix after process next number = after-open number w.file w.held in
        let inode : w.file.description.inode ≡ both.file.description.inode = inode-is number w.file w.held both in
        let pipe : SamePipe unix.files after.files both.file.description.inode = same both.file both.held in
        record {
          file = both.file;
          contents = w.contents;
          held = both.held;
          some_bytes = w.some_bytes;
          pipe = sym pipe.contents ∙ ap (at after.files.inodes) (sym inode) ∙ w.pipe;
          reader = sym pipe.readers ∙ ap (has_reader after.files) (sym inode) ∙ w.reader;
          full = w.full;
        }

  module _ (mover wanted options : ℕ) (apart : mover ≢ slot) (same : SameChildren unix.processes after.processes process.pid) (changes : IsTurned unix mover after.processes) where
    any-is : any_below (λ s. is_waited process.pid wanted (at after.processes s)) slot_count ≡ any_below (λ s. is_waited process.pid wanted (at unix.processes s)) slot_count
    any-is = same-any unix after slot mover process there apart is.pids is.parents same wanted changes

    least-is : least_ended after.processes process.pid wanted slot_count ≡ least_ended unix.processes process.pid wanted slot_count
    least-is = same-least unix after slot mover process there apart is.pids is.parents same wanted changes slot_count

    child-after : ChildWaits unix process wanted options → ChildWaits after next wanted options
    child-after w =
        record {
          some_child = ap (λ n. any_below (λ s. is_waited n wanted (at after.processes s)) slot_count) (sym next-pid) ∙ any-is ∙ w.some_child;
          none_ended = ap (λ n. least_ended after.processes n wanted slot_count) (sym next-pid) ∙ least-is ∙ w.none_ended;
          may_wait = w.may_wait;
        }

    child-before : ChildWaits after next wanted options → ChildWaits unix process wanted options
    child-before w =
        record {
          some_child = sym any-is ∙ ap (λ n. any_below (λ s. is_waited n wanted (at after.processes s)) slot_count) next-pid ∙ w.some_child;
          none_ended = sym least-is ∙ ap (λ n. least_ended after.processes n wanted slot_count) next-pid ∙ w.none_ended;
          may_wait = w.may_wait;
        }

  -- what a call waits for
  module _ (sent : SentCall) (mover : ℕ) (apart : mover ≢ slot) (changes : IsTurned unix mover after.processes) where
    waits-after : (wanted : Call) → Undisturbed unix after process sent wanted → IsWaiting unix process sent wanted ↔ IsWaiting after next sent wanted
    waits-after call.Exit same = (λ w. w, λ w. w)
    waits-after call.Fork same = (λ w. w, λ w. w)
    waits-after call.Exec same = (λ w. w, λ w. w)
    waits-after call.Wait same = (child-after mover (2 ^ 32 - 1) 0 apart same changes, child-before mover (2 ^ 32 - 1) 0 apart same changes)
    waits-after call.Waitpid same = (child-after mover (argument_of sent 0) (argument_of sent 2) apart same changes, child-before mover (argument_of sent 0) (argument_of sent 2) apart same changes)
    waits-after call.Getpid same = (λ w. w, λ w. w)
    waits-after call.Getppid same = (λ w. w, λ w. w)
    waits-after call.Brk same = (λ w. w, λ w. w)
    waits-after call.Open same = (λ w. w, λ w. w)
    waits-after call.Close same = (λ w. w, λ w. w)
    waits-after call.Read same = (read-after (argument_of sent 0) same (argument_of sent 2), read-before (argument_of sent 0) same (argument_of sent 2))
    waits-after call.Write same = (write-after (argument_of sent 0) same sent.bytes, write-before (argument_of sent 0) same sent.bytes)
    waits-after call.Lseek same = (λ w. w, λ w. w)
    waits-after call.Dup same = (λ w. w, λ w. w)
    waits-after call.Dup2 same = (λ w. w, λ w. w)
    waits-after call.Pipe same = (λ w. w, λ w. w)
    waits-after call.Mkdir same = (λ w. w, λ w. w)
    waits-after call.Rmdir same = (λ w. w, λ w. w)
    waits-after call.Unlink same = (λ w. w, λ w. w)
    waits-after call.Link same = (λ w. w, λ w. w)
    waits-after call.Rename same = (λ w. w, λ w. w)
    waits-after call.Fstat same = (λ w. w, λ w. w)
    waits-after call.Getdents same = (λ w. w, λ w. w)
    waits-after call.Ftruncate same = (λ w. w, λ w. w)
    waits-after call.Kill same = (λ w. w, λ w. w)

    lines-wait : (other later : List ℕ) → Undisturbed unix after process sent sent.call
        → (call_line unix slot process other sent sent.call ≡ Ok Waits) ↔ (call_line after slot next later sent sent.call ≡ Ok Waits)
    lines-wait other later same =
        let between : IsWaiting unix process sent sent.call ↔ IsWaiting after next sent sent.call = waits-after sent.call same in
        let first : (call_line unix slot process other sent sent.call ≡ Ok Waits) ↔ IsWaiting unix process sent sent.call = waits_exactly unix slot process sent other in
        let second : (call_line after slot next later sent sent.call ≡ Ok Waits) ↔ IsWaiting after next sent sent.call = waits_exactly after slot next sent later in
        (λ e. second.1 (between.0 (first.0 e)), λ e. first.1 (between.1 (second.0 e)))

-- what is asked of a state after the turn
abbrev Answer : Calls → Unix → ℕ → ℕ → Process → SentCall → Unix → Type 0
Answer calls unix slot turn process sent after =
    (next : Process) (other later : List ℕ) → Lasts unix after slot process → at after.processes slot ≡ Some next → Undisturbed unix after process sent sent.call
    → (call_line unix slot process other sent sent.call ≡ Ok Waits) ↔ (call_line after slot next later sent sent.call ≡ Ok Waits)

pub waiting_lasts : WaitingLasts
waiting_lasts calls unix slot turn process next sent input other later is there sends apart there_after same =
    after-turn (Answer calls unix slot turn process sent) calls unix turn input
    (λ state changes now one two lasts there_now same_now.
    lines-wait calls unix (ticked state) slot process now is there lasts there_now sent turn apart (is-turned unix turn state is.parents changes) one two same_now)
    next other later (sent_lasts calls unix slot turn process sent input (slots_have_descriptors unix.processes is.slots) there sends apart) there_after same
