-- Every turn keeps pids and parents.
use Rattle.std.proofs.Common.{◌≡◌, ◌≢◌, ◌⊎◌, ℕ, ◌+◌, ◌-◌, ◌<◌, ◌≤◌, false, List, length, take, Option, Some, None, arith, refl, sym, subst, ap, ◌∙◌, inl, inr}
use Rattle.std.proofs.lemmas.Bool.{cases_Bool}
use Rattle.std.proofs.lemmas.Bool.Decides.{eqb_tells, nat_tests}
use Rattle.std.specs.Prelude.{IsSome, is_some, nat_le, option_map, ◌==◌}
use Rattle.unix_model.specs.Enter.{has_flag}
use Rattle.unix_model.specs.Limits.{most_file_bytes, pid_end, slot_count}
use Rattle.unix_model.specs.Elf.{LoadPlan}
use Rattle.unix_model.specs.FileCalls.{with_descriptors}
use Rattle.unix_model.specs.NameCalls.{ToOpen, opening, with_opened, with_truncated}
use Rattle.unix_model.specs.Paths.{Spot}
use Rattle.unix_model.specs.Process.{Process, SentCall, Phase, Exiting, answered, descriptor, in_phase, with_descriptor, without_descriptor, zombie}
use Rattle.unix_model.specs.ProcessCalls.{EndedChild, child, forked, is_ending, least_ended, with_killed, with_program}
use Rattle.unix_model.specs.Rules.{Lives}
use Rattle.unix_model.specs.State.{Unix, adopted, free_slot, phase_word, has_descriptor, with_description_released, with_descriptor_closed, with_process, without_process}
use Rattle.unix_model.specs.Tables.{at, with_at}
use Rattle.unix_model.specs.Turn.{ran, returned, with_orphans_adopted}
use Rattle.unix_model.proofs.TableLaws.{at-with_at, at-with_at-other}
use Rattle.unix_laws.proofs.Basics.{apart-of, same-of, some-differ, some-same}
use Rattle.unix_laws.proofs.Changes.{Changes, settles, exits, forks, loads, reaps, kills, dups, closes, dups_to, pipes, reads_file, seeks, lists, takes_pipe, puts_pipe, writes_file, resizes, opens, makes_directory, removes_directory, unlinks, links, renames, Opening, finds, creates}
use Rattle.unix_laws.proofs.DescriptorsKeep.{answer-lives, entered-lives, program-lives, ran-lives, returned-lives}
use Rattle.unix_laws.proofs.Lasts.{IsEndedChild, least-ended-is, released-processes}
use Rattle.unix_laws.proofs.OpenTurns.{free-slot-is}
use Rattle.unix_laws.proofs.SentKeep.{adopted-phase}
use Rattle.unix_laws.proofs.TurnChanges.{Enters, TurnChanges, after-turn, answers, breaks, drops, effects, ends, enters, idles, returns, runs, sends}
use Rattle.unix_rules.proofs.Changed.{apart-by, cut-reads, here, put-reads}
use Rattle.unix_rules.specs.ProcessRules.{AreKin, KinKept}

-- ---- the same processes with the same pids and parents

-- the process that was in a slot
record Heir (before : ℕ → Option Process) (slot : ℕ) (next : Process) : Type 0 where
  process : Process
  there : at before slot ≡ Some process
  pid_is : next.pid ≡ process.pid
  parent_is : next.parent ≡ process.parent

-- the process that is there now, and lives if the one before did
record Follows (after : ℕ → Option Process) (slot : ℕ) (process : Process) : Type 0 where
  next : Process
  there : at after slot ≡ Some next
  pid_is : next.pid ≡ process.pid
  goes : phase_word process.phase ≡ None → phase_word next.phase ≡ None

record Alike (before after : ℕ → Option Process) : Type 0 where
  back : (slot : ℕ) (next : Process) → at after slot ≡ Some next → Heir before slot next
  forth : (slot : ℕ) (process : Process) → at before slot ≡ Some process → Follows after slot process

alike-same : (processes : ℕ → Option Process) → Alike processes processes
alike-same processes =
    record {
      back = λ slot next is. record { process = next; there = is; pid_is = refl; parent_is = refl };
      forth = λ slot process is. record { next = process; there = is; pid_is = refl; goes = λ goes_on. goes_on };
    }

-- a slot of which another process of the same pid and parent goes on
alike-put : (processes : ℕ → Option Process) (mover : ℕ) (current next : Process) → at processes mover ≡ Some current → next.pid ≡ current.pid → next.parent ≡ current.parent → phase_word next.phase ≡ None
    → Alike processes (with_at processes mover (Some next))
alike-put processes mover current next there pid parent goes_on =
    record {
      back = λ slot found is. from slot found (put-reads processes mover slot next found is);
      forth = λ slot process is. elim (eqb_tells slot mover) as (λ _. Follows (with_at processes mover (Some next)) slot process) [
        | inl same ↦
            let one : current ≡ process = some-same current process (sym there ∙ ap (at processes) (sym same.1) ∙ is) in
            record { next = next; there = here processes slot mover (Some next) same.1; pid_is = pid ∙ ap (λ (p : Process). p.pid) one; goes = λ lives. goes_on }
        | inr apart ↦ record { next = process; there = at-with_at-other processes mover slot (Some next) apart.1 ∙ is; pid_is = refl; goes = λ lives. lives }
      ];
    }
  where
    from : (slot : ℕ) (found : Process) → ((slot ≡ mover) × (next ≡ found)) ⊎ ((slot ≢ mover) × (at processes slot ≡ Some found)) → Heir processes slot found
    from slot found (inl own) =
        record { process = current; there = ap (at processes) own.0 ∙ there; pid_is = ap (λ (p : Process). p.pid) (sym own.1) ∙ pid; parent_is = ap (λ (p : Process). p.parent) (sym own.1) ∙ parent }
    from slot found (inr other) = record { process = found; there = other.1; pid_is = refl; parent_is = refl }

module _ (before after : ℕ → Option Process) (next_pid : ℕ) (alike : Alike before after) where
  lives-alike : (pid : ℕ) → Lives before pid → Lives after pid
  lives-alike pid lives =
      let now : Follows after lives.slot lives.process = alike.forth lives.slot lives.process lives.there in
      record { slot = lives.slot; process = now.next; there = now.there; has_pid = now.pid_is ∙ lives.has_pid; goes = now.goes lives.goes }

  there-alike : (found : Option Process) → at before 0 ≡ found → IsSome found → IsSome (at after 0)
  there-alike None is some = absurd (cc)
  there-alike (Some process) is some = ap is_some (alike.forth 0 process is).there

  parent-alike : (parent : ℕ) → (parent ≡ 1) ⊎ Lives before parent → (parent ≡ 1) ⊎ Lives after parent
  parent-alike parent (inl one) = inl one
  parent-alike parent (inr lives) = inr (lives-alike parent lives)

  kin-alike : AreKin before next_pid → AreKin after next_pid
  kin-alike kin =
      record {
        pids = record {
          first = λ process is. let h : Heir before 0 process = alike.back 0 process is in h.pid_is ∙ kin.pids.first h.process h.there;
          there = there-alike (at before 0) refl kin.pids.there;
          least = λ slot process is. let h : Heir before slot process = alike.back slot process is in omega (arith, h.pid_is, kin.pids.least slot h.process h.there);
          most = λ slot process is. let h : Heir before slot process = alike.back slot process is in omega (arith, h.pid_is, kin.pids.most slot h.process h.there);
          differ = λ slot other process second is too same.
              let h : Heir before slot process = alike.back slot process is in
              let k : Heir before other second = alike.back other second too in
              kin.pids.differ slot other h.process k.process h.there k.there (sym h.pid_is ∙ same ∙ k.pid_is);
          limit = kin.pids.limit;
        };
        parents = record {
          first = λ process is. let h : Heir before 0 process = alike.back 0 process is in h.parent_is ∙ kin.parents.first h.process h.there;
          older = λ slot process is. let h : Heir before slot process = alike.back slot process is in omega (arith, h.parent_is, h.pid_is, kin.parents.older slot h.process h.there);
          lives = λ slot process is rest.
              let h : Heir before slot process = alike.back slot process is in
              subst (λ (p : ℕ). (p ≡ 1) ⊎ Lives after p) (sym h.parent_is) (parent-alike h.process.parent (kin.parents.lives slot h.process h.there rest));
        };
      }

-- ---- a child is born

module _ (processes : ℕ → Option Process) (next_pid mover place : ℕ) (mine : Process) (kin : AreKin processes next_pid) (there : at processes mover ≡ Some mine) (goes : phase_word mine.phase ≡ None)
    (free : at processes place ≡ None) (room : nat_le pid_end next_pid ≡ false) where
  abbrev born : Process
  born = child next_pid mine

  abbrev grown : ℕ → Option Process
  grown = with_at processes place (Some born)

  stays-at : (slot : ℕ) (process : Process) → at processes slot ≡ Some process → at grown slot ≡ Some process
  stays-at slot process is = at-with_at-other processes place slot (Some born) (apart-by processes slot place process is free) ∙ is

  lives-grown : (pid : ℕ) → Lives processes pid → Lives grown pid
  lives-grown pid lives = record { slot = lives.slot; process = lives.process; there = stays-at lives.slot lives.process lives.there; has_pid = lives.has_pid; goes = lives.goes }

  abbrev Found : ℕ → Process → Type 0
  Found slot process = ((slot ≡ place) × (born ≡ process)) ⊎ ((slot ≢ place) × (at processes slot ≡ Some process))

  found : (slot : ℕ) (process : Process) → at grown slot ≡ Some process → Found slot process
  found slot process is = put-reads processes place slot born process is

  first-place : (found : Option Process) → at processes 0 ≡ found → IsSome found → 0 ≢ place
  first-place None is some same = absurd (cc)
  first-place (Some process) is some same = some-differ process (sym free ∙ ap (at processes) (sym same) ∙ is)

  not-first : 0 ≢ place
  not-first = first-place (at processes 0) refl kin.pids.there

  first-of : (process : Process) → Found 0 process → at processes 0 ≡ Some process
  first-of process (inl own) = absurd (not-first own.0)
  first-of process (inr other) = other.1

  born-pid : born.pid ≡ next_pid
  born-pid = refl

  born-parent : born.parent ≡ mine.pid
  born-parent = refl

  bounds : (slot : ℕ) (process : Process) → Found slot process → (1 ≤ process.pid) × (process.pid < next_pid + 1) × (process.parent < process.pid)
  bounds slot process (inl own) =
      let pid : process.pid ≡ next_pid = ap (λ (p : Process). p.pid) (sym own.1) ∙ born-pid in
      let parent : process.parent ≡ mine.pid = ap (λ (p : Process). p.parent) (sym own.1) ∙ born-parent in
      let low : 1 ≤ mine.pid = kin.pids.least mover mine there in
      let high : mine.pid < next_pid = kin.pids.most mover mine there in
      (omega arith, omega arith, omega arith)
  bounds slot process (inr other) =
      let low : 1 ≤ process.pid = kin.pids.least slot process other.1 in
      let high : process.pid < next_pid = kin.pids.most slot process other.1 in
      let old : process.parent < process.pid = kin.parents.older slot process other.1 in
      (omega arith, omega arith, omega arith)

  apart-new : (slot : ℕ) (process second : Process) → born ≡ second → at processes slot ≡ Some process → process.pid ≡ second.pid → ⊥
  apart-new slot process second own is same =
      let high : process.pid < next_pid = kin.pids.most slot process is in
      let pid : second.pid ≡ next_pid = ap (λ (p : Process). p.pid) (sym own) ∙ born-pid in
      absurd (omega (arith, high, pid, same))

  differs : (slot other : ℕ) (process second : Process) → Found slot process → Found other second → process.pid ≡ second.pid → slot ≡ other
  differs slot other process second (inl own) (inl too) same = own.0 ∙ sym too.0
  differs slot other process second (inl own) (inr too) same = absurd (apart-new other second process own.1 too.1 (sym same))
  differs slot other process second (inr own) (inl too) same = absurd (apart-new slot process second too.1 own.1 same)
  differs slot other process second (inr own) (inr too) same = kin.pids.differ slot other process second own.1 too.1 same

  more : (parent : ℕ) → (parent ≡ 1) ⊎ Lives processes parent → (parent ≡ 1) ⊎ Lives grown parent
  more parent (inl one) = inl one
  more parent (inr lives) = inr (lives-grown parent lives)

  parents-of : (slot : ℕ) (process : Process) → Found slot process → slot ≢ 0 → (process.parent ≡ 1) ⊎ Lives grown process.parent
  parents-of slot process (inl own) rest =
      let parent : process.parent ≡ mine.pid = ap (λ (p : Process). p.parent) (sym own.1) ∙ born-parent in
      inr record { slot = mover; process = mine; there = stays-at mover mine there; has_pid = sym parent; goes = goes }
  parents-of slot process (inr other) rest = more process.parent (kin.parents.lives slot process other.1 rest)

  some-there : (found : Option Process) → at processes 0 ≡ found → IsSome found → IsSome (at grown 0)
  some-there None is some = absurd (cc)
  some-there (Some process) is some = ap is_some (stays-at 0 process is)

  kin-grown : AreKin grown (next_pid + 1)
  kin-grown =
      record {
        pids = record {
          first = λ process is. kin.pids.first process (first-of process (found 0 process is));
          there = some-there (at processes 0) refl kin.pids.there;
          least = λ slot process is. (bounds slot process (found slot process is)).0;
          most = λ slot process is. (bounds slot process (found slot process is)).1;
          differ = λ slot other process second is too same. differs slot other process second (found slot process is) (found other second too) same;
          limit = limit-more;
        };
        parents = record {
          first = λ process is. kin.parents.first process (first-of process (found 0 process is));
          older = λ slot process is. (bounds slot process (found slot process is)).2;
          lives = λ slot process is rest. parents-of slot process (found slot process is) rest;
        };
      }
    where
      limit-more : next_pid + 1 ≤ pid_end
      limit-more = grind (arith, nat_tests)

-- ---- a child that has ended goes

module _ (processes : ℕ → Option Process) (next_pid parent : ℕ) (gone : EndedChild) (kin : AreKin processes next_pid) (some : 1 ≤ parent) (is_gone : IsEndedChild processes parent gone) where
  abbrev rest : ℕ → Option Process
  rest = with_at processes gone.slot None

  not-root : 0 ≢ gone.slot
  not-root same =
      let none : is_gone.process.parent ≡ 0 = kin.parents.first is_gone.process (ap (at processes) same ∙ is_gone.there) in
      absurd (omega (arith, none, is_gone.parent_is, some))

  left : (slot : ℕ) (process : Process) → at rest slot ≡ Some process → at processes slot ≡ Some process
  left slot process is = (cut-reads processes gone.slot slot process is).1

  lives-rest : (pid : ℕ) → Lives processes pid → Lives rest pid
  lives-rest pid lives =
      let apart : lives.slot ≢ gone.slot = λ same.
      some-differ gone.word (sym lives.goes ∙ ap (λ (p : Process). phase_word p.phase) (some-same lives.process is_gone.process (sym lives.there ∙ ap (at processes) same ∙ is_gone.there)) ∙ is_gone.word) in
      record { slot = lives.slot; process = lives.process; there = at-with_at-other processes gone.slot lives.slot None apart ∙ lives.there; has_pid = lives.has_pid; goes = lives.goes }

  rest-parent : (p : ℕ) → (p ≡ 1) ⊎ Lives processes p → (p ≡ 1) ⊎ Lives rest p
  rest-parent p (inl one) = inl one
  rest-parent p (inr lives) = inr (lives-rest p lives)

  first-there : IsSome (at rest 0)
  first-there = ap is_some (at-with_at-other processes gone.slot 0 None not-root) ∙ kin.pids.there

  kin-rest : AreKin rest next_pid
  kin-rest =
      record {
        pids = record {
          first = λ process is. kin.pids.first process (left 0 process is);
          there = first-there;
          least = λ slot process is. kin.pids.least slot process (left slot process is);
          most = λ slot process is. kin.pids.most slot process (left slot process is);
          differ = λ slot other process second is too same. kin.pids.differ slot other process second (left slot process is) (left other second too) same;
          limit = kin.pids.limit;
        };
        parents = record {
          first = λ process is. kin.parents.first process (left 0 process is);
          older = λ slot process is. kin.parents.older slot process (left slot process is);
          lives = λ slot process is apart. rest-parent process.parent (kin.parents.lives slot process (left slot process is) apart);
        };
      }

-- ---- a process ends, and its children get another parent

-- a process and its parent after an adoption
pub adopted-pid : (ended : ℕ) (process : Process) → (adopted ended process).pid ≡ process.pid
adopted-pid ended process = elim (cases_Bool (process.parent == ended)) as (λ _. (adopted ended process).pid ≡ process.pid) [
  | inl orphan ↦ rw orphan refl
  | inr other ↦ rw other refl
]

pub adopted-parent : (ended : ℕ) (process : Process) → ((process.parent ≡ ended) × ((adopted ended process).parent ≡ 1)) ⊎ ((process.parent ≢ ended) × ((adopted ended process).parent ≡ process.parent))
adopted-parent ended process =
    elim (cases_Bool (process.parent == ended)) as (λ _. ((process.parent ≡ ended) × ((adopted ended process).parent ≡ 1)) ⊎ ((process.parent ≢ ended) × ((adopted ended process).parent ≡ process.parent))) [
      | inl orphan ↦ inl (same-of process.parent ended orphan, rw orphan refl)
      | inr other ↦ inr (apart-of process.parent ended other, rw other refl)
    ]

-- the process before an adoption
record Was (before : ℕ → Option Process) (ended slot : ℕ) (next : Process) : Type 0 where
  process : Process
  there : at before slot ≡ Some process
  next_is : adopted ended process ≡ next

was-of : (before : ℕ → Option Process) (ended slot : ℕ) (found : Option Process) (next : Process) → at before slot ≡ found → option_map (adopted ended) found ≡ Some next → Was before ended slot next
was-of before ended slot None next is e = some-differ next e
was-of before ended slot (Some process) next is e = record { process = process; there = is; next_is = some-same (adopted ended process) next e }

module _ (unix : Unix) (mover word : ℕ) (mine : Process) (kin : AreKin unix.processes unix.next_pid) (there : at unix.processes mover ≡ Some mine) where
  abbrev ended : ℕ
  ended = mine.pid

  abbrev with_zombie : ℕ → Option Process
  with_zombie = with_at unix.processes mover (Some (zombie mine word))

  abbrev after : ℕ → Option Process
  after = (with_orphans_adopted ended (with_process unix mover (zombie mine word))).processes

  -- the same pid and parent in the same slot
  record Old (slot : ℕ) (next : Process) : Type 0 where
    process : Process
    there_is : at unix.processes slot ≡ Some process
    pid_is : next.pid ≡ process.pid
    parent_is : ((process.parent ≡ ended) × (next.parent ≡ 1)) ⊎ ((process.parent ≢ ended) × (next.parent ≡ process.parent))

  old-of : (slot : ℕ) (held next : Process) → ((slot ≡ mover) × (zombie mine word ≡ held)) ⊎ ((slot ≢ mover) × (at unix.processes slot ≡ Some held)) → adopted ended held ≡ next → Old slot next
  old-of slot held next (inl own) e =
      record {
        process = mine;
        there_is = ap (at unix.processes) own.0 ∙ there;
        pid_is = ap (λ (p : Process). p.pid) (sym e) ∙ adopted-pid ended held ∙ ap (λ (p : Process). p.pid) (sym own.1);
        parent_is = subst (λ (p : Process). ((mine.parent ≡ ended) × (p.parent ≡ 1)) ⊎ ((mine.parent ≢ ended) × (p.parent ≡ mine.parent))) (ap (adopted ended) own.1 ∙ e) (adopted-parent ended (zombie mine word));
      }
  old-of slot held next (inr other) e =
      record {
        process = held;
        there_is = other.1;
        pid_is = ap (λ (p : Process). p.pid) (sym e) ∙ adopted-pid ended held;
        parent_is = subst (λ (p : Process). ((held.parent ≡ ended) × (p.parent ≡ 1)) ⊎ ((held.parent ≢ ended) × (p.parent ≡ held.parent))) e (adopted-parent ended held);
      }

  old : (slot : ℕ) (next : Process) → at after slot ≡ Some next → Old slot next
  unfolding at
  old slot next is =
      let was : Was (with_at unix.processes mover (Some (zombie mine word))) ended slot next = was-of (with_at unix.processes mover (Some (zombie mine word))) ended slot (at (with_at unix.processes mover (Some (zombie mine word))) slot) next refl is in
      old-of slot was.process next (put-reads unix.processes mover slot (zombie mine word) was.process was.there) was.next_is

  -- what is there now
  now-other : (slot : ℕ) (process : Process) → slot ≢ mover → at unix.processes slot ≡ Some process → at after slot ≡ Some (adopted ended process)
  unfolding at
  now-other slot process apart is = ap (option_map (adopted ended)) (at-with_at-other unix.processes mover slot (Some (zombie mine word)) apart ∙ is)

  now-own : (slot : ℕ) → slot ≡ mover → at after slot ≡ Some (adopted ended (zombie mine word))
  unfolding at
  now-own slot same = ap (option_map (adopted ended)) (here unix.processes slot mover (Some (zombie mine word)) same)

  first-now : (found : Option Process) → at unix.processes 0 ≡ found → IsSome found → IsSome (at after 0)
  first-now None is some = absurd (cc)
  first-now (Some process) is some = elim (eqb_tells 0 mover) as (λ _. IsSome (at after 0)) [
    | inl same ↦ ap is_some (now-own 0 same.1)
    | inr apart ↦ ap is_some (now-other 0 process apart.1 is)
  ]

  mine-some : 1 ≤ ended
  mine-some = kin.pids.least mover mine there

  first-parent : (next : Process) (o : Old 0 next) → o.process.parent ≡ 0 → ((o.process.parent ≡ ended) × (next.parent ≡ 1)) ⊎ ((o.process.parent ≢ ended) × (next.parent ≡ o.process.parent)) → next.parent ≡ 0
  first-parent next o none (inl orphan) = absurd (omega (arith, none, orphan.0, mine-some))
  first-parent next o none (inr other) = other.1 ∙ none

  older-now : (slot : ℕ) (next : Process) (o : Old slot next) → ((o.process.parent ≡ ended) × (next.parent ≡ 1)) ⊎ ((o.process.parent ≢ ended) × (next.parent ≡ o.process.parent)) → next.parent < next.pid
  older-now slot next o (inl orphan) = omega (arith, o.pid_is, kin.parents.older slot o.process o.there_is, orphan.0, orphan.1, mine-some)
  older-now slot next o (inr other) = omega (arith, o.pid_is, kin.parents.older slot o.process o.there_is, other.1)

  lives-now : (pid : ℕ) → pid ≢ ended → Lives unix.processes pid → Lives after pid
  lives-now pid apart lives =
      let other : lives.slot ≢ mover = λ same. apart (sym lives.has_pid ∙ ap (λ (p : Process). p.pid) (some-same lives.process mine (sym lives.there ∙ ap (at unix.processes) same ∙ there))) in
      record {
        slot = lives.slot;
        process = adopted ended lives.process;
        there = now-other lives.slot lives.process other lives.there;
        has_pid = adopted-pid ended lives.process ∙ lives.has_pid;
        goes = ap phase_word (adopted-phase ended lives.process) ∙ lives.goes;
      }

  keeps-parent : (parent : ℕ) → parent ≢ ended → (parent ≡ 1) ⊎ Lives unix.processes parent → (parent ≡ 1) ⊎ Lives after parent
  keeps-parent parent apart (inl one) = inl one
  keeps-parent parent apart (inr lives) = inr (lives-now parent apart lives)

  parent-now : (slot : ℕ) (next : Process) (o : Old slot next) → slot ≢ 0 → ((o.process.parent ≡ ended) × (next.parent ≡ 1)) ⊎ ((o.process.parent ≢ ended) × (next.parent ≡ o.process.parent)) → (next.parent ≡ 1) ⊎ Lives after next.parent
  parent-now slot next o rest (inl orphan) = inl orphan.1
  parent-now slot next o rest (inr other) =
      subst (λ (p : ℕ). (p ≡ 1) ⊎ Lives after p) (sym other.1) (keeps-parent o.process.parent other.0 (kin.parents.lives slot o.process o.there_is rest))

  kin-ended : AreKin after unix.next_pid
  kin-ended =
      record {
        pids = record {
          first = λ next is. let o : Old 0 next = old 0 next is in o.pid_is ∙ kin.pids.first o.process o.there_is;
          there = first-now (at unix.processes 0) refl kin.pids.there;
          least = λ slot next is. let o : Old slot next = old slot next is in omega (arith, o.pid_is, kin.pids.least slot o.process o.there_is);
          most = λ slot next is. let o : Old slot next = old slot next is in omega (arith, o.pid_is, kin.pids.most slot o.process o.there_is);
          differ = λ slot other next second is too same.
              let o : Old slot next = old slot next is in
              let p : Old other second = old other second too in
              kin.pids.differ slot other o.process p.process o.there_is p.there_is (sym o.pid_is ∙ same ∙ p.pid_is);
          limit = kin.pids.limit;
        };
        parents = record {
          first = λ next is. let o : Old 0 next = old 0 next is in first-parent next o (kin.parents.first o.process o.there_is) o.parent_is;
          older = λ slot next is. let o : Old slot next = old slot next is in older-now slot next o o.parent_is;
          lives = λ slot next is rest. let o : Old slot next = old slot next is in parent-now slot next o rest o.parent_is;
        };
      }

  pub kin-ends : AreKin (with_orphans_adopted mine.pid (with_process unix mover (zombie mine word))).processes unix.next_pid
  kin-ends = kin-ended

-- ---- a turn

abbrev Kin : Unix → Type 0
Kin state = AreKin state.processes state.next_pid

alike-killed : (unix : Unix) (target signal : ℕ) (found : Option Process) → at unix.processes target ≡ found → Alike unix.processes (with_killed unix target signal found).processes
alike-killed unix target signal None is = alike-same unix.processes
alike-killed unix target signal (Some held) is = elim (cases_Bool (is_ending held.phase)) as (λ _. Alike unix.processes (with_killed unix target signal (Some held)).processes) [
  | inl ending ↦ rw ending (alike-same unix.processes)
  | inr goes ↦ rw goes (alike-put unix.processes target held (in_phase held (Exiting signal)) is refl refl refl)
]

killed-pid : (unix : Unix) (target signal : ℕ) (found : Option Process) → (with_killed unix target signal found).next_pid ≡ unix.next_pid
killed-pid unix target signal None = refl
killed-pid unix target signal (Some held) = elim (cases_Bool (is_ending held.phase)) as (λ _. (with_killed unix target signal (Some held)).next_pid ≡ unix.next_pid) [
  | inl ending ↦ rw ending refl
  | inr goes ↦ rw goes refl
]

pub program-pid : (process : Process) (file : List ℕ) (plan : LoadPlan) (strings : List (List ℕ)) → ((with_program process file plan strings).pid ≡ process.pid) × ((with_program process file plan strings).parent ≡ process.parent)
unfolding with_program
program-pid process file plan strings = (refl, refl)

pub ran-pid : (process : Process) → ((ran process).pid ≡ process.pid) × ((ran process).parent ≡ process.parent)
unfolding ran
ran-pid process = (refl, refl)

pub returned-pid : (process : Process) (value address : ℕ) (bytes : List ℕ) → ((returned process value address bytes).pid ≡ process.pid) × ((returned process value address bytes).parent ≡ process.parent)
unfolding returned
returned-pid process value address bytes = (refl, refl)

pub entered-pid : (unix : Unix) (slot : ℕ) (process after : Process) → Enters unix slot process after → (after.pid ≡ process.pid) × (after.parent ≡ process.parent)
entered-pid unix slot process after (answers phase answer) = (refl, refl)
entered-pid unix slot process after (sends sent tested) = (refl, refl)
entered-pid unix slot process after (breaks address above below room) = (refl, refl)

released-pid : (state : Unix) (number : ℕ) → (with_description_released state number).next_pid ≡ state.next_pid
released-pid state number = elim (cases_Bool (has_descriptor state.processes number)) as (λ _. (with_description_released state number).next_pid ≡ state.next_pid) [
  | inl kept ↦ rw kept refl
  | inr gone ↦ rw gone refl
]

-- the process of a slot of which a descriptor was closed
record IsClosed (state : Unix) (mover : ℕ) (mine : Process) : Type 0 where
  current : Process
  there : at state.processes mover ≡ Some current
  pid_is : mine.pid ≡ current.pid
  parent_is : mine.parent ≡ current.parent
  kin : Kin state

module _ (unix : Unix) (mover : ℕ) (kin : Kin unix) where
  put : (state : Unix) (current next : Process) → at state.processes mover ≡ Some current → next.pid ≡ current.pid → next.parent ≡ current.parent → phase_word next.phase ≡ None → Kin state
      → Kin (with_process state mover next)
  put state current next is pid parent goes now =
      kin-alike state.processes (with_at state.processes mover (Some next)) state.next_pid (alike-put state.processes mover current next is pid parent goes) now

  module _ (mine : Process) (there : at unix.processes mover ≡ Some mine) (goes : phase_word mine.phase ≡ None) where
    own : (next : Process) → next.pid ≡ mine.pid → next.parent ≡ mine.parent → phase_word next.phase ≡ None → Kin (with_process unix mover next)
    own next pid parent lives = put unix mine next there pid parent lives kin

    closed : (number : ℕ) (found : Option ℕ) → IsClosed (with_descriptor_closed unix mover mine number found) mover mine
    closed number None = record { current = mine; there = there; pid_is = refl; parent_is = refl; kin = kin }
    closed number (Some description) =
        let state : Unix = with_process unix mover (without_descriptor mine number) in
        record {
          current = without_descriptor mine number;
          there = ap (λ (processes : ℕ → Option Process). at processes mover) (released-processes state description) ∙ at-with_at unix.processes mover (Some (without_descriptor mine number));
          pid_is = refl;
          parent_is = refl;
          kin =
              subst (λ (processes : ℕ → Option Process). AreKin processes (with_description_released state description).next_pid) (sym (released-processes state description))
              (subst (λ (n : ℕ). AreKin state.processes n) (sym (released-pid state description)) (own (without_descriptor mine number) refl refl goes));
        }

    closed-goes : (number : ℕ) (next : Process) → next.pid ≡ mine.pid → next.parent ≡ mine.parent → phase_word next.phase ≡ None
        → Kin (with_process (with_descriptor_closed unix mover mine number (descriptor mine number)) mover next)
    closed-goes number next pid parent lives =
        let c : IsClosed (with_descriptor_closed unix mover mine number (descriptor mine number)) mover mine = closed number (descriptor mine number) in
        put (with_descriptor_closed unix mover mine number (descriptor mine number)) c.current next c.there (pid ∙ c.pid_is) (parent ∙ c.parent_is) lives c.kin

    forked-goes : (place : ℕ) → free_slot unix.processes ≡ Some place → nat_le pid_end unix.next_pid ≡ false → Kin (with_process (forked unix place mine) mover (in_phase mine (answered unix.next_pid)))
    forked-goes place free room =
        let empty : at unix.processes place ≡ None = free-slot-is unix.processes place free in
        put (forked unix place mine) mine (in_phase mine (answered unix.next_pid)) (at-with_at-other unix.processes place mover (Some (child unix.next_pid mine)) (apart-by unix.processes mover place mine there empty) ∙ there)
        refl refl refl (kin-grown unix.processes unix.next_pid mover place mine kin there goes empty room)

    reaped-goes : (wanted : ℕ) (ended : EndedChild) (phase : Phase) → phase_word phase ≡ None → least_ended unix.processes mine.pid wanted slot_count ≡ Some ended
        → Kin (with_process (without_process unix ended.slot) mover (in_phase mine phase))
    reaped-goes wanted ended phase lives least =
        let is : IsEndedChild unix.processes mine.pid ended = least-ended-is unix.processes mine.pid wanted slot_count ended least in
        let apart : mover ≢ ended.slot = λ alike. some-differ ended.word (sym goes ∙ ap (λ (p : Process). phase_word p.phase) (some-same mine is.process (sym there ∙ ap (at unix.processes) alike ∙ is.there)) ∙ is.word) in
        put (without_process unix ended.slot) mine (in_phase mine phase) (at-with_at-other unix.processes ended.slot mover None apart ∙ there) refl refl lives
        (kin-rest unix.processes unix.next_pid mine.pid ended kin (kin.pids.least mover mine there) is)

    killed-own : (target signal : ℕ) (found : Option Process) → target ≢ mover → at (with_killed unix target signal found).processes mover ≡ Some mine
    killed-own target signal None apart = there
    killed-own target signal (Some held) apart = elim (cases_Bool (is_ending held.phase)) as (λ _. at (with_killed unix target signal (Some held)).processes mover ≡ Some mine) [
      | inl ending ↦ rw ending there
      | inr going ↦ rw going (at-with_at-other unix.processes target mover (Some (in_phase held (Exiting signal))) (λ e. apart (sym e)) ∙ there)
    ]

    killed-goes : (target signal : ℕ) → target ≢ mover → Kin (with_process (with_killed unix target signal (at unix.processes target)) mover (in_phase mine (answered 0)))
    killed-goes target signal apart =
        let state : Unix = with_killed unix target signal (at unix.processes target) in
        let now : Kin state =
        subst (λ (n : ℕ). AreKin state.processes n) (sym (killed-pid unix target signal (at unix.processes target)))
        (kin-alike unix.processes state.processes unix.next_pid (alike-killed unix target signal (at unix.processes target) refl) kin) in
        put state mine (in_phase mine (answered 0)) (killed-own target signal (at unix.processes target) apart) refl refl refl now

    opening-goes : (flags number lowest : ℕ) (spot : Spot) (new : ToOpen) → Opening unix flags spot new
        → Kin (with_process (with_opened new.state number (opening flags new.inode)) mover (in_phase (with_descriptor mine lowest number) (answered lowest)))
    opening-goes flags number lowest spot new (finds found is reads) =
        elim (cases_Bool (has_flag flags 64)) as (λ _. Kin (with_process (with_opened (with_truncated unix flags found) number (opening flags found)) mover (in_phase (with_descriptor mine lowest number) (answered lowest)))) [
          | inl cuts ↦ rw cuts (own (in_phase (with_descriptor mine lowest number) (answered lowest)) refl refl refl)
          | inr keeps ↦ rw keeps (own (in_phase (with_descriptor mine lowest number) (answered lowest)) refl refl refl)
        ]
    opening-goes flags number lowest spot new (creates given is making_so) = own (in_phase (with_descriptor mine lowest number) (answered lowest)) refl refl refl

    change-kin : (sent : SentCall) (state : Unix) → Changes unix mover mine sent state → Kin state
    change-kin sent state (settles phase answer) = own (in_phase mine phase) refl refl (answer-lives phase answer)
    change-kin sent state (exits word) = own (in_phase mine (Exiting word)) refl refl refl
    change-kin sent state (forks place free pid room) = forked-goes place free pid
    change-kin sent state (loads inode file plan held planned room) =
        own (with_program mine file plan _) (program-pid mine file plan _).0 (program-pid mine file plan _).1 (program-lives mine file plan _)
    change-kin sent state (reaps wanted ended phase least answer) = reaped-goes wanted ended phase (answer-lives phase answer) least
    change-kin sent state (kills pid target signal given_so is differ) = killed-goes target signal (apart-of target mover differ)
    change-kin sent state (dups number lowest file held low) = own (in_phase (with_descriptor mine lowest file.number) (answered lowest)) refl refl refl
    change-kin sent state (closes number) = closed-goes number (in_phase (without_descriptor mine number) (answered 0)) refl refl refl
    change-kin sent state (dups_to number to file held differ) = closed-goes to (in_phase (with_descriptor mine to file.number) (answered to)) refl refl refl
    change-kin sent state (pipes first second reader writer number phase low next free free2 free_i room answer) =
        own (in_phase (with_descriptors mine first reader second writer) phase) refl refl (answer-lives phase answer)
    change-kin sent state (reads_file number count file bytes phase held is answer) = own (in_phase mine phase) refl refl (answer-lives phase answer)
    change-kin sent state (seeks number place file held stream aligned below) = own (in_phase mine (answered place)) refl refl refl
    change-kin sent state (lists number count file phase held directory answer) = own (in_phase mine phase) refl refl (answer-lives phase answer)
    change-kin sent state (takes_pipe number count file bytes phase held is answer) = own (in_phase mine phase) refl refl (answer-lives phase answer)
    change-kin sent state (puts_pipe number file bytes written given_so held is few) = own (in_phase mine (answered (length written))) refl refl refl
    change-kin sent state (writes_file number place file bytes written given_so held is below room) = own (in_phase mine (answered (length (take (most_file_bytes - place) written)))) refl refl refl
    change-kin sent state (resizes number size file bytes held is few room) = own (in_phase mine (answered 0)) refl refl refl
    change-kin sent state (opens path flags number lowest spot new low free walk opening_so) = opening-goes flags number lowest spot new opening_so
    change-kin sent state (makes_directory path spot number walk free making_so) = own (in_phase mine (answered 0)) refl refl refl
    change-kin sent state (removes_directory path spot gone walk root dots is directory names) = own (in_phase mine (answered 0)) refl refl refl
    change-kin sent state (unlinks path spot gone walk is file) = own (in_phase mine (answered 0)) refl refl refl
    change-kin sent state (links old_path new from to linked walk is file walk2 free place room) = own (in_phase mine (answered 0)) refl refl refl
    change-kin sent state (renames old_path new from to named files walk root dots is walk2 root2 dots2 differ within renaming_so) = own (in_phase mine (answered 0)) refl refl refl

  turn-kin : (state : Unix) → TurnChanges unix mover state → Kin state
  turn-kin state idles = kin
  turn-kin state (runs mine there phase) = own mine there (ap phase_word phase) (ran mine) (ran-pid mine).0 (ran-pid mine).1 (ran-lives mine)
  turn-kin state (enters mine next there phase entering) =
      own mine there (ap phase_word phase) next (entered-pid unix mover mine next entering).0 (entered-pid unix mover mine next entering).1 (entered-lives unix mover mine next entering)
  turn-kin state (effects mine sent next there phase changes) = change-kin mine there (ap phase_word phase) sent state changes
  turn-kin state (returns mine value address bytes there phase) =
      own mine there (ap phase_word phase) (returned mine value address bytes) (returned-pid mine value address bytes).0 (returned-pid mine value address bytes).1 (returned-lives mine value address bytes)
  turn-kin state (drops mine word lowest there phase low) = (closed mine there (ap phase_word phase) lowest (descriptor mine lowest)).kin
  turn-kin state (ends mine word there phase low) = kin-ends unix mover word mine kin there

pub kin_kept : KinKept
kin_kept calls unix slot input kin =
    after-turn (λ state. AreKin state.processes state.next_pid) calls unix slot input (λ state changes. let now : Kin state = turn-kin unix slot kin state changes in record { pids = now.pids; parents = now.parents })
