-- A description stays there exactly where a descriptor names it.
use Rattle.std.proofs.Common.{◌≡◌, ◌≢◌, ◌⊎◌, ℕ, ◌<◌, ◌≤◌, true, false, List, length, Option, Some, None, arith, refl, sym, subst, ap, ◌∙◌, inl, inr, get_or}
use Rattle.std.proofs.lemmas.Bool.{cases_Bool, cases_lt}
use Rattle.std.proofs.lemmas.Bool.Decides.{eqb_tells}
use Rattle.std.proofs.lemmas.List.{get_or-replicate, get_or-set_other, get_or-set_same, get_or_past, get_or_read_under, length-replicate}
use Rattle.std.proofs.Math.ListN.{length-set}
use Rattle.std.proofs.lemmas.List.Folds.{Any-from_list_any}
use Rattle.std.specs.List.{Any}
use Rattle.std.specs.Prelude.{IsSome, ◌==◌, is_some, option_map, replicate, slice_set}
use Rattle.unix_model.specs.Files.{Description, with_description_freed}
use Rattle.unix_model.specs.Limits.{descriptor_count, slot_count}
use Rattle.unix_model.specs.Process.{Process, Exiting, descriptor, in_phase, without_descriptor}
use Rattle.unix_model.specs.ProcessCalls.{EndedChild, child, is_ending, with_killed}
use Rattle.unix_model.specs.Rules.{AreOpen}
use Rattle.unix_model.specs.State.{Unix, adopted, has_descriptor, names_description, process_names, with_description_released, with_descriptor_closed, with_process}
use Rattle.unix_model.specs.Tables.{at, with_at}
use Rattle.unix_model.specs.Turn.{with_orphans_adopted}
use Rattle.unix_model.proofs.TableLaws.{at-with_at, at-with_at-other}
use Rattle.unix_laws.proofs.Basics.{true-false, some-differ, some-same}
use Rattle.unix_laws.proofs.Counting.{Passes, any-passes, passes-any}
use Rattle.unix_laws.proofs.Lasts.{IsEndedChild, dropped-descriptions, freed-keeps, list-names, released-processes}
use Rattle.unix_laws.specs.RuleLaws.{HaveDescriptors}

-- a descriptor of some process that names a description
pub record HasName (processes : ℕ → Option Process) (n : ℕ) : Type 0 where
  pub slot : ℕ
  pub number : ℕ
  pub process : Process
  pub below : slot < slot_count
  pub there : at processes slot ≡ Some process
  pub names : descriptor process number ≡ Some n

names-is : (n : ℕ) (found : Option ℕ) → names_description n found ≡ true → found ≡ Some n
names-is n None e = absurd (cc)
names-is n (Some number) e = elim (eqb_tells number n) as (λ _. Some number ≡ Some n) [
  | inl same ↦ ap (λ k. Some k) same.1
  | inr apart ↦ absurd (true-false (sym e ∙ apart.0))
]

held-name : (processes : ℕ → Option Process) (n slot : ℕ) (held : Option Process) → slot < slot_count → at processes slot ≡ held → process_names n held ≡ true → HasName processes n
held-name processes n slot None below there e = absurd (cc)
held-name processes n slot (Some process) below there e =
    let found : Any (λ (x : Option ℕ). names_description n x ≡ true) process.descriptors = Any-from_list_any (names_description n) process.descriptors e in
    record {
      slot = slot;
      number = found.0;
      process = process;
      below = below;
      there = there;
      names = sym (get_or_read_under process.descriptors found.0 (length process.descriptors) found.1 None (sym found.3) found.2 refl) ∙ names-is n found.1 found.4;
    }

has-name : (processes : ℕ → Option Process) (n : ℕ) → has_descriptor processes n ≡ true → HasName processes n
has-name processes n e =
    let found : (slot : ℕ) × Passes (λ slot. process_names n (at processes slot)) slot_count slot = any-passes (λ slot. process_names n (at processes slot)) slot_count e in
    held-name processes n found.0 (at processes found.0) found.1.below refl found.1.holds

pub name-has : (processes : ℕ → Option Process) (n : ℕ) → HasName processes n → has_descriptor processes n ≡ true
name-has processes n name =
    passes-any (λ slot. process_names n (at processes slot)) slot_count name.slot name.below (ap (process_names n) name.there ∙ list-names name.process.descriptors name.number n name.names)

-- tables after a change of descriptors and descriptions
record Follows (processes after : ℕ → Option Process) (descriptions others : ℕ → Option Description) : Type 0 where
  new_named : (n : ℕ) → IsSome (at others n) → IsSome (at descriptions n) ⊎ HasName after n
  carries : (n : ℕ) → IsSome (at others n) → HasName processes n → HasName after n
  brings : (slot number n : ℕ) (process : Process) → at after slot ≡ Some process → descriptor process number ≡ Some n → IsSome (at others n)

open-after : (processes after : ℕ → Option Process) (descriptions others : ℕ → Option Description) → AreOpen processes descriptions → Follows processes after descriptions others → AreOpen after others
open-after processes after descriptions others opens follows =
    record {
      named = λ n there. name-has after n (from n there (follows.new_named n there));
      there = λ slot number n process is names. follows.brings slot number n process is names;
    }
  where
    from : (n : ℕ) → IsSome (at others n) → IsSome (at descriptions n) ⊎ HasName after n → HasName after n
    from n there (inl old) = follows.carries n there (has-name processes n (opens.named n old))
    from n there (inr new) = new

-- ---- a change of processes alone

abbrev Found : (ℕ → Option Process) → ℕ → List (Option ℕ) → Type 0
Found processes slot descriptors = (process : Process) × (at processes slot ≡ Some process) × (process.descriptors ≡ descriptors)

-- each slot has the descriptors that it had
open-alike : (processes after : ℕ → Option Process) (descriptions : ℕ → Option Description)
    → ((slot : ℕ) (process : Process) → at processes slot ≡ Some process → Found after slot process.descriptors)
    → ((slot : ℕ) (process : Process) → at after slot ≡ Some process → Found processes slot process.descriptors)
    → AreOpen processes descriptions → AreOpen after descriptions
open-alike processes after descriptions forth back opens =
    open-after processes after descriptions descriptions opens
    record {
      new_named = λ n there. inl there;
      carries = λ n there name.
          let now : Found after name.slot name.process.descriptors = forth name.slot name.process name.there in
          record { slot = name.slot; number = name.number; process = now.0; below = name.below; there = now.1; names = ap (λ (l : List (Option ℕ)). get_or l name.number None) now.2 ∙ name.names };
      brings = λ slot number n process is names.
          let before : Found processes slot process.descriptors = back slot process is in
          opens.there slot number n before.0 before.1 (ap (λ (l : List (Option ℕ)). get_or l number None) before.2 ∙ names);
    }

-- one slot gets another process, whose descriptors name what it did and what is there
pub open-put : (processes : ℕ → Option Process) (descriptions : ℕ → Option Description) (slot : ℕ) (current next : Process) → at processes slot ≡ Some current
    → ((number n : ℕ) → descriptor current number ≡ Some n → descriptor next number ≡ Some n)
    → ((number n : ℕ) → descriptor next number ≡ Some n → IsSome (at descriptions n))
    → AreOpen processes descriptions → AreOpen (with_at processes slot (Some next)) descriptions
open-put processes descriptions slot current next here carries brings opens =
    open-after processes (with_at processes slot (Some next)) descriptions descriptions opens
    record {
      new_named = λ n there. inl there;
      carries = λ n there name. elim (eqb_tells name.slot slot) as (λ _. HasName (with_at processes slot (Some next)) n) [
        | inl same ↦
            let one : name.process ≡ current = some-same name.process current (sym name.there ∙ ap (at processes) same.1 ∙ here) in
            record {
              slot = name.slot;
              number = name.number;
              process = next;
              below = name.below;
              there = ap (at (with_at processes slot (Some next))) same.1 ∙ at-with_at processes slot (Some next);
              names = carries name.number n (ap (λ (p : Process). descriptor p name.number) (sym one) ∙ name.names);
            }
        | inr apart ↦
            record { slot = name.slot; number = name.number; process = name.process; below = name.below; there = at-with_at-other processes slot name.slot (Some next) apart.1 ∙ name.there; names = name.names }
      ];
      brings = λ s number n process is names. elim (eqb_tells s slot) as (λ _. IsSome (at descriptions n)) [
        | inl same ↦
            let one : next ≡ process = some-same next process (sym (at-with_at processes slot (Some next)) ∙ ap (at (with_at processes slot (Some next))) (sym same.1) ∙ is) in
            brings number n (ap (λ (p : Process). descriptor p number) one ∙ names)
        | inr apart ↦ opens.there s number n process (sym (at-with_at-other processes slot s (Some next) apart.1) ∙ is) names
      ];
    }

-- descriptions with the same numbers
pub open-numbers : (processes : ℕ → Option Process) (descriptions others : ℕ → Option Description) → ((n : ℕ) → is_some (at others n) ≡ is_some (at descriptions n)) → AreOpen processes descriptions → AreOpen processes others
open-numbers processes descriptions others same opens =
    record { named = λ n there. opens.named n (sym (same n) ∙ there); there = λ slot number n process is names. same n ∙ opens.there slot number n process is names }

-- ---- processes that come and go

pub inside : (processes : ℕ → Option Process) → HaveDescriptors processes → (slot : ℕ) (process : Process) → at processes slot ≡ Some process → slot < slot_count
inside processes slots slot process there = elim (cases_lt slot slot_count) as (λ _. slot < slot_count) [
  | inl below ↦ below
  | inr past ↦ some-differ process (sym (slots.end slot past) ∙ there)
]

pub open-forked : (processes : ℕ → Option Process) (descriptions : ℕ → Option Description) (mover place pid : ℕ) (mine : Process) → at processes mover ≡ Some mine → at processes place ≡ None
    → AreOpen processes descriptions → AreOpen (with_at processes place (Some (child pid mine))) descriptions
open-forked processes descriptions mover place pid mine there free opens =
    open-after processes (with_at processes place (Some (child pid mine))) descriptions descriptions opens
    record {
      new_named = λ n is. inl is;
      carries = λ n is name.
          let apart : name.slot ≢ place = λ same. some-differ name.process (sym free ∙ ap (at processes) (sym same) ∙ name.there) in
          record { slot = name.slot; number = name.number; process = name.process; below = name.below; there = at-with_at-other processes place name.slot (Some (child pid mine)) apart ∙ name.there; names = name.names };
      brings = λ s number n process is names. elim (eqb_tells s place) as (λ _. IsSome (at descriptions n)) [
        | inl same ↦
            let one : child pid mine ≡ process = some-same (child pid mine) process (sym (at-with_at processes place (Some (child pid mine))) ∙ ap (at (with_at processes place (Some (child pid mine)))) (sym same.1) ∙ is) in
            opens.there mover number n mine there (ap (λ (p : Process). descriptor p number) one ∙ names)
        | inr apart ↦ opens.there s number n process (sym (at-with_at-other processes place s (Some (child pid mine)) apart.1) ∙ is) names
      ];
    }

-- a process that has ended has no descriptor
pub closed-all : (number n : ℕ) (descriptors : List (Option ℕ)) → descriptors ≡ replicate descriptor_count None → get_or descriptors number None ≡ Some n → ⊥
closed-all number n descriptors e names = elim (cases_lt number descriptor_count) as (λ _. ⊥) [
  | inl below ↦ some-differ n (sym (get_or-replicate descriptor_count number None None below) ∙ ap (λ (l : List (Option ℕ)). get_or l number None) (sym e) ∙ names)
  | inr past ↦ some-differ n (sym (get_or_past descriptors number None (omega (arith, past, ap length e, length-replicate {A = Option ℕ} descriptor_count None))) ∙ names)
]

pub open-reaped : (processes : ℕ → Option Process) (descriptions : ℕ → Option Description) (parent : ℕ) (ended : EndedChild) → HaveDescriptors processes → IsEndedChild processes parent ended
    → AreOpen processes descriptions → AreOpen (with_at processes ended.slot None) descriptions
open-reaped processes descriptions parent ended slots is opens =
    open-after processes (with_at processes ended.slot None) descriptions descriptions opens
    record {
      new_named = λ n there. inl there;
      carries = λ n there name.
          let apart : name.slot ≢ ended.slot = λ same.
          let one : name.process ≡ is.process = some-same name.process is.process (sym name.there ∙ ap (at processes) same ∙ is.there) in
          closed-all name.number n is.process.descriptors (slots.ended ended.slot ended.word is.process is.there is.word) (ap (λ (p : Process). descriptor p name.number) (sym one) ∙ name.names) in
          record { slot = name.slot; number = name.number; process = name.process; below = name.below; there = at-with_at-other processes ended.slot name.slot None apart ∙ name.there; names = name.names };
      brings = λ s number n process there names. elim (eqb_tells s ended.slot) as (λ _. IsSome (at descriptions n)) [
        | inl same ↦ some-differ process (sym (at-with_at processes ended.slot None) ∙ ap (at (with_at processes ended.slot None)) (sym same.1) ∙ there)
        | inr apart ↦ opens.there s number n process (sym (at-with_at-other processes ended.slot s None apart.1) ∙ there) names
      ];
    }

pub open-killed : (unix : Unix) (target signal : ℕ) (found : Option Process) → at unix.processes target ≡ found → AreOpen unix.processes unix.files.descriptions
    → AreOpen (with_killed unix target signal found).processes (with_killed unix target signal found).files.descriptions
open-killed unix target signal None there opens = opens
open-killed unix target signal (Some held) there opens = elim (cases_Bool (is_ending held.phase)) as (λ _. AreOpen (with_killed unix target signal (Some held)).processes (with_killed unix target signal (Some held)).files.descriptions) [
  | inl ending ↦ rw ending opens
  | inr goes ↦ rw goes (open-put unix.processes unix.files.descriptions target held (in_phase held (Exiting signal)) there (λ number n names. names) (λ number n names. opens.there target number n held there names) opens)
]

pub adopted-descriptors : (ended : ℕ) (process : Process) → (adopted ended process).descriptors ≡ process.descriptors
adopted-descriptors ended process = elim (cases_Bool (process.parent == ended)) as (λ _. (adopted ended process).descriptors ≡ process.descriptors) [
  | inl orphan ↦ rw orphan refl
  | inr other ↦ rw other refl
]

adopted-back : (processes : ℕ → Option Process) (ended slot : ℕ) (held : Option Process) (process : Process) → at processes slot ≡ held → option_map (adopted ended) held ≡ Some process → Found processes slot process.descriptors
adopted-back processes ended slot None process there e = some-differ process e
adopted-back processes ended slot (Some before) process there e =
    (before, there, sym (adopted-descriptors ended before) ∙ ap (λ (p : Process). p.descriptors) (some-same (adopted ended before) process e))

pub open-adopted : (ended : ℕ) (unix : Unix) → AreOpen unix.processes unix.files.descriptions → AreOpen (with_orphans_adopted ended unix).processes (with_orphans_adopted ended unix).files.descriptions
unfolding at
open-adopted ended unix opens =
    open-alike unix.processes (with_orphans_adopted ended unix).processes unix.files.descriptions
    (λ slot process there. (adopted ended process, ap (option_map (adopted ended)) there, adopted-descriptors ended process))
    (λ slot process there. adopted-back unix.processes ended slot (unix.processes slot) process refl there) opens

-- ---- descriptors that are set

cleared : (descriptors : List (Option ℕ)) (k : ℕ) → get_or (slice_set descriptors k None) k None ≡ None
cleared descriptors k = elim (cases_lt k (length descriptors)) as (λ _. get_or (slice_set descriptors k None) k None ≡ None) [
  | inl below ↦ get_or-set_same descriptors k None None below
  | inr past ↦ get_or_past (slice_set descriptors k None) k None (omega (arith, past, length-set descriptors k None))
]

-- a descriptor that is set, and every other one
pub set-reads : (descriptors : List (Option ℕ)) (k number d n : ℕ) → get_or (slice_set descriptors k (Some d)) number None ≡ Some n → ((number ≡ k) × (d ≡ n)) ⊎ ((number ≢ k) × (get_or descriptors number None ≡ Some n))
set-reads descriptors k number d n e = elim (eqb_tells number k) as (λ _. ((number ≡ k) × (d ≡ n)) ⊎ ((number ≢ k) × (get_or descriptors number None ≡ Some n))) [
  | inr apart ↦ inr (apart.1, sym (get_or-set_other descriptors k number (Some d) None apart.1) ∙ e)
  | inl same ↦
      let here : get_or (slice_set descriptors k (Some d)) k None ≡ Some n = ap (λ i. get_or (slice_set descriptors k (Some d)) i None) (sym same.1) ∙ e in
      elim (cases_lt k (length descriptors)) as (λ _. ((number ≡ k) × (d ≡ n)) ⊎ ((number ≢ k) × (get_or descriptors number None ≡ Some n))) [
        | inl below ↦ inl (same.1, some-same d n (sym (get_or-set_same descriptors k (Some d) None below) ∙ here))
        | inr past ↦ some-differ n (sym (get_or_past (slice_set descriptors k (Some d)) k None (omega (arith, past, length-set descriptors k (Some d)))) ∙ here)
      ]
]

pub cleared-reads : (descriptors : List (Option ℕ)) (k number n : ℕ) → get_or (slice_set descriptors k None) number None ≡ Some n → (number ≢ k) × (get_or descriptors number None ≡ Some n)
cleared-reads descriptors k number n e =
    let apart : number ≢ k = λ same. some-differ n (sym (cleared descriptors k) ∙ ap (λ i. get_or (slice_set descriptors k None) i None) (sym same) ∙ e) in
    (apart, sym (get_or-set_other descriptors k number None None apart) ∙ e)

-- ---- a descriptor that is closed

-- the process of a slot where one of its descriptors isn't open any more
pub record IsClosed (state : Unix) (slot : ℕ) (process : Process) (k : ℕ) : Type 0 where
  pub current : Process
  pub there : at state.processes slot ≡ Some current
  pub opens : AreOpen state.processes state.files.descriptions
  pub reads : (number n : ℕ) → descriptor current number ≡ Some n → (number ≢ k) × (descriptor process number ≡ Some n)
  pub keeps : (number n : ℕ) → number ≢ k → descriptor process number ≡ Some n → descriptor current number ≡ Some n

module _ (unix : Unix) (mover : ℕ) (mine : Process) (slots : HaveDescriptors unix.processes) (there : at unix.processes mover ≡ Some mine) (opens : AreOpen unix.processes unix.files.descriptions) where
  module _ (k d : ℕ) (held : descriptor mine k ≡ Some d) where
    abbrev T : Unix
    T = with_process unix mover (without_descriptor mine k)

    to-T : (n : ℕ) → HasName unix.processes n → (n ≡ d) ⊎ HasName T.processes n
    to-T n name = elim (eqb_tells name.slot mover) as (λ _. (n ≡ d) ⊎ HasName T.processes n) [
      | inr apart ↦ inr record { slot = name.slot; number = name.number; process = name.process; below = name.below; there = at-with_at-other unix.processes mover name.slot (Some (without_descriptor mine k)) apart.1 ∙ name.there; names = name.names }
      | inl same ↦
          let one : name.process ≡ mine = some-same name.process mine (sym name.there ∙ ap (at unix.processes) same.1 ∙ there) in
          let names : descriptor mine name.number ≡ Some n = ap (λ (p : Process). descriptor p name.number) (sym one) ∙ name.names in
          elim (eqb_tells name.number k) as (λ _. (n ≡ d) ⊎ HasName T.processes n) [
            | inl here ↦ inl (some-same n d (sym names ∙ ap (descriptor mine) here.1 ∙ held))
            | inr other ↦ inr record {
              slot = name.slot;
              number = name.number;
              process = without_descriptor mine k;
              below = name.below;
              there = ap (at T.processes) same.1 ∙ at-with_at unix.processes mover (Some (without_descriptor mine k));
              names = get_or-set_other mine.descriptors k name.number None None other.1 ∙ names;
            }
          ]
    ]

    from-T : (slot number n : ℕ) (process : Process) → at T.processes slot ≡ Some process → descriptor process number ≡ Some n → IsSome (at unix.files.descriptions n)
    from-T slot number n process is names = elim (eqb_tells slot mover) as (λ _. IsSome (at unix.files.descriptions n)) [
      | inr apart ↦ opens.there slot number n process (sym (at-with_at-other unix.processes mover slot (Some (without_descriptor mine k)) apart.1) ∙ is) names
      | inl same ↦
          let one : without_descriptor mine k ≡ process = some-same (without_descriptor mine k) process (sym (at-with_at unix.processes mover (Some (without_descriptor mine k))) ∙ ap (at T.processes) (sym same.1) ∙ is) in
          let both : (number ≢ k) × (descriptor mine number ≡ Some n) = cleared-reads mine.descriptors k number n (ap (λ (p : Process). descriptor p number) one ∙ names) in
          opens.there mover number n mine there both.1
    ]

    apart-past : (slot : ℕ) → slot_count ≤ slot → slot ≢ mover
    apart-past slot past same = some-differ mine (sym (slots.end slot past) ∙ ap (at unix.processes) same ∙ there)

    in-T : (slot number n : ℕ) (process : Process) → at T.processes slot ≡ Some process → descriptor process number ≡ Some n → HasName T.processes n
    in-T slot number n process is names = elim (cases_lt slot slot_count) as (λ _. HasName T.processes n) [
      | inl below ↦ record { slot = slot; number = number; process = process; below = below; there = is; names = names }
      | inr past ↦ some-differ process (sym (slots.end slot past) ∙ sym (at-with_at-other unix.processes mover slot (Some (without_descriptor mine k)) (apart-past slot past)) ∙ is)
    ]

    not-d : (n : ℕ) → n ≢ d → (n ≡ d) ⊎ HasName T.processes n → HasName T.processes n
    not-d n apart (inl same) = absurd (apart same)
    not-d n apart (inr name) = name

    named-kept : (n : ℕ) → has_descriptor T.processes d ≡ true → (n ≡ d) ⊎ HasName T.processes n → has_descriptor T.processes n ≡ true
    named-kept n kept (inl same) = ap (has_descriptor T.processes) same ∙ kept
    named-kept n kept (inr name) = name-has T.processes n name

    freed-none : (found : Option Description) → at unix.files.descriptions d ≡ found → at (with_description_freed unix.files d found).descriptions d ≡ None
    freed-none None is = is
    freed-none (Some description) is =
        ap (λ (descriptions : ℕ → Option Description). at descriptions d) (dropped-descriptions (record unix.files { descriptions = with_at unix.files.descriptions d None }) description.inode)
        ∙ at-with_at unix.files.descriptions d None

    named-gone : (n : ℕ) → IsSome (at (with_description_freed unix.files d (at unix.files.descriptions d)).descriptions n) → HasName T.processes n
    named-gone n is = elim (eqb_tells n d) as (λ _. HasName T.processes n) [
      | inl same ↦ absurd (true-false (sym is ∙ ap is_some (ap (at (with_description_freed unix.files d (at unix.files.descriptions d)).descriptions) same.1 ∙ freed-none (at unix.files.descriptions d) refl)))
      | inr apart ↦ not-d n apart.1 (to-T n (has-name unix.processes n (opens.named n (ap is_some (sym (freed-keeps unix.files d n (at unix.files.descriptions d) apart.1)) ∙ is))))
    ]

    there-gone : has_descriptor T.processes d ≡ false → (slot number n : ℕ) (process : Process) → at T.processes slot ≡ Some process → descriptor process number ≡ Some n
        → IsSome (at (with_description_freed unix.files d (at unix.files.descriptions d)).descriptions n)
    there-gone gone slot number n process is names =
        let apart : n ≢ d = λ same. true-false (sym (name-has T.processes d (subst (HasName T.processes) same (in-T slot number n process is names))) ∙ gone) in
        ap is_some (freed-keeps unix.files d n (at unix.files.descriptions d) apart) ∙ from-T slot number n process is names

    open-released : AreOpen (with_description_released T d).processes (with_description_released T d).files.descriptions
    open-released = elim (cases_Bool (has_descriptor T.processes d)) as (λ _. AreOpen (with_description_released T d).processes (with_description_released T d).files.descriptions) [
      | inl kept ↦ rw kept record {
        named = λ n is. named-kept n kept (to-T n (has-name unix.processes n (opens.named n is)));
        there = from-T;
      }
      | inr gone ↦ rw gone record {
        named = λ n is. name-has T.processes n (named-gone n is);
        there = λ slot number n process is names. there-gone gone slot number n process is names;
      }
    ]

  -- the state after a descriptor was closed, and its process there
  pub close-open : (k : ℕ) (found : Option ℕ) → descriptor mine k ≡ found → IsClosed (with_descriptor_closed unix mover mine k found) mover mine k
  close-open k None held =
      record {
        current = mine;
        there = there;
        opens = opens;
        reads = λ number n names. ((λ same. some-differ n (sym held ∙ ap (descriptor mine) (sym same) ∙ names)), names);
        keeps = λ number n apart names. names;
      }
  close-open k (Some d) held =
      record {
        current = without_descriptor mine k;
        there = ap (λ (processes : ℕ → Option Process). at processes mover) (released-processes (with_process unix mover (without_descriptor mine k)) d) ∙ at-with_at unix.processes mover (Some (without_descriptor mine k));
        opens = open-released k d held;
        reads = λ number n names. cleared-reads mine.descriptors k number n names;
        keeps = λ number n apart names. get_or-set_other mine.descriptors k number None None apart ∙ names;
      }

module _ (unix : Unix) (mover : ℕ) (mine : Process) (in_slots : mover < slot_count) (size : length mine.descriptors ≡ descriptor_count) (there : at unix.processes mover ≡ Some mine) (opens : AreOpen unix.processes unix.files.descriptions) where
  -- a description is put where none was, with a descriptor of it
  pub open-new : (k d : ℕ) (new : Description) (next : Process) → next.descriptors ≡ slice_set mine.descriptors k (Some d) → k < descriptor_count → descriptor mine k ≡ None → at unix.files.descriptions d ≡ None
      → AreOpen (with_at unix.processes mover (Some next)) (with_at unix.files.descriptions d (Some new))
  open-new k d new next set below closed free =
      open-after unix.processes (with_at unix.processes mover (Some next)) unix.files.descriptions (with_at unix.files.descriptions d (Some new)) opens
      record {
        new_named = λ n is. elim (eqb_tells n d) as (λ _. IsSome (at unix.files.descriptions n) ⊎ HasName (with_at unix.processes mover (Some next)) n) [
          | inl same ↦ inr record {
            slot = mover;
            number = k;
            process = next;
            below = in_slots;
            there = at-with_at unix.processes mover (Some next);
            names = ap (λ (l : List (Option ℕ)). get_or l k None) set ∙ get_or-set_same mine.descriptors k (Some d) None (omega (arith, below, size)) ∙ ap (λ m. Some m) (sym same.1);
          }
          | inr apart ↦ inl (ap is_some (sym (at-with_at-other unix.files.descriptions d n (Some new) apart.1)) ∙ is)
        ];
        carries = λ n is name. elim (eqb_tells name.slot mover) as (λ _. HasName (with_at unix.processes mover (Some next)) n) [
          | inr apart ↦ record { slot = name.slot; number = name.number; process = name.process; below = name.below; there = at-with_at-other unix.processes mover name.slot (Some next) apart.1 ∙ name.there; names = name.names }
          | inl same ↦
              let one : name.process ≡ mine = some-same name.process mine (sym name.there ∙ ap (at unix.processes) same.1 ∙ there) in
              let names : descriptor mine name.number ≡ Some n = ap (λ (p : Process). descriptor p name.number) (sym one) ∙ name.names in
              let apart : name.number ≢ k = λ here. some-differ n (sym closed ∙ ap (descriptor mine) (sym here) ∙ names) in
              record {
                slot = name.slot;
                number = name.number;
                process = next;
                below = name.below;
                there = ap (at (with_at unix.processes mover (Some next))) same.1 ∙ at-with_at unix.processes mover (Some next);
                names = ap (λ (l : List (Option ℕ)). get_or l name.number None) set ∙ get_or-set_other mine.descriptors k name.number (Some d) None apart ∙ names;
              }
        ];
        brings = λ slot number n process is names. elim (eqb_tells slot mover) as (λ _. IsSome (at (with_at unix.files.descriptions d (Some new)) n)) [
          | inr apart ↦ grows n (opens.there slot number n process (sym (at-with_at-other unix.processes mover slot (Some next) apart.1) ∙ is) names)
          | inl same ↦
              let one : next ≡ process = some-same next process (sym (at-with_at unix.processes mover (Some next)) ∙ ap (at (with_at unix.processes mover (Some next))) (sym same.1) ∙ is) in
              brings-own n (set-reads mine.descriptors k number d n (ap (λ (l : List (Option ℕ)). get_or l number None) (sym set) ∙ ap (λ (p : Process). descriptor p number) one ∙ names))
        ];
      }
    where
      grows : (n : ℕ) → IsSome (at unix.files.descriptions n) → IsSome (at (with_at unix.files.descriptions d (Some new)) n)
      grows n is = elim (eqb_tells n d) as (λ _. IsSome (at (with_at unix.files.descriptions d (Some new)) n)) [
        | inl same ↦ ap is_some (ap (at (with_at unix.files.descriptions d (Some new))) same.1 ∙ at-with_at unix.files.descriptions d (Some new))
        | inr apart ↦ ap is_some (at-with_at-other unix.files.descriptions d n (Some new) apart.1) ∙ is
      ]

      brings-own : {number : ℕ} (n : ℕ) → ((number ≡ k) × (d ≡ n)) ⊎ ((number ≢ k) × (get_or mine.descriptors number None ≡ Some n)) → IsSome (at (with_at unix.files.descriptions d (Some new)) n)
      brings-own n (inl here) = ap is_some (ap (at (with_at unix.files.descriptions d (Some new))) (sym here.1) ∙ at-with_at unix.files.descriptions d (Some new))
      brings-own {number} n (inr other) = grows n (opens.there mover number n mine there other.1)
