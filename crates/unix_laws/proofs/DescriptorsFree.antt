-- There are as many descriptions as descriptors of all processes, so one is free wherever a descriptor is closed.
use Rattle.std.proofs.Common.{◌≡◌, ◌≢◌, ℕ, ◌+◌, ◌<◌, ◌≤◌, Bool, true, false, length, Option, Some, None, arith, refl, sym, ap, ◌∙◌, inl, inr, get_or}
use Rattle.std.proofs.lemmas.Bool.{cases_lt}
use Rattle.std.proofs.lemmas.Bool.Decides.{eqb_tells}
use Rattle.std.proofs.lemmas.List.Folds.{Any-from_list_any}
use Rattle.std.proofs.lemmas.List.{get_or_read_under}
use Rattle.std.specs.List.{Any}
use Rattle.std.specs.Prelude.{IsSome, is_none, is_some, not, ◌&&◌, ◌==◌}
use Rattle.unix_model.specs.Files.{next_description, Description, free_description}
use Rattle.unix_model.specs.Limits.{description_count, descriptor_count, slot_count}
use Rattle.unix_model.specs.Process.{Process, descriptor, lowest_closed, next_closed}
use Rattle.unix_model.specs.Rules.{AreOpen}
use Rattle.unix_model.specs.State.{Unix, names_description, process_names}
use Rattle.unix_model.specs.Tables.{at, least_below, sum_below}
use Rattle.unix_model.proofs.CountLaws.{one_if}
use Rattle.unix_model.proofs.RoomLaws.{sum-few, sum-one}
use Rattle.unix_laws.proofs.Basics.{some-differ, and-both, not-apart}
use Rattle.unix_laws.proofs.Counting.{Passes, one-few, any-passes, least-passes, none-passes, sum-all, sum-all-but, sum-less, sum-single, sum-spare, sum-plus, sum-swap, sum-two, sum-zero}
use Rattle.unix_laws.specs.DescriptorLaws.{FreeDescription, TwoFreeDescriptions}
use Rattle.unix_laws.specs.RuleLaws.{HaveDescriptors}

-- a descriptor of what a slot holds
abbrev slot_descriptor : Option Process → ℕ → Option ℕ
slot_descriptor None number = None
slot_descriptor (Some process) number = descriptor process number

-- how many descriptors of a slot name a description, and how many are open
abbrev naming : Option Process → ℕ → ℕ
naming held description = sum_below (λ number. one_if (names_description description (slot_descriptor held number))) descriptor_count

abbrev opened_by : Option Process → ℕ
opened_by held = sum_below (λ number. one_if (is_some (slot_descriptor held number))) descriptor_count

-- a descriptor names one description
names-one : (limit : ℕ) (found : Option ℕ) → sum_below (λ description. one_if (names_description description found)) limit ≤ one_if (is_some found)
names-one limit None = omega (arith, sum-zero limit)
names-one limit (Some number) = sum-single number limit

-- what a process has a descriptor of is counted
named-counts : (description : ℕ) (held : Option Process) → ((process : Process) → held ≡ Some process → length process.descriptors ≡ descriptor_count) → process_names description held ≡ true
    → 1 ≤ naming held description
named-counts description None size names = cc
named-counts description (Some process) size names =
    let found : Any (λ (x : Option ℕ). names_description description x ≡ true) process.descriptors = Any-from_list_any (names_description description) process.descriptors names in
    let read : get_or process.descriptors found.0 None ≡ found.1 = sym (get_or_read_under process.descriptors found.0 (length process.descriptors) found.1 None (sym found.3) found.2 refl) in
    let one : one_if (names_description description (descriptor process found.0)) ≡ 1 = ap (λ x. one_if (names_description description x)) read ∙ ap one_if found.4 in
    let below : found.0 < descriptor_count = omega (arith, found.2, size process refl) in
    omega (arith, one, sum-one (λ number. one_if (names_description description (descriptor process number))) found.0 descriptor_count below)

-- the descriptors of all slots that name a description
abbrev namings : (ℕ → Option Process) → ℕ → ℕ
namings processes description = sum_below (λ slot. naming (at processes slot) description) slot_count

abbrev taken : (ℕ → Option Description) → ℕ
taken descriptions = sum_below (λ number. one_if (is_some (at descriptions number))) description_count

module _ (unix : Unix) (slots : HaveDescriptors unix.processes) (opens : AreOpen unix.processes unix.files.descriptions) where
  taken-named : (number : ℕ) (there : Bool) → is_some (at unix.files.descriptions number) ≡ there → one_if there ≤ namings unix.processes number
  taken-named number true is =
      let named : (slot : ℕ) × Passes (λ slot. process_names number (at unix.processes slot)) slot_count slot = any-passes (λ slot. process_names number (at unix.processes slot)) slot_count (opens.named number is) in
      let counts : 1 ≤ naming (at unix.processes named.0) number = named-counts number (at unix.processes named.0) (λ process there. (slots.each named.0 process there)) named.1.holds in
      omega (arith, counts, sum-one (λ slot. naming (at unix.processes slot) number) named.0 slot_count named.1.below)
  taken-named number false is = omega arith

  -- each slot names no more than it has open
  slot-names : (held : Option Process) → sum_below (λ description. naming held description) description_count ≤ opened_by held
  slot-names held =
      omega (
        arith,
        sum-swap (λ description number. one_if (names_description description (slot_descriptor held number))) description_count descriptor_count,
        sum-less (λ number. sum_below (λ description. one_if (names_description description (slot_descriptor held number))) description_count) (λ number. one_if (is_some (slot_descriptor held number))) descriptor_count
            (λ number below. names-one description_count (slot_descriptor held number)),
      )

  all-taken : taken unix.files.descriptions ≤ sum_below (λ slot. opened_by (at unix.processes slot)) slot_count
  all-taken =
      omega (
        arith,
        sum-less (λ number. one_if (is_some (at unix.files.descriptions number))) (λ number. namings unix.processes number) description_count (λ number below. taken-named number (is_some (at unix.files.descriptions number)) refl),
        sum-swap (λ description slot. naming (at unix.processes slot) description) description_count slot_count,
        sum-less (λ slot. sum_below (λ description. naming (at unix.processes slot) description) description_count) (λ slot. opened_by (at unix.processes slot)) slot_count (λ slot below. slot-names (at unix.processes slot)),
      )

-- how many descriptors are closed
abbrev closed_by : Process → ℕ
closed_by process = sum_below (λ number. one_if (is_none (descriptor process number))) descriptor_count

one-of-two : (test : Bool) → one_if test + one_if (not test) ≡ 1
one-of-two true = refl
one-of-two false = refl

open-or-closed : (process : Process) → opened_by (Some process) + closed_by process ≤ descriptor_count
open-or-closed process =
    omega (
      arith,
      sum-plus (λ number. one_if (is_some (descriptor process number))) (λ number. one_if (is_none (descriptor process number))) descriptor_count,
      sum-few (λ number. one_if (is_some (descriptor process number)) + one_if (is_none (descriptor process number))) 1 descriptor_count (λ number. omega (arith, one-of-two (is_some (descriptor process number)))),
    )

-- as many descriptions are free as descriptors of one process are closed
spared : (unix : Unix) (slot : ℕ) (process : Process) → HaveDescriptors unix.processes → AreOpen unix.processes unix.files.descriptions → at unix.processes slot ≡ Some process
    → taken unix.files.descriptions + closed_by process ≤ description_count
spared unix slot process slots opens there = elim (cases_lt slot slot_count) as (λ _. taken unix.files.descriptions + closed_by process ≤ description_count) [
  | inl below ↦
      omega (
        arith,
        all-taken unix slots opens,
        sum-spare (λ s. opened_by (at unix.processes s)) descriptor_count slot slot_count below (λ s. sum-few (λ number. one_if (is_some (slot_descriptor (at unix.processes s) number))) 1 descriptor_count (λ number. one-few (is_some (slot_descriptor (at unix.processes s) number)))),
        ap opened_by there,
        open-or-closed process,
      )
  | inr past ↦ absurd (some-differ process (sym (slots.end slot past) ∙ there))
]

taken-one : (held : Option Description) → is_none held ≡ false → 1 ≤ one_if (is_some held)
taken-one None e = cc
taken-one (Some description) e = omega arith

free-found : (descriptions : ℕ → Option Description) (found : Option ℕ) → least_below (λ n. is_none (at descriptions n)) description_count ≡ found → taken descriptions + 1 ≤ description_count → IsSome found
free-found descriptions (Some number) e few = refl
free-found descriptions None e few =
    absurd (omega (
      arith,
      few,
      sum-all (λ n. one_if (is_some (at descriptions n))) description_count
          (λ n below. taken-one (at descriptions n) (none-passes (λ n. is_none (at descriptions n)) description_count e n below)),
    ))

taken-other : (number reader : ℕ) (held : Option Description) → number ≢ reader → (not (number == reader) && is_none held) ≡ false → 1 ≤ one_if (is_some held)
taken-other number reader held apart e = elim (eqb_tells number reader) as (λ _. 1 ≤ one_if (is_some held)) [
  | inl same ↦ absurd (apart same.1)
  | inr other ↦ taken-one held (rw (other.0) at e)
]

next-found : (descriptions : ℕ → Option Description) (reader : ℕ) (found : Option ℕ) → least_below (λ n. not (n == reader) && is_none (at descriptions n)) description_count ≡ found
    → taken descriptions + 2 ≤ description_count → IsSome found
next-found descriptions reader (Some number) e few = refl
next-found descriptions reader None e few =
    absurd (omega (
      arith,
      few,
      sum-all-but (λ n. one_if (is_some (at descriptions n))) reader description_count
          (λ n below apart. taken-other n reader (at descriptions n) apart (none-passes (λ n. not (n == reader) && is_none (at descriptions n)) description_count e n below)),
    ))

closed-one : (process : Process) (number : ℕ) → Passes (λ number. is_none (descriptor process number)) descriptor_count number → 1 ≤ closed_by process
closed-one process number closed =
    omega (arith, ap one_if closed.holds, sum-one (λ number. one_if (is_none (descriptor process number))) number descriptor_count closed.below)

pub free_description_exists : FreeDescription
unfolding free_description lowest_closed
free_description_exists unix slot lowest process slots opens there low =
    free-found unix.files.descriptions (least_below (λ n. is_none (at unix.files.descriptions n)) description_count) refl
    (omega (arith, spared unix slot process slots opens there, closed-one process lowest (least-passes (λ number. is_none (descriptor process number)) descriptor_count lowest low)))

pub two_free_descriptions_exist : TwoFreeDescriptions
unfolding next_description lowest_closed next_closed
two_free_descriptions_exist unix slot first second reader process slots opens there low next free =
    let here : Passes (λ number. is_none (descriptor process number)) descriptor_count first = least-passes (λ number. is_none (descriptor process number)) descriptor_count first low in
    let after : Passes (λ number. not (number == first) && is_none (descriptor process number)) descriptor_count second = least-passes (λ number. not (number == first) && is_none (descriptor process number)) descriptor_count second next in
    let both : (not (second == first) ≡ true) × (is_none (descriptor process second) ≡ true) = and-both (not (second == first)) (is_none (descriptor process second)) after.holds in
    next-found unix.files.descriptions reader (least_below (λ n. not (n == reader) && is_none (at unix.files.descriptions n)) description_count) refl
    (omega (arith, spared unix slot process slots opens there, ap one_if here.holds, ap one_if both.1, sum-two (λ number. one_if (is_none (descriptor process number))) second first descriptor_count after.below here.below (not-apart second first both.0)))
