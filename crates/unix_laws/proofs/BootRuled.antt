-- Boot gives rules of a state.
use Rattle.std.proofs.Common.{length, ◌≡◌, ℕ, zero, suc, ◌%◌, true, false, List, ◌∷◌, Option, Some, None, Ok, arith, refl, sym, subst, ap, ◌∙◌, inl, inr, get_or}
use Rattle.std.proofs.lemmas.Bool.Decides.{eqb_tells}
use Rattle.std.proofs.lemmas.Bool.{cases_lt}
use Rattle.std.proofs.lemmas.List.{get_or-replicate, get_or_past, length-replicate}
use Rattle.std.specs.Prelude.{IsSome, is_some, replicate}
use Rattle.unix_model.specs.Boot.{BootEntry, console_description, empty_machine, first_process, started, with_boot_entries, with_init}
use Rattle.unix_model.specs.Calls.{Calls}
use Rattle.unix_model.specs.Elf.{LoadPlan}
use Rattle.unix_model.specs.Files.{Description}
use Rattle.unix_model.specs.Limits.{descriptor_count}
use Rattle.unix_model.specs.Process.{Process, descriptor}
use Rattle.unix_model.specs.Rules.{AreOpen, AreSent, AreSizes}
use Rattle.unix_model.specs.State.{phase_word, Unix, has_descriptor}
use Rattle.unix_model.specs.Tables.{at, nothing, with_at}
use Rattle.unix_model.proofs.TableLaws.{at-with_at, at-with_at-other}
use Rattle.unix_laws.proofs.Basics.{true-false, some-differ, some-same}
use Rattle.unix_laws.proofs.BootSteps.{KeepsEntries, after-boot, entries-tell, init-tells}
use Rattle.unix_laws.proofs.Lines.{tells-of}
use Rattle.unix_laws.proofs.OpenKeep.{name-has}
use Rattle.unix_laws.proofs.Tested.{NoSent}
use Rattle.unix_laws.specs.RuleLaws.{HaveDescriptors, BootRules, BootGivesRules}

-- a machine in which nothing runs yet
pub record Empty (pages quantum : ℕ) (unix : Unix) : Type 0 where
  pub pages_are : unix.pages ≡ pages
  pub quantum_is : unix.quantum ≡ quantum
  pub position_is : unix.position ≡ 0
  pub no_process : unix.processes ≡ nothing
  pub no_description : unix.files.descriptions ≡ nothing

pub empty-at-first : (pages quantum : ℕ) → Empty pages quantum (empty_machine pages quantum)
unfolding empty_machine
empty-at-first pages quantum = record { pages_are = refl; quantum_is = refl; position_is = refl; no_process = refl; no_description = refl }

empty-kept : (pages quantum : ℕ) → KeepsEntries (Empty pages quantum)
empty-kept pages quantum unix path spot node number e short walk new making_so =
    record { pages_are = e.pages_are; quantum_is = e.quantum_is; position_is = e.position_is; no_process = e.no_process; no_description = e.no_description }

nothing-there : {X : Type 0} {P : Type 0} (n : ℕ) (x : X) → at nothing n ≡ Some x → P
unfolding at nothing
nothing-there n x e = some-differ x e

-- the one process, in slot 0
only-first : (unix : Unix) (first process : Process) (slot : ℕ) → unix.processes ≡ nothing → at (with_at unix.processes 0 (Some first)) slot ≡ Some process → (slot ≡ 0) × (first ≡ process)
only-first unix first process slot e is = elim (eqb_tells slot 0) as (λ _. (slot ≡ 0) × (first ≡ process)) [
  | inl same ↦ (same.1, some-same first process (sym (at-with_at unix.processes 0 (Some first)) ∙ ap (at (with_at unix.processes 0 (Some first))) (sym same.1) ∙ is))
  | inr apart ↦ nothing-there slot process (ap (λ (processes : ℕ → Option Process). at processes slot) (sym e) ∙ sym (at-with_at-other unix.processes 0 slot (Some first) apart.1) ∙ is)
]

first-quiet : (file : List ℕ) (plan : LoadPlan) → NoSent (first_process file plan).phase
unfolding first_process
first-quiet file plan = tt

first-names : (file : List ℕ) (plan : LoadPlan) → descriptor (first_process file plan) 0 ≡ Some 0
unfolding first_process
first-names file plan = refl

closed-rest : (number n : ℕ) → get_or (replicate 29 None) number None ≡ Some n → 0 ≡ n
closed-rest number n e = elim (cases_lt number 29) as (λ _. 0 ≡ n) [
  | inl below ↦ some-differ n (sym (get_or-replicate 29 number None None below) ∙ e)
  | inr past ↦ some-differ n (sym (get_or_past (replicate 29 None) number None (omega (arith, past, length-replicate {A = Option ℕ} 29 None))) ∙ e)
]

names-zero : (number n : ℕ) → get_or (Some 0 ∷ Some 0 ∷ Some 0 ∷ replicate 29 None) number None ≡ Some n → 0 ≡ n
names-zero zero n e = some-same 0 n e
names-zero (suc zero) n e = some-same 0 n e
names-zero (suc (suc zero)) n e = some-same 0 n e
names-zero (suc (suc (suc number))) n e = closed-rest number n e

first-names-zero : (file : List ℕ) (plan : LoadPlan) (number n : ℕ) → descriptor (first_process file plan) number ≡ Some n → 0 ≡ n
unfolding first_process
first-names-zero file plan number n e = names-zero number n e

none-nothing : (n : ℕ) → is_some (at (nothing {X = Description}) n) ≡ false
unfolding at nothing
none-nothing n = refl

named-zero : (unix : Unix) (file : List ℕ) (plan : LoadPlan) (n : ℕ) → unix.files.descriptions ≡ nothing → IsSome (at (with_at unix.files.descriptions 0 (Some console_description)) n)
    → has_descriptor (started unix file plan).processes n ≡ true
named-zero unix file plan n no_description is = elim (eqb_tells n 0) as (λ _. has_descriptor (started unix file plan).processes n ≡ true) [
  | inl same ↦ name-has (started unix file plan).processes n record {
    slot = 0;
    number = 0;
    process = first_process file plan;
    below = omega arith;
    there = at-with_at unix.processes 0 (Some (first_process file plan));
    names = first-names file plan ∙ ap (λ k. Some k) (sym same.1);
  }
  | inr apart ↦ absurd (true-false (sym is ∙ ap is_some (at-with_at-other unix.files.descriptions 0 n (Some console_description) apart.1) ∙ ap (λ (d : ℕ → Option Description). is_some (at d n)) no_description ∙ none-nothing n))
]

started-open : (unix : Unix) (file : List ℕ) (plan : LoadPlan) → unix.processes ≡ nothing → unix.files.descriptions ≡ nothing → AreOpen (started unix file plan).processes (started unix file plan).files.descriptions
started-open unix file plan no_process no_description =
    record {
      named = λ n is. named-zero unix file plan n no_description is;
      there = λ slot number n process is names.
          let one : (slot ≡ 0) × (first_process file plan ≡ process) = only-first unix (first_process file plan) process slot no_process is in
          let zero_is : 0 ≡ n = first-names-zero file plan number n (ap (λ (p : Process). descriptor p number) one.1 ∙ names) in
          ap is_some (ap (at (with_at unix.files.descriptions 0 (Some console_description))) (sym zero_is) ∙ at-with_at unix.files.descriptions 0 (Some console_description));
    }

started-sent : (calls : Calls) (unix : Unix) (file : List ℕ) (plan : LoadPlan) → unix.processes ≡ nothing → AreSent calls (started unix file plan)
unfolding AreSent
started-sent calls unix file plan no_process = λ slot process sent is phase.
    let one : (slot ≡ 0) × (first_process file plan ≡ process) = only-first unix (first_process file plan) process slot no_process is in
    absurd (subst NoSent (ap (λ (p : Process). p.phase) one.1 ∙ phase) (first-quiet file plan))

first-size : (file : List ℕ) (plan : LoadPlan) → length (first_process file plan).descriptors ≡ descriptor_count
unfolding first_process
first-size file plan = refl

first-lives : (file : List ℕ) (plan : LoadPlan) → phase_word (first_process file plan).phase ≡ None
unfolding first_process
first-lives file plan = refl

none-past : (n : ℕ) → at (nothing {X = Process}) n ≡ None
unfolding at nothing
none-past n = refl

started-slots : (unix : Unix) (file : List ℕ) (plan : LoadPlan) → unix.processes ≡ nothing → HaveDescriptors (started unix file plan).processes
started-slots unix file plan no_process =
    record {
      end = λ slot past.
          at-with_at-other unix.processes 0 slot (Some (first_process file plan)) (λ same. absurd (omega (arith, past, same))) ∙ ap (λ (processes : ℕ → Option Process). at processes slot) no_process ∙ none-past slot;
      each = λ slot process is. ap (λ (p : Process). length p.descriptors) (sym (only-first unix (first_process file plan) process slot no_process is).1) ∙ first-size file plan;
      ended = λ slot word process is e.
          some-differ word (sym (first-lives file plan) ∙ ap (λ (p : Process). phase_word p.phase) (only-first unix (first_process file plan) process slot no_process is).1 ∙ e);
    }

-- the machine with its first process
started-ruled : (calls : Calls) (pages quantum : ℕ) → AreSizes pages quantum 0 → (state : Unix) (file : List ℕ) (plan : LoadPlan) → Empty pages quantum state → BootRules calls (started state file plan)
started-ruled calls pages quantum sizes state file plan empty =
    record {
      sizes = record {
        least = omega (arith, sizes.least, empty.pages_are);
        most = omega (arith, sizes.most, empty.pages_are);
        whole = ap (λ n. n % 64) empty.pages_are ∙ sizes.whole;
        some_turns = omega (arith, sizes.some_turns, empty.quantum_is);
        few_turns = omega (arith, sizes.few_turns, empty.quantum_is);
        round = omega (arith, sizes.round, empty.quantum_is, empty.position_is);
      };
      slots = started-slots state file plan empty.no_process;
      sent = started-sent calls state file plan empty.no_process;
      opens = started-open state file plan empty.no_process empty.no_description;
    }

pub boot_gives_rules : BootGivesRules
boot_gives_rules calls pages quantum entries unix sizes e =
    after-boot (Empty pages quantum) (empty-kept pages quantum) (BootRules calls) (λ state file plan empty planned room. started-ruled calls pages quantum sizes state file plan empty)
    pages quantum entries unix (empty-at-first pages quantum) e

-- by its steps: an entry that is stored, and the loading of `/init`
pub stored-empty : (pages quantum number : ℕ) (unix next : Unix) (entries : List BootEntry) → Empty pages quantum unix → with_boot_entries number unix entries ≡ Ok next → Empty pages quantum next
stored-empty pages quantum number unix next entries empty e =
    tells-of (Empty pages quantum) (with_boot_entries number unix entries) next
    (entries-tell (λ entry. Unit {0}) (Empty pages quantum) (λ state path spot node at_number such. empty-kept pages quantum state path spot node at_number) number unix entries (λ k d below. tt) empty) e

pub loaded-ruled : (calls : Calls) (pages quantum : ℕ) → AreSizes pages quantum 0 → (unix next : Unix) → Empty pages quantum unix → with_init unix ≡ Ok next → BootRules calls next
loaded-ruled calls pages quantum sizes unix next empty e =
    tells-of (BootRules calls) (with_init unix) next
    (init-tells (λ entry. Unit {0}) (Empty pages quantum) (λ state path spot node at_number such. empty-kept pages quantum state path spot node at_number) (BootRules calls)
    (λ state file plan now found planned room. started-ruled calls pages quantum sizes state file plan now) unix empty) e
