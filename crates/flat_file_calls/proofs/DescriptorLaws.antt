-- Descriptors that are closed, and descriptions that are freed with the last of them.
use Rattle.std.proofs.Common.{◌≡◌, ℕ, zero, suc, ◌<◌, ◌≤◌, Bool, true, false, Option, Some, None, List, [], ◌∷◌, length, set, set-set, arith, refl, ap, sym, ◌∙◌, inl, inr}
use Rattle.std.proofs.Math.Path.{fun_ext}
use Rattle.std.proofs.lemmas.Bool.{cases_Bool}
use Rattle.std.proofs.lemmas.Bool.Decides.{eqb_tells}
use Rattle.std.specs.Prelude.{◌||◌, ◌==◌}
use Rattle.unix_model.specs.Effect.{replies}
use Rattle.unix_model.specs.FileCalls.{dup2_line}
use Rattle.unix_model.specs.Files.{with_description_freed}
use Rattle.unix_model.specs.Process.{Process, descriptor, with_descriptor, without_descriptor}
use Rattle.unix_model.specs.State.{Unix, Opened, opened, has_descriptor, process_names, with_description_released, with_descriptor_closed, with_process}
use Rattle.unix_model.specs.Tables.{at, with_at, any_below}
use Rattle.unix_model.proofs.TableLaws.{at-with_at, at-with_at-other, with_at-twice}

-- an element past the end isn't there to be changed
pub set-past : {A : Type 0} (xs : List A) (n : ℕ) (x : A) → length xs ≤ n → set xs n x ≡ xs
set-past [] n x past = refl
set-past (first ∷ xs) zero x past = absurd (omega arith)
set-past (first ∷ xs) (suc n) x past = let rest : length xs ≤ n = omega arith in ap (λ (more : List _). first ∷ more) (set-past xs n x rest)

pub ruleset sets = (set-past)

-- ---- a test of a table with one place changed

same-test : {X : Type 0} (test : X → Bool) (table : ℕ → X) (n k : ℕ) (x : X) → test (at table n) ≡ test x → test (at (with_at table n x) k) ≡ test (at table k)
same-test test table n k x same = elim (eqb_tells k n) as (λ _. test (at (with_at table n x) k) ≡ test (at table k)) [
  | inl here ↦ ap (λ place. test (at (with_at table n x) place)) here.1 ∙ (ap test (at-with_at table n x) ∙ (sym same ∙ sym (ap (λ place. test (at table place)) here.1)))
  | inr apart ↦ ap test (at-with_at-other table n k x apart.1)
]

any-beside : {X : Type 0} (test : X → Bool) (table : ℕ → X) (n limit : ℕ) (x : X) → test (at table n) ≡ test x
    → any_below (λ k. test (at (with_at table n x) k)) limit ≡ any_below (λ k. test (at table k)) limit
any-beside test table n limit x same = ap (λ tests. any_below tests limit) (fun_ext (λ k. same-test test table n k x same))

or-true : (b : Bool) → (b || true) ≡ true
or-true true = refl
or-true false = refl

-- a test that holds somewhere holds of any
pub any-here : (test : ℕ → Bool) (n limit : ℕ) → n < limit → test n ≡ true → any_below test limit ≡ true
unfolding any_below
any-here test n zero inside here = absurd (omega arith)
any-here test n (suc limit) inside here = elim (eqb_tells limit n) as (λ _. (any_below test limit || test limit) ≡ true) [
  | inl same ↦ rw (ap test same.1 ∙ here) (or-true (any_below test limit))
  | inr apart ↦ let less : n < limit = omega (arith, apart.1) in rw (any-here test n limit less here) refl
]

-- ---- a description without another descriptor

module _ (unix : Unix) (slot number description : ℕ) (process : Process) where
  pub released-held : slot < 64 → process_names description (Some process) ≡ true
      → with_process (with_description_released (with_process unix slot process) description) slot process ≡ with_process unix slot process
  released-held inside held =
      let here : process_names description (at (with_at unix.processes slot (Some process)) slot) ≡ true = ap (process_names description) (at-with_at unix.processes slot (Some process)) ∙ held in
      let some : has_descriptor (with_at unix.processes slot (Some process)) description ≡ true = any-here (λ k. process_names description (at (with_at unix.processes slot (Some process)) k)) slot 64 inside here in
      rw some (ap (λ (table : ℕ → Option Process). record unix { processes = table }) (with_at-twice unix.processes slot (Some process) (Some process)))

  pub released-beside : at unix.processes slot ≡ None → process_names description (Some process) ≡ false
      → with_process (with_description_released unix description) slot process ≡ with_process (with_description_released (with_process unix slot process) description) slot process
  released-beside free none =
      let same : has_descriptor (with_at unix.processes slot (Some process)) description ≡ has_descriptor unix.processes description =
      any-beside (process_names description) unix.processes slot 64 (Some process) (ap (process_names description) free ∙ sym none) in
      let twice : with_at (with_at unix.processes slot (Some process)) slot (Some process) ≡ with_at unix.processes slot (Some process) = with_at-twice unix.processes slot (Some process) (Some process) in
      elim (cases_Bool (has_descriptor unix.processes description)) as (λ _. with_process (with_description_released unix description) slot process ≡ with_process (with_description_released (with_process unix slot process) description) slot process) [
        | inl held ↦ rw (same, held) (sym (ap (λ (table : ℕ → Option Process). record unix { processes = table }) twice))
        | inr gone ↦ rw (same, gone) (sym (ap (λ (table : ℕ → Option Process). record unix { processes = table; files = with_description_freed unix.files description (at unix.files.descriptions description) }) twice))
      ]

  -- the descriptor is closed in the process that was taken out
  pub closed-some : (closed : Process) → closed ≡ without_descriptor process number → descriptor process number ≡ Some description
      → with_process (with_description_released (with_process unix slot closed) description) slot closed
      ≡ with_process (with_descriptor_closed (with_process unix slot process) slot process number (descriptor process number)) slot closed
  closed-some closed is there =
      rw there (rw (← is) (ap (λ (table : ℕ → Option Process). with_process (with_description_released (record unix { processes = table }) description) slot closed) (sym (with_at-twice unix.processes slot (Some process) (Some closed)))))

  pub closed-none : (closed : Process) → descriptor process number ≡ None
      → with_process unix slot closed ≡ with_process (with_descriptor_closed (with_process unix slot process) slot process number (descriptor process number)) slot closed
  closed-none closed there = rw there (ap (λ (table : ℕ → Option Process). record unix { processes = table }) (sym (with_at-twice unix.processes slot (Some process) (Some closed))))

-- ---- lines

-- what stands in a slot makes no difference where something else is put there
pub put-again : (first second : Unix) (slot : ℕ) (process next : Process) → with_process first slot process ≡ with_process second slot process
    → with_process first slot next ≡ with_process second slot next
put-again first second slot process next same =
    let twice : (unix : Unix) → with_process (with_process unix slot process) slot next ≡ with_process unix slot next =
    λ unix. ap (λ (table : ℕ → Option Process). record unix { processes = table }) (with_at-twice unix.processes slot (Some process) (Some next)) in
    sym (twice first) ∙ (ap (λ (unix : Unix). with_process unix slot next) same ∙ twice second)

pub opened-over : (process closed next : Process) (number description : ℕ) → closed ≡ without_descriptor process number → next ≡ with_descriptor closed number description
    → next ≡ with_descriptor process number description
opened-over process closed next number description is_closed is_next =
    is_next ∙ (ap (λ (process : Process). with_descriptor process number description) is_closed
    ∙ ap (λ (descriptors : List (Option ℕ)). record process { descriptors = descriptors }) (set-set process.descriptors number None (Some description)))

pub dup2-closes : (unix : Unix) (slot number to : ℕ) (process : Process) (file : Opened) → opened unix process number ≡ Some file → (number == to) ≡ false
    → dup2_line unix slot process number to ≡ replies (with_descriptor_closed unix slot process to (descriptor process to)) slot (with_descriptor process to file.number) to
dup2-closes unix slot number to process file there apart = rw (there, apart) refl
