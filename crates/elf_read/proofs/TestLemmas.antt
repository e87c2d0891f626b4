-- What follows from the answer of tests that are made in order.
use Rattle.std.proofs.Common.{◌≡◌, true, false, cond, List, [], ◌∷◌, Result, Ok, Err, refl}
use Rattle.unix_model.specs.declared.elf.ElfFault.{ElfFault}
use Rattle.unix_model.specs.Elf.{Test, first_of_tests}

-- none of the tests holds
abbrev pub NoneHolds : List Test → Type 0
NoneHolds [] = Unit {0}
NoneHolds (test ∷ tests) = (test.holds ≡ false) × NoneHolds tests

-- where the answer is a value, no test holds
pub none_holds : {A : Type 0} (tests : List Test) (rest : Result A ElfFault) (x : A) → first_of_tests tests rest ≡ Ok x → NoneHolds tests
none_holds [] rest x e = tt
none_holds {A} (test ∷ tests) rest x e =
    elim test.holds as (λ b. test.holds ≡ b → cond b (Err test.fault) (first_of_tests tests rest) ≡ Ok x → (test.holds ≡ false) × NoneHolds tests) [
      | true ↦ λ is h. cc
      | false ↦ λ is h. (is, none_holds tests rest x h)
    ] refl e

-- where no test holds, what follows the tests is the answer
pub first_of_tests-none : {A : Type 0} (tests : List Test) (rest : Result A ElfFault) → NoneHolds tests → first_of_tests tests rest ≡ rest
first_of_tests-none [] rest h = refl
first_of_tests-none (test ∷ tests) rest h = rw h.0 (first_of_tests-none tests rest h.1)

-- a fault that a test gives is the answer whatever follows the tests
pub first_of_tests-fault : {A B : Type 0} (tests : List Test) (x : A) (rest : Result B ElfFault) (fault : ElfFault) → first_of_tests tests (Ok x) ≡ Err fault → first_of_tests tests rest ≡ Err fault
first_of_tests-fault [] x rest fault e = cc
first_of_tests-fault {A} {B} (test ∷ tests) x rest fault e =
    elim test.holds as (λ b. ◌≡◌ {A = Result A ElfFault} (cond b (Err test.fault) (first_of_tests tests (Ok x))) (Err fault) → ◌≡◌ {A = Result B ElfFault} (cond b (Err test.fault) (first_of_tests tests rest)) (Err fault)) [
      | true ↦ λ h. cc
      | false ↦ λ h. first_of_tests-fault tests x rest fault h
    ] e
