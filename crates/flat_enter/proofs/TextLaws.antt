-- Texts in memory, one byte more at a time.
use Rattle.std.proofs.Common.{◌≡◌, ◌≢◌, ℕ, suc, ◌+◌, ◌-◌, ◌<◌, ◌≤◌, List, [], ◌∷◌, ◌++◌, Option, Some, None, Result, Ok, Err, false, arith, refl, ap, sym, ◌∙◌, append_assoc}
use Rattle.std.proofs.lemmas.Bool.Decides.{nat_tests}
use Rattle.std.proofs.lemmas.List.{append-nil}
use Rattle.std.specs.Prelude.{◌==◌, if◌then◌else◌}
use Rattle.unix_model.specs.declared.calls.Errno.{Errno}
use Rattle.unix_model.specs.declared.calls.Errno.TheVariants.{Efault}
use Rattle.unix_model.specs.Enter.{text_at}
use Rattle.unix_model.specs.Memory.{Memory, byte_at}
use Rattle.unix_model.specs.Refusals.{◌>>=◌, refuse◌unless◌}
use Rattle.flat_enter.specs.Enters.{before}

-- nothing before
pub before-nothing : (rest : Result (List ℕ) Errno) → before [] rest ≡ rest
before-nothing (Ok bytes) = refl
before-nothing (Err errno) = refl

before-before : (first second : List ℕ) (rest : Result (List ℕ) Errno) → before first (before second rest) ≡ before (first ++ second) rest
before-before first second (Ok bytes) = ap (λ (b : List ℕ). let read : Result (List ℕ) Errno = Ok b in read) (sym (append_assoc first second bytes))
before-before first second (Err errno) = refl

-- the first of the bytes that are left
abbrev first_of : Memory → Errno → ℕ → ℕ → Option ℕ → Result (List ℕ) Errno
first_of memory too_long n address found =
    (refuse Efault unless found) >>= (λ byte. if byte == 0 then Ok [] else (text_at memory too_long n (address + 1) >>= (λ bytes. Ok (byte ∷ bytes))))

text-step : (memory : Memory) (too_long : Errno) (n address : ℕ) → text_at memory too_long (suc n) address ≡ first_of memory too_long n address (byte_at memory address)
unfolding text_at
text-step memory too_long n address = refl

one-more : (n i : ℕ) → i < n → n - i ≡ suc (n - (i + 1))
one-more n i inside = omega arith

pub text-end : (memory : Memory) (too_long : Errno) (n i address : ℕ) (bytes : List ℕ) → i < n → byte_at memory (address + i) ≡ Some 0
    → before bytes (text_at memory too_long (n - i) (address + i)) ≡ Ok bytes
text-end memory too_long n i address bytes inside found =
    ap (λ k. before bytes (text_at memory too_long k (address + i))) (one-more n i inside)
    ∙ (ap (before bytes) (text-step memory too_long (n - (i + 1)) (address + i) ∙ ap (first_of memory too_long (n - (i + 1)) (address + i)) found)
    ∙ ap (λ (b : List ℕ). let read : Result (List ℕ) Errno = Ok b in read) (append-nil bytes))

and_byte_before : (byte : ℕ) (rest : Result (List ℕ) Errno) → (rest >>= (λ bytes. Ok (byte ∷ bytes))) ≡ before (byte ∷ []) rest
and_byte_before byte (Ok bytes) = refl
and_byte_before byte (Err errno) = refl

pub text-more : (memory : Memory) (too_long : Errno) (n i address byte : ℕ) (bytes : List ℕ) → i < n → byte_at memory (address + i) ≡ Some byte → byte ≢ 0
    → before bytes (text_at memory too_long (n - i) (address + i)) ≡ before (bytes ++ byte ∷ []) (text_at memory too_long (n - (i + 1)) (address + (i + 1)))
text-more memory too_long n i address byte bytes inside found some =
    let other : byte == 0 ≡ false = grind (arith, nat_tests) in
    let next : address + i + 1 ≡ address + (i + 1) = omega arith in
    ap (λ k. before bytes (text_at memory too_long k (address + i))) (one-more n i inside)
    ∙ (ap (before bytes) (text-step memory too_long (n - (i + 1)) (address + i) ∙ (ap (first_of memory too_long (n - (i + 1)) (address + i)) found
    ∙ rw other (and_byte_before byte (text_at memory too_long (n - (i + 1)) (address + i + 1)))))
    ∙ (before-before bytes (byte ∷ []) (text_at memory too_long (n - (i + 1)) (address + i + 1))
    ∙ ap (λ k. before (bytes ++ byte ∷ []) (text_at memory too_long (n - (i + 1)) k)) next))

pub text-unmapped : (memory : Memory) (too_long : Errno) (n i address : ℕ) (bytes : List ℕ) → i < n → byte_at memory (address + i) ≡ None
    → before bytes (text_at memory too_long (n - i) (address + i)) ≡ Err Efault
text-unmapped memory too_long n i address bytes inside none =
    ap (λ k. before bytes (text_at memory too_long k (address + i))) (one-more n i inside)
    ∙ (ap (before bytes) (text-step memory too_long (n - (i + 1)) (address + i) ∙ ap (first_of memory too_long (n - (i + 1)) (address + i)) none))

pub text-long : (memory : Memory) (too_long : Errno) (n i address : ℕ) (bytes : List ℕ) → n ≤ i → before bytes (text_at memory too_long (n - i) (address + i)) ≡ Err too_long
unfolding text_at
text-long memory too_long n i address bytes past =
    let none : n - i ≡ 0 = omega arith in ap (λ k. before bytes (text_at memory too_long k (address + i))) none

pub ruleset texts = (before-nothing, text-end, text-more, text-unmapped, text-long)
