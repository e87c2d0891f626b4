-- The strings of exec, one more at a time.
use Rattle.std.proofs.Common.{◌≡◌, ◌≢◌, ℕ, suc, ◌+◌, ◌-◌, ◌*◌, ◌<◌, ◌≤◌, List, [], ◌∷◌, ◌++◌, length, length-append, Option, Some, None, Result, Ok, Err, Bool, true, false, arith, refl, ap, sym, ◌∙◌, append_assoc}
use Rattle.std.proofs.lemmas.Bool.Decides.{nat_tests}
use Rattle.std.proofs.lemmas.List.{append-nil}
use Rattle.std.specs.Prelude.{◌==◌, nat_lt, if◌then◌else◌}
use Rattle.unix_model.specs.declared.calls.Errno.{Errno}
use Rattle.unix_model.specs.declared.calls.Errno.TheVariants.{E2big, Efault}
use Rattle.unix_model.specs.Enter.{strings_at, text_at, with_nul}
use Rattle.unix_model.specs.Memory.{Memory, word_at}
use Rattle.unix_model.specs.Refusals.{◌>>=◌, ◌>>◌, refuse◌unless◌, refuse◌when◌, refuse◌where_not◌}
use Rattle.flat_enter.specs.declared.fault.EnterFault.{EnterFault}
use Rattle.flat_enter.specs.declared.fault.EnterFault.TheVariants.{Refused, NoMemory}
use Rattle.flat_enter.specs.Enters.{before, Reads}
use Rattle.flat_enter.specs.Strings.{string_at}

-- a string, and the strings from an address on
abbrev and_strings : Memory → (n room address : ℕ) → (string : List ℕ) → Result (List ℕ) Errno
and_strings memory n room address string = strings_at memory n (room - length string) address >>= (λ texts. Ok (string ++ texts))

abbrev text_then : Memory → (n room address : ℕ) → (text : List ℕ) → Bool → Result (List ℕ) Errno
text_then memory n room address text long =
    (refuse E2big when long) >> (strings_at memory n (room - (length text + 1)) address >>= (λ texts. Ok (with_nul text ++ texts)))

by_length : (memory : Memory) (n room address : ℕ) (text : List ℕ) (long : Bool)
    → text_then memory n room address text long ≡ (((refuse E2big when long) >> Ok (with_nul text)) >>= and_strings memory n room address)
by_length memory n room address text true = refl
by_length memory n room address text false =
    ap (λ k. strings_at memory n (room - k) address >>= (λ texts. Ok (with_nul text ++ texts))) (sym (length-append text (0 ∷ [])))

by_text : (memory : Memory) (n room address : ℕ) (found : Result (List ℕ) Errno)
    → (found >>= (λ text. text_then memory n room address text (nat_lt room (length text + 1))))
    ≡ ((found >>= (λ text. (refuse E2big when nat_lt room (length text + 1)) >> Ok (with_nul text))) >>= and_strings memory n room address)
by_text memory n room address (Ok text) = by_length memory n room address text (nat_lt room (length text + 1))
by_text memory n room address (Err errno) = refl

-- the first of the strings that are left
abbrev first_of : Memory → (n room address : ℕ) → Option ℕ → Result (List ℕ) Errno
first_of memory n room address found =
    (refuse Efault unless found) >>= (λ pointer. if pointer == 0 then Ok [] else (string_at memory room pointer >>= and_strings memory n room (address + 4)))

by_pointer : (memory : Memory) (n room address : ℕ) (found : Option ℕ)
    → ((refuse Efault unless found) >>= (λ pointer. if pointer == 0 then Ok [] else (text_at memory E2big (room + 1) pointer >>= (λ text. text_then memory n room (address + 4) text (nat_lt room (length text + 1))))))
    ≡ first_of memory n room address found
unfolding string_at
by_pointer memory n room address None = refl
by_pointer memory n room address (Some pointer) = ap (λ rest. if pointer == 0 then Ok [] else rest) (by_text memory n room (address + 4) (text_at memory E2big (room + 1) pointer))

strings-step : (memory : Memory) (n room address : ℕ) → strings_at memory (suc n) room address ≡ first_of memory n room address (word_at memory address)
unfolding strings_at
strings-step memory n room address = by_pointer memory n room address (word_at memory address)

one-more : (n i : ℕ) → i < n → n - i ≡ suc (n - (i + 1))
one-more n i inside = omega arith

before-step : (memory : Memory) (n i room address : ℕ) (bytes : List ℕ) (found : Option ℕ) → i < n → word_at memory (address + 4 * i) ≡ found
    → before bytes (strings_at memory (n - i) room (address + 4 * i)) ≡ before bytes (first_of memory (n - (i + 1)) room (address + 4 * i) found)
before-step memory n i room address bytes found inside there =
    ap (λ k. before bytes (strings_at memory k room (address + 4 * i))) (one-more n i inside)
    ∙ ap (before bytes) (strings-step memory (n - (i + 1)) room (address + 4 * i) ∙ ap (first_of memory (n - (i + 1)) room (address + 4 * i)) there)

whole : (bytes : List ℕ) → before bytes (Ok []) ≡ Ok bytes
whole bytes = ap (λ (b : List ℕ). let read : Result (List ℕ) Errno = Ok b in read) (append-nil bytes)

pub strings-end : (memory : Memory) (n i room address : ℕ) (bytes : List ℕ) → i < n → word_at memory (address + 4 * i) ≡ Some 0
    → before bytes (strings_at memory (n - i) room (address + 4 * i)) ≡ Ok bytes
strings-end memory n i room address bytes inside there = before-step memory n i room address bytes (Some 0) inside there ∙ whole bytes

pub strings-unmapped : (memory : Memory) (n i room address : ℕ) (bytes : List ℕ) → i < n → word_at memory (address + 4 * i) ≡ None
    → before bytes (strings_at memory (n - i) room (address + 4 * i)) ≡ Err Efault
strings-unmapped memory n i room address bytes inside there = before-step memory n i room address bytes None inside there

before-and : (bytes string : List ℕ) (rest : Result (List ℕ) Errno) → before bytes (rest >>= (λ texts. Ok (string ++ texts))) ≡ before (bytes ++ string) rest
before-and bytes string (Ok texts) = ap (λ (b : List ℕ). let read : Result (List ℕ) Errno = Ok b in read) (sym (append_assoc bytes string texts))
before-and bytes string (Err errno) = refl

pub strings-more : (memory : Memory) (n i room address pointer : ℕ) (bytes string : List ℕ) → i < n → word_at memory (address + 4 * i) ≡ Some pointer → pointer ≢ 0
    → string_at memory room pointer ≡ Ok string
    → before bytes (strings_at memory (n - i) room (address + 4 * i)) ≡ before (bytes ++ string) (strings_at memory (n - (i + 1)) (room - length string) (address + 4 * (i + 1)))
strings-more memory n i room address pointer bytes string inside there some read =
    let other : pointer == 0 ≡ false = grind (arith, nat_tests) in
    let next : address + 4 * i + 4 ≡ address + 4 * (i + 1) = omega arith in
    before-step memory n i room address bytes (Some pointer) inside there
    ∙ (rw other (ap (λ found. before bytes (found >>= and_strings memory (n - (i + 1)) room (address + 4 * i + 4))) read)
    ∙ (before-and bytes string (strings_at memory (n - (i + 1)) (room - length string) (address + 4 * i + 4))
    ∙ ap (λ k. before (bytes ++ string) (strings_at memory (n - (i + 1)) (room - length string) k)) next))

pub strings-refused : (memory : Memory) (n i room address pointer : ℕ) (bytes : List ℕ) (errno : Errno) → i < n → word_at memory (address + 4 * i) ≡ Some pointer → pointer ≢ 0
    → string_at memory room pointer ≡ Err errno → before bytes (strings_at memory (n - i) room (address + 4 * i)) ≡ Err errno
strings-refused memory n i room address pointer bytes errno inside there some read =
    let other : pointer == 0 ≡ false = grind (arith, nat_tests) in
    before-step memory n i room address bytes (Some pointer) inside there
    ∙ rw other (ap (λ found. before bytes (found >>= and_strings memory (n - (i + 1)) room (address + 4 * i + 4))) read)

-- ---- after the last string

abbrev last_of : Option ℕ → Result (List ℕ) Errno
last_of found = (refuse Efault unless found) >>= (λ pointer. (refuse E2big where_not pointer == 0) >> Ok [])

last-step : (memory : Memory) (n i room address : ℕ) (bytes : List ℕ) (found : Option ℕ) → n ≤ i → word_at memory (address + 4 * i) ≡ found
    → before bytes (strings_at memory (n - i) room (address + 4 * i)) ≡ before bytes (last_of found)
unfolding strings_at
last-step memory n i room address bytes found past there =
    let none : n - i ≡ 0 = omega arith in
    ap (λ k. before bytes (strings_at memory k room (address + 4 * i))) none ∙ ap (λ found. before bytes (last_of found)) there

pub last-end : (memory : Memory) (n i room address : ℕ) (bytes : List ℕ) → n ≤ i → word_at memory (address + 4 * i) ≡ Some 0
    → before bytes (strings_at memory (n - i) room (address + 4 * i)) ≡ Ok bytes
last-end memory n i room address bytes past there = last-step memory n i room address bytes (Some 0) past there ∙ whole bytes

pub last-unmapped : (memory : Memory) (n i room address : ℕ) (bytes : List ℕ) → n ≤ i → word_at memory (address + 4 * i) ≡ None
    → before bytes (strings_at memory (n - i) room (address + 4 * i)) ≡ Err Efault
last-unmapped memory n i room address bytes past there = last-step memory n i room address bytes None past there

pub last-more : (memory : Memory) (n i room address pointer : ℕ) (bytes : List ℕ) → n ≤ i → word_at memory (address + 4 * i) ≡ Some pointer → pointer ≢ 0
    → before bytes (strings_at memory (n - i) room (address + 4 * i)) ≡ Err E2big
last-more memory n i room address pointer bytes past there some =
    let other : pointer == 0 ≡ false = grind (arith, nat_tests) in
    last-step memory n i room address bytes (Some pointer) past there ∙ rw other refl

before-nothing : (rest : Result (List ℕ) Errno) → rest ≡ before [] rest
before-nothing (Ok bytes) = refl
before-nothing (Err errno) = refl

pub strings-first : (memory : Memory) (n room address : ℕ) → strings_at memory n room address ≡ before [] (strings_at memory (n - 0) room (address + 4 * 0))
strings-first memory n room address =
    let all : n - 0 ≡ n = omega arith in
    let start : address + 4 * 0 ≡ address = omega arith in
    rw (all, start) (before-nothing (strings_at memory n room address))

-- a string that can't be read
pub strings-fault : (memory : Memory) (n i room address pointer : ℕ) (bytes : List ℕ) (line : Result (List ℕ) Errno) (fault : EnterFault) → i < n → word_at memory (address + 4 * i) ≡ Some pointer → pointer ≢ 0
    → line ≡ before bytes (strings_at memory (n - i) room (address + 4 * i)) → Reads (string_at memory room pointer) (Err fault) → Reads line (Err fault)
strings-fault memory n i room address pointer bytes line (Refused errno) inside there some so_far read = so_far ∙ strings-refused memory n i room address pointer bytes errno inside there some read
strings-fault memory n i room address pointer bytes line NoMemory inside there some so_far read = tt
