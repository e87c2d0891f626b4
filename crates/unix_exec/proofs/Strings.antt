-- The strings of a program and their addresses, byte by byte and string by string.
use Rattle.std.proofs.Common.{◌≡◌, ◌≢◌, ◌<◌, ◌≤◌, ◌+◌, ◌-◌, ◌*◌, ◌%◌, ℕ, suc, Bool, true, false, List, [], ◌∷◌, ◌++◌, length, get_or, drop, drop-cons, add-one, refl, ap, sym, ◌∙◌, arith, append_assoc, length-append}
use Rattle.std.proofs.lemmas.Bool.{ne_eqb, le-leb, lt-ltb}
use Rattle.std.proofs.lemmas.List.{append-nil, drop_all, length-replicate}
use Rattle.std.specs.Prelude.{All, replicate, if◌then◌else◌, ◌==◌}
use Rattle.std.specs.Int.{to_le_bytes, w32}
use Rattle.unix_model.specs.Limits.{stack_end}
use Rattle.unix_model.specs.Loading.{address_words, argument_words, in_stack, stack_bytes, stack_pointer, string_bytes, strings_start}
use Rattle.unix_exec.specs.Addresses.{addresses_from}
use Rattle.unix_exec.specs.Start.{AreStrings}

first_of : {X : Type 0} (P : X → Type 0) (x : X) (xs : List X) → All P (x ∷ xs) → P x
first_of P x xs all = all 0 x (omega arith)

rest_of : {X : Type 0} (P : X → Type 0) (x : X) (xs : List X) → All P (x ∷ xs) → All P xs
rest_of P x xs all = λ k d inside. all (suc k) d (omega arith)

-- past the end of a string
past_string : (address : ℕ) (string rest : List ℕ) → All (λ byte. byte ≢ 0) string
    → addresses_from false address ((string ++ 0 ∷ []) ++ rest) ≡ addresses_from true (address + length string + 1) rest
unfolding addresses_from
past_string address [] rest none = let e : address + 1 ≡ address + 0 + 1 = omega arith in ap (λ n. addresses_from true n rest) e
past_string address (byte ∷ string) rest none =
    let e : address + 1 + length string + 1 ≡ address + length (byte ∷ string) + 1 = omega arith in
    rw (ne_eqb byte 0 (first_of (λ b. b ≢ 0) byte string none))
    (past_string (address + 1) string rest (rest_of (λ b. b ≢ 0) byte string none) ∙ ap (λ n. addresses_from true n rest) e)

-- one string
one_string : (address : ℕ) (string rest : List ℕ) → All (λ byte. byte ≢ 0) string
    → addresses_from true address ((string ++ 0 ∷ []) ++ rest) ≡ to_le_bytes w32 address ++ addresses_from true (address + length string + 1) rest
unfolding addresses_from
one_string address [] rest none = let e : address + 1 ≡ address + 0 + 1 = omega arith in ap (λ n. to_le_bytes w32 address ++ addresses_from true n rest) e
one_string address (byte ∷ string) rest none =
    let e : address + 1 + length string + 1 ≡ address + length (byte ∷ string) + 1 = omega arith in
    rw (ne_eqb byte 0 (first_of (λ b. b ≢ 0) byte string none))
    (ap (λ bytes. to_le_bytes w32 address ++ bytes)
    (past_string (address + 1) string rest (rest_of (λ b. b ≢ 0) byte string none) ∙ ap (λ n. addresses_from true n rest) e))

-- all strings
pub words_are : (address : ℕ) (strings : List (List ℕ)) → All (All (λ byte. byte ≢ 0)) strings → addresses_from true address (string_bytes strings) ≡ address_words address strings
unfolding addresses_from
words_are address [] none = refl
words_are address (string ∷ strings) none =
    one_string address string (string_bytes strings) (first_of (All (λ byte. byte ≢ 0)) string strings none)
    ∙ ap (λ bytes. to_le_bytes w32 address ++ bytes) (words_are (address + length string + 1) strings (rest_of (All (λ byte. byte ≢ 0)) string strings none))

-- ---- byte by byte

pub addresses_more : (before : List ℕ) (begins : Bool) (address : ℕ) (bytes : List ℕ) (i d : ℕ) → i < length bytes
    → (before ++ (if begins then to_le_bytes w32 address else [])) ++ addresses_from (get_or bytes i d == 0) (address + 1) (drop (i + 1) bytes) ≡ before ++ addresses_from begins address (drop i bytes)
unfolding addresses_from
addresses_more before begins address bytes i d inside =
    let next : drop i bytes ≡ get_or bytes i d ∷ drop (i + 1) bytes = drop-cons bytes i d inside ∙ ap (λ k. get_or bytes i d ∷ drop k bytes) (sym (add-one i)) in
    rw (next, append_assoc) refl

pub addresses_end : (before : List ℕ) (begins : Bool) (address : ℕ) (bytes : List ℕ) (i : ℕ) → length bytes ≤ i → before ++ addresses_from begins address (drop i bytes) ≡ before
unfolding addresses_from
addresses_end before begins address bytes i past = ap (λ rest. before ++ addresses_from begins address rest) (drop_all i bytes past) ∙ append-nil before

-- there is room for one address more
pub address_fits : (now rest old all : List ℕ) → now ++ rest ≡ old ++ all → length old + length all + 4 ≤ 4192 → length now + 4 ≤ 4192
address_fits now rest old all e room = omega (arith, ap length e, length-append now rest, length-append old all)

-- ---- the whole stack

pub length-word : (word : ℕ) → length (to_le_bytes w32 word) ≡ 4
length-word word = refl

length-addresses : (strings : List (List ℕ)) (address : ℕ) → length (address_words address strings) ≡ 4 * length strings
length-addresses [] address = refl
length-addresses (string ∷ strings) address =
    omega (arith, length-append (to_le_bytes w32 address) (address_words (address + length string + 1) strings), length-addresses strings (address + length string + 1), length-word address)

length-arguments : (strings : List (List ℕ)) → length (argument_words strings) ≡ 12 + 4 * length strings
unfolding argument_words
length-arguments strings =
    let count : ℕ = length strings in
    let start : ℕ = strings_start strings in
    omega (arith, length-append (to_le_bytes w32 count ++ address_words start strings) (replicate 8 0), length-append (to_le_bytes w32 count) (address_words start strings), length-word count, length-addresses strings start, length-replicate {A = ℕ} 8 0)

-- how many bytes the addresses are
pub length-from : (bytes : List ℕ) (count : ℕ) (strings : List (List ℕ)) (start : ℕ) → AreStrings bytes count strings → length (addresses_from true start bytes) ≡ 4 * count
length-from bytes count strings start are =
    ap (λ b. length (addresses_from true start b)) are.bytes_are ∙ ap length (words_are start strings are.no_nul) ∙ length-addresses strings start ∙ ap (λ n. 4 * n) are.number

-- where the stack begins, and how long it is
pub record IsPlaced (strings : List (List ℕ)) : Type 0 where
  pub ends : stack_pointer strings + length (stack_bytes strings) ≡ 2147483648
  pub long : 12 ≤ length (stack_bytes strings)
  pub few : length (stack_bytes strings) ≤ 4187

pub placed : (bytes : List ℕ) (count : ℕ) (strings : List (List ℕ)) → AreStrings bytes count strings → count ≤ 16 → length bytes ≤ 4096 → IsPlaced strings
unfolding stack_bytes stack_pointer strings_start stack_end
placed bytes count strings are few short =
    let number : length strings ≡ count = are.number in
    let texts : length bytes ≡ length (string_bytes strings) = ap length are.bytes_are in
    let words : length (argument_words strings) ≡ 12 + 4 * length strings = length-arguments strings in
    let between : ℕ = strings_start strings - length (argument_words strings) - stack_pointer strings in
    let whole : length (stack_bytes strings) ≡ length (argument_words strings) + between + length (string_bytes strings)
    = length-append (argument_words strings ++ replicate between 0) (string_bytes strings)
    ∙ ap (λ n. n + length (string_bytes strings)) (length-append (argument_words strings) (replicate between 0) ∙ ap (λ n. length (argument_words strings) + n) (length-replicate {A = ℕ} between 0)) in
    record { ends = omega arith; long = omega arith; few = omega arith }

pub stack_is : (bytes : List ℕ) (count between : ℕ) (strings : List (List ℕ)) → AreStrings bytes count strings → count ≤ 16 → length bytes ≤ 4096
    → between ≡ (2147483648 - length bytes - (12 + 4 * count)) % 16
    → (((to_le_bytes w32 count ++ addresses_from true (2147483648 - length bytes) bytes) ++ replicate 8 0) ++ replicate between 0) ++ bytes ≡ stack_bytes strings
unfolding stack_bytes stack_pointer strings_start stack_end argument_words
stack_is bytes count between strings are few short between_is =
    let number : length strings ≡ count = are.number in
    let texts : length bytes ≡ length (string_bytes strings) = ap length are.bytes_are in
    let long : length (argument_words strings) ≡ 12 + 4 * length strings = length-arguments strings in
    let words : (to_le_bytes w32 count ++ addresses_from true (2147483648 - length bytes) bytes) ++ replicate 8 0 ≡ argument_words strings
    = ap (λ n. (to_le_bytes w32 n ++ addresses_from true (2147483648 - length bytes) bytes) ++ replicate 8 0) (sym are.number)
    ∙ ap (λ b. (to_le_bytes w32 (length strings) ++ addresses_from true (2147483648 - length b) b) ++ replicate 8 0) are.bytes_are
    ∙ ap (λ a. (to_le_bytes w32 (length strings) ++ a) ++ replicate 8 0) (words_are (2147483648 - length (string_bytes strings)) strings are.no_nul) in
    let gap : between ≡ strings_start strings - length (argument_words strings) - stack_pointer strings = omega arith in
    ap (λ w. (w ++ replicate between 0) ++ bytes) words
    ∙ ap (λ n. (argument_words strings ++ replicate n 0) ++ bytes) gap
    ∙ ap (λ b. (argument_words strings ++ replicate (strings_start strings - length (argument_words strings) - stack_pointer strings) 0) ++ b) are.bytes_are

pub pointer_is : (strings : List (List ℕ)) (n : ℕ) → IsPlaced strings → n ≡ length (stack_bytes strings) → 2147483648 - n ≡ stack_pointer strings
pointer_is strings n placed_so e = let ends = placed_so.ends in omega arith

pub in_stack_is : (page : ℕ) → 0x7_FFF0 ≤ page → page < 0x8_0000 → in_stack page ≡ true
in_stack_is page low high = rw (le-leb 0x7_FFF0 page low, lt-ltb page 0x8_0000 high) refl
