-- The strings of a program, one more at a time.
use Rattle.std.proofs.Common.{◌≡◌, ℕ, suc, ◌+◌, ◌-◌, ◌*◌, ◌<◌, ◌≤◌, List, [], ◌∷◌, ◌++◌, length, get_or, drop, drop-cons, arith, refl, ap, sym, ◌∙◌, add-one, append_assoc, length-append}
use Rattle.std.proofs.lemmas.List.{append-nil, drop_all, length-replicate}
use Rattle.std.specs.Prelude.{Vec, replicate}
use Rattle.std.specs.Global.{Global}
use Rattle.std.specs.Int.{to_le_bytes, w32}
use Rattle.unix_model.specs.Loading.{address_words, argument_words, stack_bytes, stack_pointer, string_bytes, strings_start}
use Rattle.flat_memory.specs.StringsView.{strings_of}

-- the strings from one on
strings-next : (strings : List (Vec ℕ Global)) (i : ℕ) (d : Vec ℕ Global) → i < length strings
    → strings_of (drop i strings) ≡ (get_or strings i d).items ∷ strings_of (drop (i + 1) strings)
strings-next strings i d inside = ap strings_of (drop-cons strings i d inside) ∙ ap (λ k. (get_or strings i d).items ∷ strings_of (drop k strings)) (sym (add-one i))

-- their bytes, one string more
pub bytes-more : (strings : List (Vec ℕ Global)) (i : ℕ) (d : Vec ℕ Global) (bytes : List ℕ) → i < length strings
    → ((bytes ++ (get_or strings i d).items) ++ 0 ∷ []) ++ string_bytes (strings_of (drop (i + 1) strings)) ≡ bytes ++ string_bytes (strings_of (drop i strings))
bytes-more strings i d bytes inside = rw (strings-next strings i d inside, append_assoc, append_assoc, append_assoc) refl

pub bytes-end : (strings : List (Vec ℕ Global)) (i : ℕ) (bytes : List ℕ) → length strings ≤ i → bytes ++ string_bytes (strings_of (drop i strings)) ≡ bytes ++ []
bytes-end strings i bytes past = ap (λ (rest : List (Vec ℕ Global)). bytes ++ string_bytes (strings_of rest)) (drop_all i strings past)

-- their addresses, one string more
pub words-more : (strings : List (Vec ℕ Global)) (i : ℕ) (d : Vec ℕ Global) (bytes : List ℕ) (address : ℕ) → i < length strings
    → (bytes ++ to_le_bytes w32 address) ++ address_words (address + (length (get_or strings i d).items + 1)) (strings_of (drop (i + 1) strings)) ≡ bytes ++ address_words address (strings_of (drop i strings))
words-more strings i d bytes address inside =
    let sum : address + (length (get_or strings i d).items + 1) ≡ address + length (get_or strings i d).items + 1 = omega arith in
    rw (strings-next strings i d inside, sum, append_assoc) refl

pub words-end : (strings : List (Vec ℕ Global)) (i : ℕ) (bytes : List ℕ) (address : ℕ) → length strings ≤ i → bytes ++ address_words address (strings_of (drop i strings)) ≡ bytes ++ []
words-end strings i bytes address past = ap (λ (rest : List (Vec ℕ Global)). bytes ++ address_words address (strings_of rest)) (drop_all i strings past)

-- a string and its NUL are among the bytes that are left
pub left-more : (strings : List (Vec ℕ Global)) (i : ℕ) (d : Vec ℕ Global) → i < length strings
    → length (string_bytes (strings_of (drop i strings))) ≡ (length (get_or strings i d).items + 1) + length (string_bytes (strings_of (drop (i + 1) strings)))
left-more strings i d inside = rw (strings-next strings i d inside, length-append, length-append) refl

-- no more strings than bytes with their NULs
pub strings-few : (strings : List (Vec ℕ Global)) → length strings ≤ length (string_bytes (strings_of strings))
strings-few [] = omega arith
strings-few (string ∷ strings) =
    omega (arith, strings-few strings, length-append (string.items ++ 0 ∷ []) (string_bytes (strings_of strings)), length-append string.items (0 ∷ []))

length-strings : (strings : List (Vec ℕ Global)) → length (strings_of strings) ≡ length strings
length-strings [] = refl
length-strings (string ∷ strings) = ap suc (length-strings strings)

-- all words
pub words-whole : (strings : List (Vec ℕ Global)) (i start address : ℕ) (bytes : List ℕ) → length strings ≤ i → start ≡ strings_start (strings_of strings)
    → bytes ++ address_words address (strings_of (drop i strings)) ≡ to_le_bytes w32 (length strings) ++ address_words start (strings_of strings)
    → bytes ++ replicate 8 0 ≡ argument_words (strings_of strings)
unfolding argument_words
words-whole strings i start address bytes past start_is so_far =
    let all : bytes ≡ to_le_bytes w32 (length strings) ++ address_words start (strings_of strings) = sym (append-nil bytes) ∙ (sym (words-end strings i bytes address past) ∙ so_far) in
    ap (λ b. b ++ replicate 8 0) (all ∙ (ap (λ n. to_le_bytes w32 n ++ address_words start (strings_of strings)) (sym (length-strings strings)) ∙ ap (λ n. to_le_bytes w32 (length (strings_of strings)) ++ address_words n (strings_of strings)) start_is))

length-word : (word : ℕ) → length (to_le_bytes w32 word) ≡ 4
length-word word = refl

length-addresses : (strings : List (Vec ℕ Global)) (address : ℕ) → length (address_words address (strings_of strings)) ≡ 4 * length strings
length-addresses [] address = refl
length-addresses (string ∷ strings) address =
    omega (arith, length-append (to_le_bytes w32 address) (address_words (address + length string.items + 1) (strings_of strings)), length-addresses strings (address + length string.items + 1), length-word address)

-- how many bytes the words are
pub length-words : (strings : List (Vec ℕ Global)) → length (argument_words (strings_of strings)) ≡ 12 + 4 * length strings
unfolding argument_words
length-words strings =
    let count : ℕ = length (strings_of strings) in
    let start : ℕ = strings_start (strings_of strings) in
    omega (arith, length-append (to_le_bytes w32 count ++ address_words start (strings_of strings)) (replicate 8 0), length-append (to_le_bytes w32 count) (address_words start (strings_of strings)), length-word count, length-addresses strings start, length-replicate {A = ℕ} 8 0)

-- the words, what lies between, and the strings
pub bytes-whole : (strings : List (Vec ℕ Global)) (start words pointer : ℕ) (bytes texts between all : List ℕ)
    → start ≡ strings_start (strings_of strings) → words ≡ length (argument_words (strings_of strings)) → pointer ≡ stack_pointer (strings_of strings)
    → bytes ≡ argument_words (strings_of strings) → texts ≡ string_bytes (strings_of strings) → between ≡ replicate (start - words - pointer) 0
    → all ≡ (bytes ++ between) ++ texts → all ≡ stack_bytes (strings_of strings)
unfolding stack_bytes
bytes-whole strings start words pointer bytes texts between all start_is words_is pointer_is bytes_are texts_are between_is all_is =
    let mid : between ≡ replicate (strings_start (strings_of strings) - length (argument_words (strings_of strings)) - stack_pointer (strings_of strings)) 0 =
    between_is ∙ (ap (λ n. replicate (n - words - pointer) 0) start_is ∙ (ap (λ n. replicate (strings_start (strings_of strings) - n - pointer) 0) words_is ∙ ap (λ n. replicate (strings_start (strings_of strings) - length (argument_words (strings_of strings)) - n) 0) pointer_is)) in
    all_is ∙ (ap (λ b. (b ++ between) ++ texts) bytes_are ∙ (ap (λ b. (argument_words (strings_of strings) ++ b) ++ texts) mid ∙ ap (λ b. (argument_words (strings_of strings) ++ replicate (strings_start (strings_of strings) - length (argument_words (strings_of strings)) - stack_pointer (strings_of strings)) 0) ++ b) texts_are))
