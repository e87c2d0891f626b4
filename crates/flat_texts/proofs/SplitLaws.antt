-- Bytes split at NULs, one byte more at a time.
use Rattle.std.proofs.Common.{◌≡◌, ◌≢◌, ℕ, zero, suc, ◌+◌, ◌-◌, ◌<◌, ◌≤◌, List, [], ◌∷◌, ◌++◌, length, length-append, get_or, drop, drop-cons, take, Bool, true, false, arith, refl, ap, sym, ◌∙◌, add-one, append_assoc}
use Rattle.std.proofs.lemmas.Bool.Decides.{nat_tests}
use Rattle.std.proofs.lemmas.List.{append-nil, drop_all}
use Rattle.std.proofs.lemmas.List.Splits.{slice_split-cons_no, slice_split-cons_yes}
use Rattle.std.specs.Global.{Global}
use Rattle.std.specs.List.{slice_split, onto_first}
use Rattle.std.specs.Prelude.{Vec, ◌==◌, if◌then◌else◌}
use Rattle.unix_model.specs.Effect.{is_nul}
use Rattle.unix_model.specs.Loading.{string_bytes}
use Rattle.flat_memory.specs.StringsView.{strings_of}
use Rattle.flat_texts.specs.Texts.{texts_in}

-- the first of the parts goes on what was read of it
abbrev pub after : List ℕ → List (List ℕ) → List (List ℕ)
after text [] = text ∷ []
after text (part ∷ parts) = (text ++ part) ∷ parts

after-onto : (text : List ℕ) (byte : ℕ) (parts : List (List ℕ)) → after text (onto_first byte parts) ≡ after (text ++ byte ∷ []) parts
after-onto text byte [] = refl
after-onto text byte (part ∷ parts) = ap (λ (first : List ℕ). first ∷ parts) (sym (append_assoc text (byte ∷ []) part))

nothing-onto : (byte : ℕ) (parts : List (List ℕ)) → after [] (onto_first byte parts) ≡ onto_first byte parts
nothing-onto byte [] = refl
nothing-onto byte (part ∷ parts) = refl

nothing-if : (nul : Bool) (byte : ℕ) (parts : List (List ℕ)) → after [] (if nul then [] ∷ parts else onto_first byte parts) ≡ (if nul then [] ∷ parts else onto_first byte parts)
nothing-if true byte parts = refl
nothing-if false byte parts = nothing-onto byte parts

pub after-nothing : (bytes : List ℕ) → after [] (slice_split is_nul bytes) ≡ slice_split is_nul bytes
after-nothing [] = refl
after-nothing (byte ∷ bytes) = nothing-if (is_nul byte) byte (slice_split is_nul bytes)

strings-pushed : (texts : List (Vec ℕ Global)) (text : Vec ℕ Global) → strings_of (texts ++ text ∷ []) ≡ strings_of texts ++ text.items ∷ []
strings-pushed [] text = refl
strings-pushed (first ∷ texts) text = ap (λ (rest : List (List ℕ)). first.items ∷ rest) (strings-pushed texts text)

drop-next : (bytes : List ℕ) (i : ℕ) → i < length bytes → drop i bytes ≡ get_or bytes i 0 ∷ drop (i + 1) bytes
drop-next bytes i inside = drop-cons bytes i 0 inside ∙ ap (λ k. get_or bytes i 0 ∷ drop k bytes) (sym (add-one i))

-- a NUL ends a text
pub split-nul : (bytes : List ℕ) (i : ℕ) (texts : List (Vec ℕ Global)) (text : Vec ℕ Global) → i < length bytes → get_or bytes i 0 ≡ 0
    → strings_of texts ++ after text.items (slice_split is_nul (drop i bytes)) ≡ strings_of (texts ++ text ∷ []) ++ after [] (slice_split is_nul (drop (i + 1) bytes))
split-nul bytes i texts text inside here =
    let nul : is_nul (get_or bytes i 0) ≡ true = ap is_nul here in
    let rest : slice_split is_nul (drop i bytes) ≡ [] ∷ slice_split is_nul (drop (i + 1) bytes) =
    ap (slice_split is_nul) (drop-next bytes i inside) ∙ slice_split-cons_yes is_nul (get_or bytes i 0) (drop (i + 1) bytes) nul in
    ap (λ (parts : List (List ℕ)). strings_of texts ++ after text.items parts) rest
    ∙ (ap (λ (first : List ℕ). strings_of texts ++ first ∷ slice_split is_nul (drop (i + 1) bytes)) (append-nil text.items)
    ∙ (sym (append_assoc (strings_of texts) (text.items ∷ []) (slice_split is_nul (drop (i + 1) bytes)))
    ∙ (ap (λ (first : List (List ℕ)). first ++ slice_split is_nul (drop (i + 1) bytes)) (sym (strings-pushed texts text))
    ∙ ap (λ (parts : List (List ℕ)). strings_of (texts ++ text ∷ []) ++ parts) (sym (after-nothing (drop (i + 1) bytes))))))

-- any other byte goes on with it
pub split-more : (bytes : List ℕ) (i : ℕ) (texts : List (Vec ℕ Global)) (text : List ℕ) → i < length bytes → get_or bytes i 0 ≢ 0
    → strings_of texts ++ after text (slice_split is_nul (drop i bytes)) ≡ strings_of texts ++ after (text ++ get_or bytes i 0 ∷ []) (slice_split is_nul (drop (i + 1) bytes))
split-more bytes i texts text inside other =
    let some : is_nul (get_or bytes i 0) ≡ false = grind (arith, nat_tests) in
    let rest : slice_split is_nul (drop i bytes) ≡ onto_first (get_or bytes i 0) (slice_split is_nul (drop (i + 1) bytes)) =
    ap (slice_split is_nul) (drop-next bytes i inside) ∙ slice_split-cons_no is_nul (get_or bytes i 0) (drop (i + 1) bytes) some in
    ap (λ (parts : List (List ℕ)). strings_of texts ++ after text parts) rest
    ∙ ap (λ (parts : List (List ℕ)). strings_of texts ++ parts) (after-onto text (get_or bytes i 0) (slice_split is_nul (drop (i + 1) bytes)))

take-front : (xs : List (List ℕ)) (x : List ℕ) → take (length xs) (xs ++ x ∷ []) ≡ xs
take-front [] x = refl
take-front (y ∷ xs) x = ap (λ (rest : List (List ℕ)). y ∷ rest) (take-front xs x)

-- all bytes were read
pub split-end : (bytes : List ℕ) (i : ℕ) (texts : List (Vec ℕ Global)) (text : List ℕ) → length bytes ≤ i
    → slice_split is_nul bytes ≡ strings_of texts ++ after text (slice_split is_nul (drop i bytes)) → strings_of texts ≡ texts_in bytes
unfolding texts_in
split-end bytes i texts text past so_far =
    let all : slice_split is_nul bytes ≡ strings_of texts ++ (text ++ []) ∷ [] =
    so_far ∙ ap (λ (rest : List ℕ). strings_of texts ++ after text (slice_split is_nul rest)) (drop_all i bytes past) in
    let len : length (slice_split is_nul bytes) - 1 ≡ length (strings_of texts) = omega (arith, ap length all, length-append (strings_of texts) ((text ++ []) ∷ [])) in
    sym (ap (λ k. take k (slice_split is_nul bytes)) len ∙ (ap (take (length (strings_of texts))) all ∙ take-front (strings_of texts) (text ++ [])))

-- the bytes of one text more
pub bytes-pushed : (texts : List (Vec ℕ Global)) (text : Vec ℕ Global) → length (string_bytes (strings_of (texts ++ text ∷ []))) ≡ length (string_bytes (strings_of texts)) + (length text.items + 1)
bytes-pushed [] text = omega (arith, length-append (text.items ++ 0 ∷ []) [], length-append text.items (0 ∷ []))
bytes-pushed (first ∷ texts) text =
    omega (arith, bytes-pushed texts text, length-append (first.items ++ 0 ∷ []) (string_bytes (strings_of (texts ++ text ∷ []))), length-append (first.items ++ 0 ∷ []) (string_bytes (strings_of texts)))
