-- The parts of a text that is cut: each holds what the text holds, and no byte at which it was cut.
use Rattle.std.proofs.Common.{◌≡◌, ℕ, ◌-◌, ◌≤◌, Bool, false, List, [], ◌∷◌, arith, inl, inr, length, length-take}
use Rattle.std.proofs.lemmas.Bool.{cases_Bool, cases_lt}
use Rattle.std.proofs.lemmas.List.Elements.{All-cons, All-get_or, All-head, All-nil, All-same, All-tail, All-take, All-weaker}
use Rattle.std.proofs.lemmas.List.{get_or_past}
use Rattle.std.proofs.lemmas.List.Splits.{length-slice_split, slice_split-cons_no, slice_split-cons_yes}
use Rattle.std.proofs.lemmas.List.Sums.{count_by-le-length}
use Rattle.std.specs.List.{onto_first, slice_split}
use Rattle.std.specs.Prelude.{All}
use Rattle.unix_model.specs.Effect.{is_nul, text_of, texts_of}
use Rattle.unix_model.specs.Process.{SentCall}
use Rattle.unix_model.specs.Rules.{IsByte}

-- what a part holds
abbrev pub InPart : (ℕ → Type 0) → (ℕ → Bool) → ℕ → Type 0
InPart P cuts x = P x × (cuts x ≡ false)

onto-all : (R : ℕ → Type 0) (x : ℕ) (parts : List (List ℕ)) → R x → All (All R) parts → All (All R) (onto_first x parts)
onto-all R x [] holds all = All-cons (All R) (x ∷ []) [] (All-cons R x [] holds (All-nil R)) (All-nil (All R))
onto-all R x (part ∷ parts) holds all =
    All-cons (All R) (x ∷ part) parts (All-cons R x part holds (All-head (All R) part parts all)) (All-tail (All R) part parts all)

pub parts-hold : (P : ℕ → Type 0) (cuts : ℕ → Bool) (xs : List ℕ) → All P xs → All (All (InPart P cuts)) (slice_split cuts xs)
parts-hold P cuts [] all = All-cons (All (InPart P cuts)) [] [] (All-nil (InPart P cuts)) (All-nil (All (InPart P cuts)))
parts-hold P cuts (x ∷ xs) all = elim (cases_Bool (cuts x)) as (λ _. All (All (InPart P cuts)) (slice_split cuts (x ∷ xs))) [
  | inl cut ↦ rw (slice_split-cons_yes cuts x xs cut) (All-cons (All (InPart P cuts)) [] (slice_split cuts xs) (All-nil (InPart P cuts)) (parts-hold P cuts xs (All-tail P x xs all)))
  | inr uncut ↦ rw (slice_split-cons_no cuts x xs uncut) (onto-all (InPart P cuts) x (slice_split cuts xs) (All-head P x xs all, uncut) (parts-hold P cuts xs (All-tail P x xs all)))
]

-- the texts that a call brings: bytes, none of which is NUL
abbrev pub IsTextByte : ℕ → Type 0
IsTextByte = InPart IsByte is_nul

pub texts-hold : (sent : SentCall) → All IsByte sent.bytes → All (All IsTextByte) (texts_of sent)
unfolding texts_of
texts-hold sent all = All-take (All IsTextByte) (length (slice_split is_nul sent.bytes) - 1) (slice_split is_nul sent.bytes) (parts-hold IsByte is_nul sent.bytes all)

-- there are no more of them than bytes
pub texts-few : (sent : SentCall) → length (texts_of sent) ≤ length sent.bytes
unfolding texts_of
texts-few sent =
    omega (arith, length-take (length (slice_split is_nul sent.bytes) - 1) (slice_split is_nul sent.bytes), length-slice_split is_nul sent.bytes, count_by-le-length is_nul sent.bytes)

pub text-bytes : (texts : List (List ℕ)) → All (All IsTextByte) texts → All (All IsByte) texts
text-bytes texts all = All-weaker (All IsTextByte) (All IsByte) (λ text holds. All-weaker IsTextByte IsByte (λ x both. both.0) text holds) texts all

pub text-holds : (sent : SentCall) (number : ℕ) → All IsByte sent.bytes → All IsTextByte (text_of sent number)
text-holds sent number all = elim (cases_lt number (length (texts_of sent))) as (λ _. All IsTextByte (text_of sent number)) [
  | inl below ↦ All-get_or (All IsTextByte) (texts_of sent) number [] below (texts-hold sent all)
  | inr past ↦ All-same IsTextByte (text_of sent number) [] (get_or_past (texts_of sent) number [] past) (All-nil IsTextByte)
]
