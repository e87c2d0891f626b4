-- A write in the definitions' words: zeros up to where it ends, and then its bytes over what stands there.
use Rattle.std.proofs.Common.{◌≡◌, ℕ, ◌+◌, ◌-◌, ◌<◌, ◌≤◌, List, [], ◌++◌, length, take, drop, replicate, length-append, ap, ap₂, sym, ◌∙◌, arith, ⊎_elim, take_all}
use Rattle.std.proofs.Math.Seq.{take-append-add}
use Rattle.std.proofs.lemmas.Bool.{cases_lt}
use Rattle.std.proofs.lemmas.List.{append-nil, drop_all, length-replicate, take-append-le, take-replicate}
use Rattle.kn_base.specs.Rows.{overwritten as put_over}
use Rattle.kn_base.proofs.RowLaws.{length-overwritten}
use Rattle.unix_model.specs.FileCalls.{overwritten, resized}

-- within the length there is no gap
pub written-inside : (bytes part : List ℕ) (place : ℕ) → place + length part ≤ length bytes → put_over bytes place part ≡ overwritten bytes place part
unfolding put_over overwritten
written-inside bytes part place fits =
    let none : 0 ≡ place - length bytes = omega arith in
    ap (λ front. front ++ part ++ drop (place + length part) bytes) (sym (append-nil (take place bytes)))
    ∙ ap (λ n. take place bytes ++ replicate n 0 ++ part ++ drop (place + length part) bytes) none

-- what is before a place, with zeros up to it
front-resized : (bytes : List ℕ) (place size : ℕ) → length bytes ≤ size → place ≤ size → take place (resized bytes size) ≡ take place bytes ++ replicate (place - length bytes) 0
unfolding resized
front-resized bytes place size short low =
    ap (λ front. take place (front ++ replicate (size - length bytes) 0)) (take_all size bytes short)
    ∙ ⊎_elim
    (λ (inside : place < length bytes).
    let none : 0 ≡ place - length bytes = omega arith in
    take-append-le place bytes (replicate (size - length bytes) 0) (omega arith) ∙ sym (append-nil (take place bytes)) ∙ ap (λ n. take place bytes ++ replicate n 0) none)
    (λ (past : length bytes ≤ place).
    let split : place ≡ length bytes + (place - length bytes) = omega arith in
    ap (λ n. take n (bytes ++ replicate (size - length bytes) 0)) split
    ∙ take-append-add bytes (replicate (size - length bytes) 0) (place - length bytes)
    ∙ ap₂ (λ front zeros. front ++ zeros) (sym (take_all place bytes past)) (take-replicate (place - length bytes) (size - length bytes) 0 (omega arith)))
    (cases_lt place (length bytes))

pub length-resized : (bytes : List ℕ) (size : ℕ) → length bytes ≤ size → length (resized bytes size) ≡ size
unfolding resized
length-resized bytes size short =
    omega (arith, length-append (take size bytes) (replicate (size - length bytes) 0), length-replicate {A = ℕ} (size - length bytes) 0, ap length (take_all size bytes short))

-- past the length: the file first gets the length that it ends with, zeros, and then the bytes
pub written-past : (bytes part : List ℕ) (place : ℕ) → length bytes ≤ place + length part → put_over (resized bytes (place + length part)) place part ≡ overwritten bytes place part
unfolding put_over overwritten
written-past bytes part place short =
    let front = front-resized bytes place (place + length part) short (omega arith) in
    let long = length-resized bytes (place + length part) short in
    let rest : drop (place + length part) (resized bytes (place + length part)) ≡ [] = drop_all (place + length part) (resized bytes (place + length part)) (omega arith) in
    let none : drop (place + length part) bytes ≡ [] = drop_all (place + length part) bytes short in
    ap₂ (λ front rest. front ++ part ++ rest) front (rest ∙ sym none)

pub length-written : (bytes part : List ℕ) (place : ℕ) → length bytes ≤ place + length part → length (overwritten bytes place part) ≡ place + length part
length-written bytes part place short =
    let long = length-resized bytes (place + length part) short in
    ap length (sym (written-past bytes part place short)) ∙ length-overwritten (resized bytes (place + length part)) place part (omega arith) ∙ long
