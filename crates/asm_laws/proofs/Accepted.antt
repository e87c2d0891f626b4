-- The file of a program is accepted.
use Rattle.std.proofs.Common.{◌≡◌, ℕ, ◌+◌, ◌*◌, ◌<◌, ◌≤◌, List, [], ◌∷◌, ◌++◌, length, Ok, refl, ap, ◌∙◌, arith, append_assoc}
use Rattle.std.proofs.lemmas.List.{length-append}
use Rattle.unix_model.specs.Elf.{first_of_tests, file_tests, loads_of_first, plan_of, plan_with, program_header, then_with, loads_with}
use Rattle.rv_asm.specs.Files.{IsFile, head}
use Rattle.rv_asm.specs.Layout.{text_start}
use Rattle.rv_asm.specs.Programs.{Program, assembled}
use Rattle.rv_asm.proofs.PlacedLaws.{head_length}
use Rattle.rv_asm.proofs.SizeLaws.{spelled_length}
use Rattle.asm_laws.specs.Plans.{loads_of_parts, plan_of_parts, text_load}
use Rattle.asm_laws.proofs.Fields.{data_header_read, file_header_read, text_header_read}
use Rattle.asm_laws.proofs.Sizes.{HasSizes, meaning_sizes}
use Rattle.asm_laws.proofs.Tests.{data_near, data_passes, file_passes, text_passes}

-- a file with parts of so many bytes behind its head
pub record HasParts (text_bytes data_bytes : ℕ) (rest : List ℕ) : Type 0 where
  pub some_text : 0 < text_bytes
  pub few_text : text_bytes ≤ 1048576
  pub few_data : data_bytes ≤ 1048576
  pub long : length rest ≡ text_bytes + data_bytes

file_long : (text_bytes data_bytes : ℕ) (rest : List ℕ) → HasParts text_bytes data_bytes rest → length (head text_bytes data_bytes ++ rest) ≡ 116 + text_bytes + data_bytes
file_long text_bytes data_bytes rest parts =
    let both = length-append (head text_bytes data_bytes) rest in
    let first = head_length text_bytes data_bytes in
    let second = parts.long in
    omega (arith, both, first, second)

text_start_is : text_start ≡ 65536
unfolding text_start
text_start_is = refl

-- the loads of the two program headers
loads_are : (text_bytes data_bytes : ℕ) (rest : List ℕ) → HasParts text_bytes data_bytes rest
    → loads_of_first 2 (head text_bytes data_bytes ++ rest) 52 ≡ Ok (loads_of_parts text_bytes data_bytes)
unfolding loads_of_first
loads_are text_bytes data_bytes rest parts =
    let file : List ℕ = head text_bytes data_bytes ++ rest in
    let long = file_long text_bytes data_bytes rest parts in
    let start : text_start ≡ 65536 = text_start_is in
    let near = data_near text_bytes in
    let few_text = parts.few_text in
    let few_data = parts.few_data in
    let first = text_header_read text_bytes data_bytes rest (omega arith) in
    let second = data_header_read text_bytes data_bytes rest (omega arith) (omega (arith, near, start)) (omega arith) in
    ap (λ header. then_with (length file) (program_header file 84) (loads_with (length file) header [])) first
    ∙ ap (then_with (length file) (program_header file 84)) (text_passes (length file) text_bytes parts.some_text few_text (omega (arith, long)))
    ∙ ap (λ header. loads_with (length file) header (text_load text_bytes ∷ [])) second
    ∙ data_passes (length file) text_bytes data_bytes few_text few_data (omega (arith, long))

plan_is : (text_bytes data_bytes : ℕ) → plan_with text_start (Ok (loads_of_parts text_bytes data_bytes)) ≡ Ok (plan_of_parts text_bytes data_bytes)
unfolding loads_of_parts plan_of_parts
plan_is text_bytes data_bytes = refl

-- the plan of a file with these parts
parts_accepted : (text_bytes data_bytes : ℕ) (rest : List ℕ) → HasParts text_bytes data_bytes rest
    → plan_of (head text_bytes data_bytes ++ rest) ≡ Ok (plan_of_parts text_bytes data_bytes)
unfolding plan_of
parts_accepted text_bytes data_bytes rest parts =
    let file : List ℕ = head text_bytes data_bytes ++ rest in
    let long = file_long text_bytes data_bytes rest parts in
    ap (λ header. first_of_tests (file_tests (length file) header) (plan_with header.entry (loads_of_first header.headers file header.table))) (file_header_read text_bytes data_bytes rest)
    ∙ file_passes (length file) (plan_with text_start (loads_of_first 2 file 52)) (omega (arith, long))
    ∙ ap (plan_with text_start) (loads_are text_bytes data_bytes rest parts)
    ∙ plan_is text_bytes data_bytes

program_parts : (program : Program) (text : List ℕ) → HasSizes program → length text ≡ 4 * length program.instructions
    → HasParts (length text) (length program.bytes) (text ++ program.bytes)
program_parts program text sizes long = record {
  some_text = let some = sizes.some_text in omega (arith, some, long);
  few_text = let few = sizes.few_text in omega (arith, few, long);
  few_data = sizes.few_data;
  long = length-append text program.bytes;
}

pub accepted : (source : List ℕ) (program : Program) (file : List ℕ) → assembled source ≡ Ok program → IsFile program file
    → plan_of file ≡ Ok (plan_of_parts (4 * length program.instructions) (length program.bytes))
accepted source program file means is =
    let long = spelled_length program.instructions is.text is.spelled in
    ap plan_of (is.whole ∙ append_assoc (head (length is.text) (length program.bytes)) is.text program.bytes)
    ∙ parts_accepted (length is.text) (length program.bytes) (is.text ++ program.bytes) (program_parts program is.text (meaning_sizes source program means) long)
    ∙ ap (λ bytes. Ok (plan_of_parts bytes (length program.bytes))) long
