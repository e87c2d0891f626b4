-- The tests of the loader, on the headers of a program's file.
use Rattle.std.proofs.Common.{◌≡◌, ℕ, zero, suc, ◌+◌, ◌<◌, ◌≤◌, false, [], ◌∷◌, Result, Ok, ◌==◌, refl, arith}
use Rattle.std.proofs.lemmas.Bool.{le-ltb, ne_eqb}
use Rattle.unix_model.specs.declared.elf.ElfFault.{ElfFault}
use Rattle.unix_model.specs.Limits.{loads_end}
use Rattle.unix_model.specs.Elf.{file_tests, first_of_tests, load_tests, loads_with, overlaps, segment_of}
use Rattle.rv_asm.specs.Layout.{text_start, data_start}
use Rattle.asm_laws.specs.Plans.{data_load, loads_of_parts, text_load}
use Rattle.asm_laws.proofs.Fields.{header_made, load_header}

pub file_passes : {A : Type 0} (bytes : ℕ) (rest : Result A ElfFault) → 116 ≤ bytes → first_of_tests (file_tests bytes header_made) rest ≡ rest
unfolding file_tests text_start
file_passes bytes rest long = rw (le-ltb bytes 52 (omega arith), le-ltb bytes 116 long) refl

not_none : (n : ℕ) → 0 < n → (n == 0) ≡ false
not_none n above = ne_eqb n 0 (λ none. omega (arith, above, none))

-- where the data begin: behind the text, and no page further than they have to
pub data_behind : (text_bytes : ℕ) → text_start + text_bytes ≤ data_start text_bytes
unfolding data_start
data_behind text_bytes = omega arith

pub data_near : (text_bytes : ℕ) → data_start text_bytes ≤ text_start + text_bytes + 4095
unfolding data_start
data_near text_bytes = omega arith

pub text_passes : (bytes text_bytes : ℕ) → 0 < text_bytes → text_bytes ≤ 1048576 → 116 + text_bytes ≤ bytes
    → loads_with bytes (load_header 116 text_start text_bytes 5) [] ≡ Ok (text_load text_bytes ∷ [])
unfolding loads_with load_tests segment_of text_load text_start loads_end
text_passes bytes text_bytes above few inside =
    rw (not_none text_bytes above, le-ltb text_bytes text_bytes (omega arith), le-ltb bytes (116 + text_bytes) inside, le-ltb 0x7FFE_0000 (0x1_0000 + text_bytes) (omega arith)) refl

-- data behind the text have no address in common with it
apart : (text_bytes data_bytes : ℕ) → overlaps (data_load text_bytes data_bytes) (text_load text_bytes) ≡ false
unfolding overlaps data_load text_load
apart text_bytes data_bytes = rw (le-ltb (data_start text_bytes) (text_start + text_bytes) (data_behind text_bytes)) refl

no_data : (bytes text_bytes : ℕ) → loads_with bytes (load_header (116 + text_bytes) (data_start text_bytes) 0 6) (text_load text_bytes ∷ []) ≡ Ok (loads_of_parts text_bytes 0)
unfolding loads_with loads_of_parts
no_data bytes text_bytes = refl

some_data : (bytes text_bytes data_bytes : ℕ) → 0 < data_bytes → text_bytes ≤ 1048576 → data_bytes ≤ 1048576 → 116 + text_bytes + data_bytes ≤ bytes
    → loads_with bytes (load_header (116 + text_bytes) (data_start text_bytes) data_bytes 6) (text_load text_bytes ∷ []) ≡ Ok (loads_of_parts text_bytes data_bytes)
unfolding loads_with loads_of_parts load_tests segment_of data_load text_start loads_end
some_data bytes text_bytes data_bytes above few_text few inside =
    let near = data_near text_bytes in
    rw (not_none data_bytes above, le-ltb data_bytes data_bytes (omega arith), le-ltb bytes (116 + text_bytes + data_bytes) inside, le-ltb 0x7FFE_0000 (data_start text_bytes + data_bytes) (omega arith), apart text_bytes data_bytes) refl

pub data_passes : (bytes text_bytes data_bytes : ℕ) → text_bytes ≤ 1048576 → data_bytes ≤ 1048576 → 116 + text_bytes + data_bytes ≤ bytes
    → loads_with bytes (load_header (116 + text_bytes) (data_start text_bytes) data_bytes 6) (text_load text_bytes ∷ []) ≡ Ok (loads_of_parts text_bytes data_bytes)
data_passes bytes text_bytes zero few_text few inside = no_data bytes text_bytes
data_passes bytes text_bytes (suc n) few_text few inside = some_data bytes text_bytes (suc n) (omega arith) few_text few inside
