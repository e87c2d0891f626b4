-- The memory of a program while it is loaded: its pages are mapped, the bytes of its loads are put, then its stack, and the pages
-- that no load makes writable become read-only.
use Rattle.std.specs.Prelude.{◌≡◌, ◌≤◌, ℕ, false, List, [], ◌∷◌, Some, None, option_map, take, drop, length, if◌then◌else◌}
use Rattle.unix_model.specs.declared.elf.Load.{Load}
use Rattle.unix_model.specs.Loading.{image, page_mapped, stack_bytes, stack_pointer}
use Rattle.unix_model.specs.Memory.{Memory, Page, with_bytes, zero_page}
use Rattle.elf_read.specs.Accepted.{AreLoadable}
use Rattle.unix_exec.specs.Seals.{page_sealed}
use Rattle.unix_exec.specs.Start.{AreStrings}

-- the pages that a program needs, of zeros, and to be written
unfoldable pub mapped_memory : List Load → Memory
mapped_memory loads = λ page. if page_mapped loads page then Some zero_page else None

-- the bytes of a load that are in the file
abbrev pub file_part : List ℕ → Load → List ℕ
file_part file load = take load.file_bytes (drop load.offset file)

-- the memory once the bytes of each load are put, in order
unfoldable pub with_loads : List ℕ → List Load → Memory → Memory
with_loads file [] memory = memory
with_loads file (load ∷ loads) memory = with_loads file loads (with_bytes memory load.at (file_part file load))

abbrev pub read_only_page : Page → Page
read_only_page page = record page { writable = false }

-- the memory once pages are read-only
unfoldable pub sealed_memory : List Load → Memory → Memory
sealed_memory loads memory = λ page. if page_sealed loads page then option_map read_only_page (memory page) else memory page

-- The pages mapped, the bytes of each load and the stack put, and pages made read-only: that is the memory of the loaded program.
abbrev pub LoadingLaw : Type 0
LoadingLaw =
    (file : List ℕ) (loads : List Load) (strings : List (List ℕ)) (bytes : List ℕ) (count : ℕ)
    → AreLoadable (length file) loads → AreStrings bytes count strings → count ≤ 16 → length bytes ≤ 4096
    → sealed_memory loads (with_bytes (with_loads file loads (mapped_memory loads)) (stack_pointer strings) (stack_bytes strings)) ≡ image file loads strings
