-- The ELF file of a program (System V gABI, ELF header and program header).
use Rattle.std.specs.Prelude.{◌≡◌, ℕ, ◌+◌, ◌<◌, ◌^◌, List, [], ◌∷◌, ◌++◌, length, Some, Result, Err}
use Rattle.std.specs.Int.{to_le_bytes, w16, w32}
use Rattle.unix_model.specs.declared.instructions.Instr.{Instr}
use Rattle.unix_model.specs.declared.instructions.Instr.TheVariants.{Fence}
use Rattle.unix_model.specs.Instructions.{decoded}
use Rattle.rv_asm.specs.Layout.{text_start, data_start}
use Rattle.rv_asm.specs.declared.fault.AsmFault.{AsmFault}
use Rattle.rv_asm.specs.declared.fault.AsmFault.TheVariants.{At, NoMemory}
use Rattle.rv_asm.specs.Programs.{Program, Refusal}

abbrev pub half : ℕ → List ℕ
half number = to_le_bytes w16 number

abbrev pub word : ℕ → List ℕ
word number = to_le_bytes w32 number

-- 32-bit, little-endian, version 1, and nine zeros
abbrev pub identification : List ℕ
identification = 0x7F ∷ 0x45 ∷ 0x4C ∷ 0x46 ∷ 1 ∷ 1 ∷ 1 ∷ 0 ∷ 0 ∷ 0 ∷ 0 ∷ 0 ∷ 0 ∷ 0 ∷ 0 ∷ 0 ∷ []

-- An executable (2) for RISC-V (243), version 1, which begins at the text, with its program headers at 52: headers of 52
-- and 32 bytes, two of the latter, and no sections.
unfoldable pub file_header : List ℕ
file_header =
    identification
    ++ half 2 ++ half 243 ++ word 1 ++ word text_start ++ word 52 ++ word 0 ++ word 0
    ++ half 52 ++ half 32 ++ half 2 ++ half 0 ++ half 0 ++ half 0

-- A part to load (1): so many bytes at a place of the file go to an address; 1 the alignment.
unfoldable pub program_header : ℕ → ℕ → ℕ → ℕ → List ℕ
program_header offset address bytes flags =
    word 1 ++ word offset ++ word address ++ word address ++ word bytes ++ word bytes ++ word flags ++ word 1

-- the head of a file whose parts have so many bytes: text is read and executed (5), data are read and written (6)
unfoldable pub head : ℕ → ℕ → List ℕ
head text_bytes data_bytes =
    file_header
    ++ program_header 116 text_start text_bytes 5
    ++ program_header (116 + text_bytes) (data_start text_bytes) data_bytes 6

-- a word spells an instruction, and FENCE by the one word that orders everything
pub record Spells (instruction : Instr) (spelled : ℕ) : Type 0 where
  pub small : spelled < 2 ^ 32
  pub decodes : decoded spelled ≡ Some instruction
  pub fence : instruction ≡ Fence → spelled ≡ 0x0FF0_000F

-- bytes spell instructions, four bytes each, the lowest first
abbrev pub SpellAll : List Instr → List ℕ → Type 0
SpellAll [] bytes = bytes ≡ []
SpellAll (instruction ∷ instructions) bytes =
    (spelled : ℕ) × Spells instruction spelled × (rest : List ℕ) × (bytes ≡ word spelled ++ rest) × SpellAll instructions rest

-- a file is that of a program: its head, its instructions, and its data
pub record IsFile (program : Program) (file : List ℕ) : Type 0 where
  pub text : List ℕ
  pub spelled : SpellAll program.instructions text
  pub whole : file ≡ head (length text) (length program.bytes) ++ text ++ program.bytes

-- What a fault tells of a meaning: the line that is refused; nothing where host memory ran out.
abbrev pub Tells : {A : Type 0} → AsmFault → Result A Refusal → Type 0
Tells (At kind line) meaning = meaning ≡ Err (record { kind = kind; line = line })
Tells NoMemory meaning = Unit {0}
