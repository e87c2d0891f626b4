-- What an entry is: a directory, or a file with its bytes.
use Rattle.std.specs.Prelude.{◌≡◌, ℕ, ◌+◌, Bool, true, false, List, Result, Ok, Err}
use Rattle.unix_model.specs.Boot.{Node, NewDirectory, NewFile}
use Rattle.unix_model.specs.Texts.{lines_of}
use Rattle.rv_asm.specs.Files.{IsFile}
use Rattle.rv_asm.specs.Programs.{Program, Refusal, Scan, assembled, scan_lines, start_scan}
use Rattle.bundle.specs.declared.fault.BundleKind.{BundleKind}
use Rattle.bundle.specs.declared.fault.BundleKind.TheVariants.{BadAsm}
use Rattle.bundle.specs.declared.said.Form.{Form}
use Rattle.bundle.specs.declared.said.Form.TheVariants.{Text, Hex, Asm}
use Rattle.bundle.specs.Outcomes.{Outcome, Refused}
use Rattle.bundle.specs.EntryLines as line
use Rattle.bundle.specs.EntryLines.{What}
use Rattle.bundle.specs.Parts.{Part, Whole, Broken, part_of}

pub data Content : Type 0 where
  Directory : Content
  -- a file of these bytes
  Bytes : (bytes : List ℕ) → Content
  -- a file that is the ELF file of this program
  Elf : (program : Program) → Content

-- what an entry is made of behind its line, how many lines that took, and the bytes behind them
pub record Made : Type 0 where
  pub content : Content
  pub lines : ℕ
  pub rest : List ℕ

-- a refusal at a line behind the entry line of this number; the first such line is 1
abbrev pub refused_behind : {A : Type 0} → (number : ℕ) → BundleKind → (line : ℕ) → Result A Outcome
refused_behind number kind line = Err (Refused kind (number + line))

-- lines whose bytes are the file's
abbrev pub file_made : ℕ → ℕ → Part → Result Made Outcome
file_made number lines (Whole bytes rest) = Ok (record { content = Bytes bytes; lines = lines; rest = rest })
file_made number lines (Broken bytes kind before) = refused_behind number kind (before + 1)

-- lines that are a source: as the assembler says
abbrev pub program_made : ℕ → ℕ → List ℕ → Result Program Refusal → Result Made Outcome
program_made number lines rest (Ok program) = Ok (record { content = Elf program; lines = lines; rest = rest })
program_made number lines rest (Err refusal) = refused_behind number BadAsm refusal.line

-- The front of a source, behind which a line is missing or too long: a line of it that is refused by itself comes first.
abbrev pub front_refused : ℕ → BundleKind → ℕ → Result Scan Refusal → Result Made Outcome
front_refused number kind before (Ok scan) = refused_behind number kind (before + 1)
front_refused number kind before (Err refusal) = refused_behind number BadAsm refusal.line

abbrev pub source_made : ℕ → ℕ → Part → Result Made Outcome
source_made number lines (Whole text rest) = program_made number lines rest (assembled text)
source_made number lines (Broken text kind before) = front_refused number kind before (scan_lines 1 start_scan (lines_of text))

abbrev pub part_made : ℕ → Form → ℕ → Part → Result Made Outcome
part_made number Text lines part = file_made number lines part
part_made number Hex lines part = file_made number lines part
part_made number Asm lines part = source_made number lines part

-- a source of the userland: where the assembler refuses it, the entry's own line is refused
abbrev pub user_made : ℕ → List ℕ → Result Program Refusal → Result Made Outcome
user_made number rest (Ok program) = Ok (record { content = Elf program; lines = 0; rest = rest })
user_made number rest (Err refusal) = Err (Refused BadAsm number)

-- what the entry line of this number makes, with the bytes behind it
unfoldable pub made_of : ℕ → What → List ℕ → Result Made Outcome
made_of number line.Directory rest = Ok (record { content = Directory; lines = 0; rest = rest })
made_of number (line.Part form lines) rest = part_made number form lines (part_of form lines rest)
made_of number (line.Program source) rest = user_made number rest (assembled source)

-- ---- the bytes of a file

-- a file has these bytes. A program has one file, as a law of the assembler says
abbrev pub Holds : Content → List ℕ → Type 0
Holds Directory file = ⊥
Holds (Bytes bytes) file = bytes ≡ file
Holds (Elf program) file = IsFile program file

-- what an entry puts in a machine
abbrev pub Puts : Content → Node → Type 0
Puts Directory NewDirectory = Unit {0}
Puts Directory (NewFile file) = ⊥
Puts (Bytes bytes) NewDirectory = ⊥
Puts (Bytes bytes) (NewFile file) = bytes ≡ file
Puts (Elf program) NewDirectory = ⊥
Puts (Elf program) (NewFile file) = IsFile program file

abbrev pub is_directory : Content → Bool
is_directory Directory = true
is_directory (Bytes bytes) = false
is_directory (Elf program) = false
