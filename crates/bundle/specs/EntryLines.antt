-- What one line of a bundle says.
use Rattle.std.specs.Prelude.{ℕ, ◌+◌, Bool, true, false, ◌||◌, List, length, take, drop, position, Option, Some, None, is_some, codes, bytes_eq, ◌==◌, if◌then◌else◌}
use Rattle.unix_model.specs.Texts.{number_of}
use Rattle.userland.specs.Programs.{source_named}
use Rattle.rv_asm.specs.Choices.{◌>>=◌}
use Rattle.bundle.specs.declared.said.Form.{Form}
use Rattle.bundle.specs.declared.said.Form.TheVariants.{Text, Hex, Asm}

-- what an entry is to be made from
pub data What : Type 0 where
  Directory : What
  -- the file of so many lines that follow
  Part : (form : Form) (lines : ℕ) → What
  -- the file of a source of the userland
  Program : (source : List ℕ) → What

-- whether that is a directory
abbrev pub makes_directory : What → Bool
makes_directory Directory = true
makes_directory (Part form lines) = false
makes_directory (Program source) = false

pub record Said : Type 0 where
  pub path : List ℕ
  pub what : What

abbrev pub is_space : ℕ → Bool
is_space byte = byte == 32

-- what stands before and behind a space
pub record Halves : Type 0 where
  pub front : List ℕ
  pub behind : List ℕ

abbrev pub halves_at : List ℕ → Option ℕ → Option Halves
halves_at text None = None
halves_at text (Some space) = Some (record { front = take space text; behind = drop (space + 1) text })

-- a text at its first space
abbrev pub halves_of : List ℕ → Option Halves
halves_of text = halves_at text (position is_space text)

-- one word: some bytes without a space
unfoldable pub word : List ℕ → Option (List ℕ)
word text = if (length text == 0) || is_some (position is_space text) then None else Some text

-- `dir PATH`
unfoldable pub dir_line : List ℕ → Option Said
dir_line operands = do
  path ← word operands
  Some (record { path = path; what = Directory })

-- `text PATH N`, `hex PATH N`, `asm PATH N`, where N is at most 100,000, in plain decimal
unfoldable pub part_line : Form → List ℕ → Option Said
part_line form operands = do
  halves ← halves_of operands
  path ← word halves.front
  lines ← number_of 100000 halves.behind
  Some (record { path = path; what = Part form lines })

-- `user PATH NAME`, where NAME is that of a program of the userland
unfoldable pub user_line : List ℕ → Option Said
user_line operands = do
  halves ← halves_of operands
  path ← word halves.front
  source ← source_named halves.behind
  Some (record { path = path; what = Program source })

-- an entry by its first word and what follows it
unfoldable pub said_by : List ℕ → List ℕ → Option Said
said_by first operands =
    if bytes_eq first (codes "dir") then dir_line operands else
    if bytes_eq first (codes "text") then part_line Text operands else
    if bytes_eq first (codes "hex") then part_line Hex operands else
    if bytes_eq first (codes "asm") then part_line Asm operands else
    if bytes_eq first (codes "user") then user_line operands else
    None

-- the entry that a line says; None where it says none
unfoldable pub said : List ℕ → Option Said
said line = do
  halves ← halves_of line
  said_by halves.front halves.behind
