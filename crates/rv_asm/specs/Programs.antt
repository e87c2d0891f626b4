-- What a source means: its instructions and its data, or the first line that is refused.
use Rattle.std.specs.Prelude.{ℕ, ◌+◌, ◌%◌, Bool, ◌&&◌, List, [], ◌∷◌, ◌++◌, length, replicate, Option, Some, None, option_map, is_some, Result, Ok, Err, ℤ, pos, neg_ℤ, ◌-ℤ◌, int_le, int_lt, nat_abs, ◌==◌, nat_lt, if◌then◌else◌}
use Rattle.std.specs.Int.{to_le_bytes, w32}
use Rattle.unix_model.specs.declared.instructions.Instr.{Instr}
use Rattle.unix_model.specs.declared.instructions.Instr.TheVariants as instr
use Rattle.unix_model.specs.Texts.{lines_of}
use Rattle.rv_asm.specs.declared.fault.AsmKind.{AsmKind}
use Rattle.rv_asm.specs.declared.fault.AsmKind.TheVariants.{Syntax, UnknownLabel, DoubleLabel, OutOfRange, TooLong}
use Rattle.rv_asm.specs.declared.layout.Place.{Place}
use Rattle.rv_asm.specs.declared.layout.Position.{Position}
use Rattle.rv_asm.specs.declared.mnemonics.Part.{Part}
use Rattle.rv_asm.specs.declared.mnemonics.Part.TheVariants.{Text, Data}
use Rattle.rv_asm.specs.Layout.{Labels, address_of, moved, no_labels, padding, place_of, start, text_start, with_label}
use Rattle.rv_asm.specs.Lines.{parts_of}
use Rattle.rv_asm.specs.Letters.{is_label}
use Rattle.rv_asm.specs.Statements.{Statement, Nothing, Switch, Single, Double, Jump, Branch, Address, Word, Byte, Ascii, Space, Align, fitting, halves, statement_of}

-- the kind of a refusal, and its line, of which the first is 1
pub record Refusal : Type 0 where
  pub kind : AsmKind
  pub line : ℕ

infixl 10 ◌>>=◌
abbrev pub ◌>>=◌ : {A B E : Type 0} → Result A E → (A → Result B E) → Result B E
(Ok x) >>= f = f x
(Err e) >>= f = Err e

abbrev pub or_refused : {A : Type 0} → AsmKind → Option A → Result A AsmKind
or_refused kind None = Err kind
or_refused kind (Some value) = Ok value

abbrev pub at_line : {A : Type 0} → ℕ → Result A AsmKind → Result A Refusal
at_line line (Ok value) = Ok value
at_line line (Err kind) = Err (record { kind = kind; line = line })

-- ---- the first reading: places of labels

abbrev pub most_lines : ℕ
most_lines = 100000

abbrev pub most_line_bytes : ℕ
most_line_bytes = 1024

pub record Scan : Type 0 where
  pub position : Position
  pub labels : Labels

-- the labels with one more, where there is one: its name is right, and it isn't there yet
abbrev pub labelled : Labels → Place → Option (List ℕ) → Result Labels AsmKind
labelled labels place None = Ok labels
labelled labels place (Some name) =
    if is_label name then (if is_some (labels name) then Err DoubleLabel else Ok (with_label labels name place)) else Err Syntax

-- one line: its length, its label, and its statement, in this order
unfoldable pub scan_line : Scan → List ℕ → Result Scan AsmKind
scan_line scan line =
    if nat_lt most_line_bytes (length line) then Err TooLong else do
      labels ← labelled scan.labels (place_of scan.position) (parts_of line).label
      statement ← or_refused Syntax (statement_of scan.position.part (parts_of line).statement)
      Ok (record { position = moved statement scan.position; labels = labels })

-- the lines from a number on
unfoldable pub scan_lines : ℕ → Scan → List (List ℕ) → Result Scan Refusal
scan_lines number scan [] = Ok scan
scan_lines number scan (line ∷ lines) =
    if nat_lt most_lines number then Err (record { kind = TooLong; line = number }) else do
      next ← at_line number (scan_line scan line)
      scan_lines (number + 1) next lines

-- ---- the second reading: instructions and data

-- where labels stand, and how many bytes the text has
pub record Layout : Type 0 where
  pub labels : Labels
  pub text_bytes : ℕ

abbrev pub place_address : ℕ → Option Place → Option ℕ
place_address text_bytes None = None
place_address text_bytes (Some place) = Some (address_of text_bytes place)

-- the address of a label
abbrev pub target_of : Layout → List ℕ → Result ℕ AsmKind
target_of layout name = or_refused UnknownLabel (place_address layout.text_bytes (layout.labels name))

-- how far a target is from an instruction
abbrev pub distance : ℕ → ℕ → ℤ
distance address target = pos target -ℤ pos address

-- an even distance from -limit to limit - 1
abbrev pub reaches : ℕ → ℤ → Bool
reaches limit far = int_le (neg_ℤ (pos limit)) far && int_lt far (pos limit) && (nat_abs far % 2 == 0)

abbrev pub one : Instr → List Instr
one instruction = instruction ∷ []

abbrev pub both : Instr × Instr → List Instr
both instructions = instructions.0 ∷ instructions.1 ∷ []

-- the instructions of a statement at an address
unfoldable pub instructions_of : Layout → ℕ → Statement → Result (List Instr) AsmKind
instructions_of layout address Nothing = Ok []
instructions_of layout address (Switch part) = Ok []
instructions_of layout address (Single instruction) = do
  only ← or_refused OutOfRange instruction
  Ok (one only)
instructions_of layout address (Double instructions) = do
  pair ← or_refused OutOfRange instructions
  Ok (both pair)
instructions_of layout address (Jump rd label) = do
  target ← target_of layout label
  or_refused OutOfRange (fitting (reaches 1048576 (distance address target)) (one (instr.Jal rd (distance address target))))
instructions_of layout address (Branch op rs1 rs2 label) = do
  target ← target_of layout label
  or_refused OutOfRange (fitting (reaches 4096 (distance address target)) (one (instr.Branch op rs1 rs2 (distance address target))))
instructions_of layout address (Address rd label) = do
  target ← target_of layout label
  Ok (both (halves rd (target % 4294967296)))
instructions_of layout address (Word number) = Ok []
instructions_of layout address (Byte number) = Ok []
instructions_of layout address (Ascii text) = Ok []
instructions_of layout address (Space zeros) = Ok []
instructions_of layout address (Align exponent) = Ok []

-- the bytes of a statement behind so many bytes of data
unfoldable pub data_of : ℕ → Statement → Result (List ℕ) AsmKind
data_of bytes Nothing = Ok []
data_of bytes (Switch part) = Ok []
data_of bytes (Single instruction) = Ok []
data_of bytes (Double instructions) = Ok []
data_of bytes (Jump rd label) = Ok []
data_of bytes (Branch op rs1 rs2 label) = Ok []
data_of bytes (Address rd label) = Ok []
data_of bytes (Word number) = or_refused OutOfRange (option_map (λ word. to_le_bytes w32 word) number)
data_of bytes (Byte number) = or_refused OutOfRange (option_map (λ byte. byte ∷ []) number)
data_of bytes (Ascii text) = Ok text
data_of bytes (Space zeros) = or_refused OutOfRange (option_map (λ count. replicate count 0) zeros)
data_of bytes (Align exponent) = or_refused OutOfRange (option_map (λ n. replicate (padding n bytes) 0) exponent)

-- a program: its instructions, and the bytes of its data
pub record Program : Type 0 where
  pub instructions : List Instr
  pub bytes : List ℕ

abbrev pub empty : Program
empty = record { instructions = []; bytes = [] }

abbrev pub followed_by : Program → Program → Program
followed_by first second = record { instructions = first.instructions ++ second.instructions; bytes = first.bytes ++ second.bytes }

abbrev pub most_part_bytes : ℕ
most_part_bytes = 1048576

abbrev pub only_instructions : List Instr → Program
only_instructions instructions = record { instructions = instructions; bytes = [] }

abbrev pub only_bytes : List ℕ → Program
only_bytes bytes = record { instructions = []; bytes = bytes }

-- whether a part passes its limit
abbrev pub passes : ℕ → Bool
passes bytes = nat_lt most_part_bytes bytes

-- what one statement adds at a position, instructions in `.text` and bytes in `.data`; a part may not pass its limit
abbrev pub made_in : Part → Layout → Position → Statement → Result Program AsmKind
made_in Text layout position statement = do
  instructions ← instructions_of layout (text_start + position.text_bytes) statement
  if passes (moved statement position).text_bytes then Err OutOfRange else Ok (only_instructions instructions)
made_in Data layout position statement =
    if passes (moved statement position).data_bytes then Err OutOfRange else do
      bytes ← data_of position.data_bytes statement
      Ok (only_bytes bytes)

unfoldable pub made_of : Layout → Position → Statement → Result Program AsmKind
made_of layout position statement = made_in position.part layout position statement

-- the statement of a line; lines that are refused have none
abbrev pub statement_or_nothing : Option Statement → Statement
statement_or_nothing None = Nothing
statement_or_nothing (Some statement) = statement

unfoldable pub statement_at : Part → List ℕ → Statement
statement_at part line =
    if nat_lt most_line_bytes (length line) then Nothing else
    statement_or_nothing (statement_of part (parts_of line).statement)

-- what the lines from a number on make, where a line's statement stands behind those before it
unfoldable pub make_lines : Layout → ℕ → Position → List (List ℕ) → Result Program Refusal
make_lines layout number position [] = Ok empty
make_lines layout number position (line ∷ lines) = do
  made ← at_line number (made_of layout position (statement_at position.part line))
  others ← make_lines layout (number + 1) (moved (statement_at position.part line) position) lines
  Ok (followed_by made others)

-- ---- the whole

abbrev pub layout_of : Scan → Layout
layout_of scan = record { labels = scan.labels; text_bytes = scan.position.text_bytes }

abbrev pub start_scan : Scan
start_scan = record { position = start; labels = no_labels }

-- a source without an instruction is refused at the line behind the last
abbrev pub make : List (List ℕ) → Scan → Result Program Refusal
make lines scan =
    if scan.position.text_bytes == 0 then Err (record { kind = Syntax; line = length lines + 1 }) else
    make_lines (layout_of scan) 1 start lines

-- What the bytes of a source mean. Lines that are refused by themselves come before those that are refused for a label or
-- for a number.
unfoldable pub assembled : List ℕ → Result Program Refusal
assembled source = do
  scan ← scan_lines 1 start_scan (lines_of source)
  make (lines_of source) scan
