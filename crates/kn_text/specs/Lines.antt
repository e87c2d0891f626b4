-- What reading a line takes from a source, and what it leaves.
use Rattle.std.specs.Prelude.{◌≡◌, ◌≢◌, ℕ, ◌<◌, ◌≤◌, Bool, true, false, List, [], ◌∷◌, ◌++◌, length, take, drop, Option, Some, Result, Ok, Err, option_map, if◌then◌else◌}
use Rattle.std.specs.Option.{option_to_list}
use Rattle.unix_model.specs.Texts.{line_front, line_rest, lines_of}
use Rattle.kn_text.specs.declared.lines.LineFault.{LineFault}
use Rattle.kn_text.specs.declared.lines.LineFault.TheVariants.{ReadFault, TooLong}
use Rattle.kn_text.specs.declared.lines.LineReader.{LineReader}

-- the byte that a reader gives before those of its source
abbrev pub pending : LineReader → List ℕ
pending reader = option_to_list reader.first

-- these bytes and then those of a source, where they are told
abbrev pub ahead : List ℕ → Option (List ℕ) → Option (List ℕ)
ahead first left = option_map (λ bytes. first ++ bytes) left

-- how many lines a reader began
abbrev pub lines_begun : LineReader → ℕ
lines_begun reader = reader.line

-- a line stood at the front of these bytes: the line, and what is left of them
pub record IsFirstLine (bytes line : List ℕ) (left : Option (List ℕ)) : Type 0 where
  pub there : bytes ≢ []
  pub line_is : line ≡ line_front bytes
  pub short : length line ≤ 1024
  pub left_is : left ≡ Some (line_rest bytes)
  pub lines : lines_of bytes ≡ line ∷ lines_of (line_rest bytes)

-- no byte was left, so there was no line
pub record IsNoLine (bytes line : List ℕ) (left : Option (List ℕ)) : Type 0 where
  pub ended : bytes ≡ []
  pub line_is : line ≡ []
  pub left_is : left ≡ Some []
  pub lines : lines_of bytes ≡ []

-- the line at the front of these bytes is too long: its first 1,024 bytes, and what is left after one more
pub record IsTooLong (bytes line : List ℕ) (left : Option (List ℕ)) : Type 0 where
  pub long : 1024 < length (line_front bytes)
  pub line_is : line ≡ take 1024 (line_front bytes)
  pub left_is : left ≡ Some (drop 1025 bytes)

-- a part of the line at the front of these bytes was read before a call failed, and the rest is left
pub record IsPartLine (bytes part : List ℕ) (left : Option (List ℕ)) : Type 0 where
  pub rest : List ℕ
  pub joined : bytes ≡ part ++ rest
  pub left_is : left ≡ Some rest

-- whether there was a line
abbrev pub IsLineRead : Bool → List ℕ → List ℕ → Option (List ℕ) → Type 0
IsLineRead true bytes line left = IsFirstLine bytes line left
IsLineRead false bytes line left = IsNoLine bytes line left

-- why a line was not read
abbrev pub IsLineFailed : LineFault → List ℕ → List ℕ → Option (List ℕ) → Type 0
IsLineFailed TooLong bytes line left = IsTooLong bytes line left
IsLineFailed ReadFault bytes line left = IsPartLine bytes line left

-- where the source's bytes are told, the line that they have at their front after a reader's first byte was read
abbrev pub TakesLine : List ℕ → Option (List ℕ) → Bool → List ℕ → Option (List ℕ) → Type 0
TakesLine first old more line new = (bytes : List ℕ) → old ≡ Some bytes → IsLineRead more (first ++ bytes) line new

-- where they are told, that line was not read for this reason
abbrev pub FailsLine : LineFault → List ℕ → Option (List ℕ) → List ℕ → Option (List ℕ) → Type 0
FailsLine fault first old line new = (bytes : List ℕ) → old ≡ Some bytes → IsLineFailed fault (first ++ bytes) line new

-- how many lines a call began, by its result and what it read
abbrev pub begun_by : Result Bool LineFault → List ℕ → ℕ
begun_by (Ok more) line = if more then 1 else 0
begun_by (Err TooLong) line = 1
begun_by (Err ReadFault) [] = 0
begun_by (Err ReadFault) (byte ∷ line) = 1

-- unless a call failed, the source's count of faults is the same
abbrev pub CountsSame : {A : Type 0} → Type 0 → Result A LineFault → Type 0
CountsSame same (Ok answer) = same
CountsSame same (Err TooLong) = same
CountsSame same (Err ReadFault) = Unit {0}
