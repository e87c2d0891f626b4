-- The parts of a line: its comment, its label, its statement's word and operands.
use Rattle.std.specs.Prelude.{ℕ, ◌+◌, Bool, false, List, [], ◌∷◌, reverse, take, drop, position, Option, Some, None, option_map, is_none, ◌==◌, if◌then◌else◌}
use Rattle.rv_asm.specs.declared.lines.Quoting.{Quoting}
use Rattle.rv_asm.specs.declared.lines.Quoting.TheVariants.{Outside, Inside, Escaped}
use Rattle.rv_asm.specs.Letters.{is_blank, is_other}
use Rattle.rv_asm.specs.Choices.{◌>>=◌}

-- ---- blanks

-- a text without the blanks at its front, and without those at both ends
unfoldable pub without_front : List ℕ → List ℕ
without_front [] = []
without_front (byte ∷ bytes) = if is_blank byte then without_front bytes else byte ∷ bytes

unfoldable pub without_end : List ℕ → List ℕ
without_end text = reverse (without_front (reverse text))

abbrev pub trimmed : List ℕ → List ℕ
trimmed text = without_end (without_front text)

-- ---- comments

-- where the byte behind this one stands: outside of quotes, between them, or behind a `\` between them
abbrev pub after_byte : Quoting → ℕ → Quoting
after_byte Outside byte = if byte == 34 then Inside else Outside
after_byte Inside byte = if byte == 34 then Outside else if byte == 92 then Escaped else Inside
after_byte Escaped byte = Inside

abbrev pub begins_comment : Quoting → ℕ → Bool
begins_comment Outside byte = byte == 35
begins_comment Inside byte = false
begins_comment Escaped byte = false

-- what stands before the comment: before the first `#` outside of quotes
unfoldable pub before_comment : Quoting → List ℕ → List ℕ
before_comment quoting [] = []
before_comment quoting (byte ∷ bytes) =
    if begins_comment quoting byte then [] else byte ∷ before_comment (after_byte quoting byte) bytes

-- ---- the label

-- Where a text is cut: what stands before a place, and what stands from there on. Without a place all stands before it.
abbrev pub front : List ℕ → Option ℕ → List ℕ
front text None = text
front text (Some place) = take place text

abbrev pub back : List ℕ → Option ℕ → List ℕ
back text None = []
back text (Some place) = drop place text

-- The label of a line, where a colon follows the bytes of names at its front, and the statement behind it.
pub record Parts : Type 0 where
  pub label : Option (List ℕ)
  pub statement : List ℕ

abbrev pub parts_with : List ℕ → List ℕ → List ℕ → Parts
parts_with text name [] = record { label = None; statement = text }
parts_with text name (byte ∷ bytes) =
    if byte == 58 then record { label = Some name; statement = without_front bytes } else record { label = None; statement = text }

abbrev pub split_label : List ℕ → Parts
split_label text = parts_with text (front text (position is_other text)) (back text (position is_other text))

-- the parts of a line without its comment and the blanks at its ends
unfoldable pub parts_of : List ℕ → Parts
parts_of line = split_label (trimmed (before_comment Outside line))

-- ---- the statement's word and operands

-- the word of a statement, and its operands' text
abbrev pub word_of : List ℕ → List ℕ
word_of statement = front statement (position is_blank statement)

abbrev pub operands_of : List ℕ → List ℕ
operands_of statement = without_front (back statement (position is_blank statement))

abbrev pub is_comma : ℕ → Bool
is_comma byte = byte == 44

-- the only operand: a text without a comma
abbrev pub one_operand : List ℕ → Option (List ℕ)
one_operand text = if is_none (position is_comma text) then Some (trimmed text) else None

-- the first operand, and what follows its comma; None where there is no comma
unfoldable pub first_operand : List ℕ → Option (List ℕ × List ℕ)
first_operand text = option_map (λ place. (trimmed (take place text), drop (place + 1) text)) (position is_comma text)

-- two operands and no more, and three and no more
unfoldable pub two_operands : List ℕ → Option (List ℕ × List ℕ)
two_operands text = do
  first ← first_operand text
  second ← one_operand first.1
  Some (first.0, second)

unfoldable pub three_operands : List ℕ → Option (List ℕ × List ℕ × List ℕ)
three_operands text = do
  first ← first_operand text
  others ← two_operands first.1
  Some (first.0, others.0, others.1)
