-- Where the statements of a source stand, and what the file holds there.
use Rattle.std.specs.Prelude.{◌≡◌, ℕ, zero, suc, ◌+◌, ◌*◌, List, [], ◌∷◌, take, drop, slice_get, Some, Ok}
use Rattle.std.specs.Int.{from_le_bytes, w32}
use Rattle.unix_model.specs.declared.instructions.Instr.{Instr}
use Rattle.unix_model.specs.Instructions.{decoded}
use Rattle.unix_model.specs.Texts.{lines_of}
use Rattle.rv_asm.specs.declared.layout.Position.{Position}
use Rattle.rv_asm.specs.Layout.{moved, start, text_start}
use Rattle.rv_asm.specs.Programs.{Layout, instructions_of, statement_at}

-- the position behind so many of these lines
unfoldable pub position_behind : ℕ → Position → List (List ℕ) → Position
position_behind n position [] = position
position_behind zero position (line ∷ lines) = position
position_behind (suc n) position (line ∷ lines) = position_behind n (moved (statement_at position.part line) position) lines

-- the position at which the statement of a line stands, counted from 0
abbrev pub position_of : List ℕ → ℕ → Position
position_of source n = position_behind n start (lines_of source)

-- the number in four bytes of a file, the lowest first
unfoldable pub word_in : List ℕ → ℕ → ℕ
word_in file place = from_le_bytes w32 (take 4 (drop place file))

-- The words of a file at a place of its text, which begins at byte 116, decode to what a statement makes of a layout at the
-- address of that place.
pub record HoldsAt (layout : Layout) (file : List ℕ) (position : Position) (line : List ℕ) : Type 0 where
  pub instructions : List Instr
  pub makes : instructions_of layout (text_start + position.text_bytes) (statement_at position.part line) ≡ Ok instructions
  pub decodes : (k : ℕ) (instruction : Instr) → slice_get instructions k ≡ Some instruction
      → decoded (word_in file (116 + (position.text_bytes + 4 * k))) ≡ Some instruction
