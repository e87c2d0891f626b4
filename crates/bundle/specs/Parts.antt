-- The lines behind an entry line.
use Rattle.std.specs.Prelude.{ℕ, zero, suc, ◌+◌, List, [], ◌∷◌, ◌++◌, Option, Some, None, Result, Ok, Err}
use Rattle.std.specs.Result.{result_ok}
use Rattle.hex.specs.Hex.{decode_of}
use Rattle.bundle.specs.declared.fault.BundleKind.{BundleKind}
use Rattle.bundle.specs.declared.fault.BundleKind.TheVariants.{BadHex}
use Rattle.bundle.specs.declared.said.Form.{Form}
use Rattle.bundle.specs.declared.said.Form.TheVariants.{Text, Hex, Asm}
use Rattle.bundle.specs.Outcomes.{NextLine, next_line}

-- Lines that follow an entry line: what they give, and the bytes behind them; or what the lines before the first wrong one
-- give, what that is refused for, and how many lines come before it.
pub data Part : Type 0 where
  Whole : (bytes rest : List ℕ) → Part
  Broken : (bytes : List ℕ) (kind : BundleKind) (lines : ℕ) → Part

-- some bytes, which so many lines gave, before what others give
abbrev pub behind : List ℕ → ℕ → Part → Part
behind bytes lines (Whole more rest) = Whole (bytes ++ more) rest
behind bytes lines (Broken more kind count) = Broken (bytes ++ more) kind (lines + count)

-- what one line gives: itself with its line feed, or the bytes that it spells in hexadecimal digits
abbrev pub line_bytes : Form → List ℕ → Option (List ℕ)
line_bytes Text line = Some (line ++ 10 ∷ [])
line_bytes Hex line = result_ok (decode_of line)
line_bytes Asm line = Some (line ++ 10 ∷ [])

-- a line's bytes, and then those of the lines that follow
abbrev pub and_more : Option (List ℕ) → Part → Part
and_more None more = Broken [] BadHex 0
and_more (Some bytes) more = behind bytes 1 more

abbrev pub with_next : Form → (List ℕ → Part) → Result NextLine BundleKind → Part
with_next form more (Err kind) = Broken [] kind 0
with_next form more (Ok next) = and_more (line_bytes form next.line) (more next.rest)

-- so many lines
unfoldable pub part_of : Form → ℕ → List ℕ → Part
part_of form zero bytes = Whole [] bytes
part_of form (suc lines) bytes = with_next form (part_of form lines) (next_line bytes)
