-- What the code's statements stand for.
use Rattle.std.specs.Prelude.{ℕ, ◌<◌, ◌≤◌, false, List, [], length, unwrap_or, option_map, IfSome, IsSome}
use Rattle.rv_decode.specs.Fits.{Fits}
use Rattle.rv_asm.specs.declared.lines.Parts.{Parts}
use Rattle.rv_asm.specs.declared.statement.Statement.{Statement}
use Rattle.rv_asm.specs.declared.statement.Statement.TheVariants as code
use Rattle.rv_asm.specs.Lines as lines
use Rattle.rv_asm.specs.Operands.{text_from}
use Rattle.rv_asm.specs.Statements as model

abbrev pub parts_view : Parts → lines.Parts
parts_view parts = record { label = option_map (λ name. name.now) parts.label; statement = parts.statement.now }

-- the text behind an opening quote
abbrev pub text_in : List ℕ → List ℕ
text_in behind = unwrap_or (text_from false behind) []

abbrev pub statement_view : Statement → model.Statement
statement_view code.Nothing = model.Nothing
statement_view (code.Switch part) = model.Switch part
statement_view (code.Single instruction) = model.Single instruction
statement_view (code.Double instructions) = model.Double instructions
statement_view (code.Jump rd label) = model.Jump rd label.now
statement_view (code.Branch op rs1 rs2 label) = model.Branch op rs1 rs2 label.now
statement_view (code.Address rd label) = model.Address rd label.now
statement_view (code.Word number) = model.Word number
statement_view (code.Byte number) = model.Byte number
statement_view (code.Ascii behind) = model.Ascii (text_in behind.now)
statement_view (code.Space zeros) = model.Space zeros
statement_view (code.Align exponent) = model.Align exponent

-- The instructions have words, registers their numbers, texts their closing quote, and what is added has a bound.
abbrev pub IsReady : Statement → Type 0
IsReady code.Nothing = Unit {0}
IsReady (code.Switch part) = Unit {0}
IsReady (code.Single instruction) = IfSome instruction Fits
IsReady (code.Double instructions) = IfSome instructions (λ pair. Fits pair.0 × Fits pair.1)
IsReady (code.Jump rd label) = rd < 32
IsReady (code.Branch op rs1 rs2 label) = (rs1 < 32) × (rs2 < 32)
IsReady (code.Address rd label) = rd < 32
IsReady (code.Word number) = Unit {0}
IsReady (code.Byte number) = Unit {0}
IsReady (code.Ascii behind) = (length behind.now ≤ 1024) × IsSome (text_from false behind.now)
IsReady (code.Space zeros) = IfSome zeros (λ count. count ≤ 4294967296)
IsReady (code.Align exponent) = IfSome exponent (λ n. n ≤ 12)
