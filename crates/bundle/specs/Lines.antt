-- What a reader of lines stands for.
use Rattle.std.specs.Prelude.{ℕ, List}
use Rattle.std.specs.Option.{option_to_list}
use Rattle.bundle.specs.declared.lines.Lines.{Lines}

-- the byte that is read before those of the source
abbrev pub pending : Lines → List ℕ
pending lines = option_to_list lines.first

-- how many lines were begun
abbrev pub lines_begun : Lines → ℕ
lines_begun lines = lines.line
