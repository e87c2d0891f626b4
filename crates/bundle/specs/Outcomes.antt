-- How a bundle ends, and its next line.
use Rattle.std.specs.Prelude.{ℕ, List, [], ◌∷◌, length, Result, Ok, Err, nat_lt, if◌then◌else◌}
use Rattle.unix_model.specs.Texts.{line_front, line_rest}
use Rattle.bundle.specs.declared.fault.BundleKind.{BundleKind}
use Rattle.bundle.specs.declared.fault.BundleKind.TheVariants.{Syntax, TooLong}

-- A bundle ends with its line `end`, and these bytes are left behind it; or it is refused for the first line that is wrong.
-- The first line is 1.
pub data Outcome : Type 0 where
  Ends : (rest : List ℕ) → Outcome
  Refused : (kind : BundleKind) (line : ℕ) → Outcome

-- a step, and then the rest with what it gives
infixl 10 ◌>>=◌
abbrev pub ◌>>=◌ : {A B : Type 0} → Result A Outcome → (A → Result B Outcome) → Result B Outcome
(Ok x) >>= rest = rest x
(Err outcome) >>= rest = Err outcome

-- what a line says, or its refusal at its number
abbrev pub at_line : {A : Type 0} → ℕ → Result A BundleKind → Result A Outcome
at_line number (Ok value) = Ok value
at_line number (Err kind) = Err (Refused kind number)

-- the most bytes that a line has
abbrev pub most_line_bytes : ℕ
most_line_bytes = 1024

-- a line without its line feed, and the bytes that follow that
pub record NextLine : Type 0 where
  pub line : List ℕ
  pub rest : List ℕ

-- the line at the front of bytes: there has to be one, and it may not be too long
unfoldable pub next_line : List ℕ → Result NextLine BundleKind
next_line [] = Err Syntax
next_line (byte ∷ bytes) =
    if nat_lt most_line_bytes (length (line_front (byte ∷ bytes))) then Err TooLong else
    Ok (record { line = line_front (byte ∷ bytes); rest = line_rest (byte ∷ bytes) })
