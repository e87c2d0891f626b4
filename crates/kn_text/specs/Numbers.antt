-- Numbers that are asked for up to a limit.
use Rattle.std.specs.Prelude.{◌≡◌, ℕ, ◌^◌, min, List, Option, Some, None, Result, Ok, Err, nat_le, if◌then◌else◌}
use Rattle.unix_model.specs.Texts.{decimal_value}
use Rattle.kn_text.specs.declared.numbers.NumberFault.{NumberFault}
use Rattle.kn_text.specs.declared.numbers.NumberFault.TheVariants.{NotANumber, TooLarge}

-- a number where it is at most the limit, or why there is none
abbrev pub within : ℕ → Option ℕ → Result ℕ NumberFault
within most None = Err NotANumber
within most (Some number) = if nat_le number most then Ok number else Err TooLarge

-- the number that a text spells, where it is at most the limit
abbrev pub number_within : ℕ → List ℕ → Result ℕ NumberFault
number_within most text = within most (decimal_value text)

-- a number that was read, cut at 2^64
abbrev pub IsCut : Option ℕ → Option ℕ → Type 0
IsCut (Some number) (Some cut) = cut ≡ min number (2 ^ 64)
IsCut None None = Unit {0}
IsCut (Some number) None = ⊥
IsCut None (Some cut) = ⊥
