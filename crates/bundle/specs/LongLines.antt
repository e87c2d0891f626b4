-- Lines that are too long.
use Rattle.std.specs.Prelude.{◌≡◌, ℕ, ◌<◌, List, ◌++◌, length, Option, Some}
use Rattle.unix_model.specs.Texts.{line_front}
use Rattle.kn_text.specs.declared.lines.LineFault.{LineFault}
use Rattle.kn_text.specs.declared.lines.LineFault.TheVariants.{ReadFault, TooLong}

-- where the bytes are told, more than 1,024 come before the first line feed, if that is the fault
abbrev pub FailsLong : LineFault → List ℕ → Option (List ℕ) → Type 0
FailsLong TooLong first old = (bytes : List ℕ) → old ≡ Some bytes → 1024 < length (line_front (first ++ bytes))
FailsLong ReadFault first old = Unit {0}
