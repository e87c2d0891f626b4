-- What comes of taking bytes out of a memory.
use Rattle.std.specs.Prelude.{◌≡◌, ℕ, List, Option, Some, None, Result, Ok, Err}
use Rattle.unix_model.specs.declared.calls.Errno.{Errno}
use Rattle.unix_model.specs.declared.calls.Errno.TheVariants.{Efault}
use Rattle.user_copy.specs.declared.fault.CopyFault.{CopyFault}
use Rattle.user_copy.specs.declared.fault.CopyFault.TheVariants.{BadAddress, TooLong}

-- Bytes were taken exactly where all of them are mapped.
abbrev pub Takes : Result (Unit {0}) CopyFault → List ℕ → Option (List ℕ) → Type 0
Takes (Ok done) bytes found = found ≡ Some bytes
Takes (Err BadAddress) bytes found = found ≡ None
Takes (Err TooLong) bytes found = ⊥

-- what came of taking a text, with the refusal of whoever asked for it where no NUL was near enough
abbrev pub text_told : Errno → Result (Unit {0}) CopyFault → List ℕ → Result (List ℕ) Errno
text_told too_long (Ok done) text = Ok text
text_told too_long (Err BadAddress) text = Err Efault
text_told too_long (Err TooLong) text = Err too_long

-- where the reading of a text stopped, after so many bytes: before its NUL, before a byte that isn't mapped, or after 256 bytes
abbrev pub StopsText : Result (Unit {0}) CopyFault → ℕ → Option ℕ → Type 0
StopsText (Ok done) count next = next ≡ Some 0
StopsText (Err BadAddress) count next = next ≡ None
StopsText (Err TooLong) count next = count ≡ 256
