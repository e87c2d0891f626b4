-- What reading a source up to a limit takes from it.
use Rattle.std.specs.Prelude.{◌≡◌, ℕ, ◌+◌, ◌≤◌, List, [], Option, Some, Result, Ok, Err, Vec, length}
use Rattle.std.specs.Global.{Global}
use Rattle.kn_io.specs.Source.{Takes}
use Rattle.kn_io.specs.declared.reading.ReadError.{ReadError}
use Rattle.kn_io.specs.declared.reading.ReadError.TheVariants.{ReadFault, TooLong, NoMemory}

-- Where it is told, exactly these bytes were left, and nothing is left now.
abbrev pub TakesAll : Option (List ℕ) → List ℕ → Option (List ℕ) → Type 0
TakesAll old read new = (bytes : List ℕ) → old ≡ Some bytes → (bytes ≡ read) × (new ≡ Some [])

-- This many bytes were taken.
abbrev pub TakesCount : Option (List ℕ) → ℕ → Option (List ℕ) → Type 0
TakesCount old count new = (taken : List ℕ) × (length taken ≡ count) × Takes old taken new

-- At most this many bytes were taken.
abbrev pub TakesAtMost : Option (List ℕ) → ℕ → Option (List ℕ) → Type 0
TakesAtMost old most new = (count : ℕ) × (count ≤ most) × TakesCount old count new

-- What a reading that ended early has taken: one byte more than the limit, or as many as the limit at most.
abbrev pub ReadFails : ReadError → ℕ → Option (List ℕ) → Option (List ℕ) → Type 0
ReadFails TooLong most old new = TakesCount old (most + 1) new
ReadFails ReadFault most old new = TakesAtMost old most new
ReadFails NoMemory most old new = TakesAtMost old most new

-- Unless a call failed, the source's count of faults is the same.
abbrev pub CountsSame : Type 0 → Result (Vec ℕ Global) ReadError → Type 0
CountsSame same (Ok read) = same
CountsSame same (Err TooLong) = same
CountsSame same (Err NoMemory) = same
CountsSame same (Err ReadFault) = Unit {0}
