-- Where counts of faults stay. A call that failed ends the work at once, so of input and output only the count of the one that
-- failed may have risen.
use Rattle.std.specs.Prelude.{◌≡◌, ◌≢◌, ◌<◌, ◌⊎◌, ℕ, Result, Ok, Err}
use Rattle.kn_io.specs.Faults.{Rose}
use Rattle.flat_unix.specs.declared.flat.FlatFault.{FlatFault}
use Rattle.flat_unix.specs.declared.flat.FlatFault.TheVariants as flat
use Rattle.keynix.specs.declared.ending.Ending.{Ending}
use Rattle.keynix.specs.declared.ending.Ending.TheVariants.{Halted, TurnsSpent, Idle, Done, Usage, Refused, NotAssembled, BadPlan, ReadFault, WriteFault, NoMemory}

-- by the ending of a command: what is read from, and what is written to
abbrev pub CountsStay : (read write : Type 0) → Ending → Type 0
CountsStay read write ReadFault = write
CountsStay read write WriteFault = read
CountsStay read write (Halted word) = read × write
CountsStay read write (TurnsSpent turns) = read × write
CountsStay read write (Idle turns) = read × write
CountsStay read write Done = read × write
CountsStay read write Usage = read × write
CountsStay read write (Refused refusal) = read × write
CountsStay read write (NotAssembled kind line) = read × write
CountsStay read write (BadPlan line) = read × write
CountsStay read write NoMemory = read × write

-- of a source that is read for a command
abbrev pub ReadStays : {A : Type 0} → (read : Type 0) → Result A Ending → Type 0
ReadStays read (Ok value) = read
ReadStays read (Err ending) = CountsStay read (Unit {0}) ending

-- by the answer of turns
abbrev pub TurnsStay : {A : Type 0} → (read write : Type 0) → Result A FlatFault → Type 0
TurnsStay read write (Ok value) = read × write
TurnsStay read write (Err flat.ReadFault) = write
TurnsStay read write (Err flat.WriteFault) = read
TurnsStay read write (Err flat.NoMemory) = read × write
TurnsStay read write (Err flat.NoRoom) = ⊥
TurnsStay read write (Err (flat.Elf fault)) = ⊥

-- The counts by the status with which the program ends: as before but at 3 and 4. Where that of the input or of the plan is
-- greater, it is 3, or 4 where the notes failed too; where that of the output or of the notes is, it is 4.
pub record Counted (input_old input_new plan_old plan_new output_old output_new notes_old notes_new status : ℕ) : Type 0 where
  pub stay : status ≢ 3 → status ≢ 4 → (input_new ≡ input_old) × (plan_new ≡ plan_old) × (output_new ≡ output_old) × (notes_new ≡ notes_old)
  pub input_greater : input_old < input_new → (status ≡ 3) ⊎ ((status ≡ 4) × Rose notes_old notes_new)
  pub plan_greater : plan_old < plan_new → (status ≡ 3) ⊎ ((status ≡ 4) × Rose notes_old notes_new)
  pub output_greater : output_old < output_new → status ≡ 4
  pub notes_greater : notes_old < notes_new → status ≡ 4
