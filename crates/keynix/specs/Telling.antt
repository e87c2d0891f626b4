-- The note and the status of each ending.
use Rattle.std.specs.Prelude.{◌≡◌, ℕ, List, Option, Some, None, ◌⊎◌, ◌++◌, codes}
use Rattle.std.specs.Fmt.{decimal}
use Rattle.kn_io.specs.Sink.{GrewByPrefix}
use Rattle.unix_model.specs.Machine as machine
use Rattle.unix_model.specs.Notes.{halted_note, spent_note, stop_note}
use Rattle.unix_model.specs.declared.elf.ElfFault.{ElfFault}
use Rattle.unix_model.specs.declared.elf.ElfFault.TheVariants.{Short, NotElf, NotRv32, NotStatic, BadHeader, BadSegment, TooMany}
use Rattle.rv_asm.specs.declared.fault.AsmKind.{AsmKind}
use Rattle.rv_asm.specs.declared.fault.AsmKind.TheVariants.{Syntax, UnknownLabel, DoubleLabel, OutOfRange, TooLong}
use Rattle.rv_asm.specs.Programs as asm
use Rattle.keynix.specs.declared.ending.Ending.{Ending}
use Rattle.keynix.specs.declared.ending.Ending.TheVariants.{Halted, TurnsSpent, Idle, Done, Usage, Refused, NotAssembled, BadPlan, ReadFault, WriteFault, NoMemory}
use Rattle.bundle.specs.declared.fault.BundleKind.{BundleKind}
use Rattle.bundle.specs.declared.fault.BundleKind.TheVariants as bundle
use Rattle.flat_bundle.specs.Booting.{Refusal, At, NoRoom, BadProgram}
use Rattle.keynix.specs.Inputs.{refusal_of}

-- the name of the kind of a refused ELF file
abbrev pub elf_kind : ElfFault → List ℕ
elf_kind Short = codes "Short"
elf_kind NotElf = codes "NotElf"
elf_kind NotRv32 = codes "NotRv32"
elf_kind NotStatic = codes "NotStatic"
elf_kind BadHeader = codes "BadHeader"
elf_kind BadSegment = codes "BadSegment"
elf_kind TooMany = codes "TooMany"

-- the name of the kind of a refused bundle
abbrev pub bundle_kind : BundleKind → List ℕ
bundle_kind bundle.Syntax = codes "Syntax"
bundle_kind bundle.BadPath = codes "BadPath"
bundle_kind bundle.Twice = codes "Twice"
bundle_kind bundle.NoParent = codes "NoParent"
bundle_kind bundle.TooLong = codes "TooLong"
bundle_kind bundle.BadAsm = codes "BadAsm"
bundle_kind bundle.BadHex = codes "BadHex"
bundle_kind bundle.NoInit = codes "NoInit"

-- the name of the kind of an input that isn't booted
abbrev pub kind_name : Refusal → List ℕ
kind_name (At kind line) = bundle_kind kind
kind_name (NoRoom line) = codes "NoRoom"
kind_name (BadProgram fault) = elf_kind fault

-- the line that is told of it: a bundle's, and 0 where no line is to blame
abbrev pub line_told : Refusal → ℕ
line_told (At kind line) = line
line_told (NoRoom line) = line
line_told (BadProgram fault) = 0

-- the note of an input that isn't booted
unfoldable pub refusal_note : Refusal → List ℕ
refusal_note refusal = codes "bad input " ++ kind_name refusal ++ codes " " ++ decimal (line_told refusal) ++ codes "\n"

-- the name of the kind of a refused source
abbrev pub source_kind : AsmKind → List ℕ
source_kind Syntax = codes "Syntax"
source_kind UnknownLabel = codes "UnknownLabel"
source_kind DoubleLabel = codes "DoubleLabel"
source_kind OutOfRange = codes "OutOfRange"
source_kind TooLong = codes "TooLong"

-- the note of a refused source, with the line that is refused
unfoldable pub source_note : asm.Refusal → List ℕ
source_note refusal = codes "bad input " ++ source_kind refusal.kind ++ codes " " ++ decimal refusal.line ++ codes "\n"

-- the note of a refused plan, with the line that is refused
unfoldable pub plan_note : ℕ → List ℕ
plan_note line = codes "bad input BadPlan " ++ decimal line ++ codes "\n"

-- the note of a machine that is idle after so many turns
unfoldable pub idle_note : ℕ → List ℕ
idle_note turns = stop_note machine.Idle turns

unfoldable pub usage_note : List ℕ
usage_note = codes "usage: keynix DISK COMMAND [--name=value]\n"

unfoldable pub read_fault_note : List ℕ
read_fault_note = codes "read fault\n"

unfoldable pub write_fault_note : List ℕ
write_fault_note = codes "write fault\n"

unfoldable pub no_memory_note : List ℕ
no_memory_note = codes "no memory\n"

-- the note of an ending; where a file was written there is none
abbrev pub ending_note : Ending → Option (List ℕ)
ending_note (Halted word) = Some (halted_note word)
ending_note (TurnsSpent turns) = Some (spent_note turns)
ending_note (Idle turns) = Some (idle_note turns)
ending_note Done = None
ending_note Usage = Some usage_note
ending_note (Refused refusal) = Some (refusal_note (refusal_of refusal))
ending_note (NotAssembled kind line) = Some (source_note (record { kind = kind; line = line }))
ending_note (BadPlan line) = Some (plan_note line)
ending_note ReadFault = Some read_fault_note
ending_note WriteFault = Some write_fault_note
ending_note NoMemory = Some no_memory_note

abbrev pub ending_status : Ending → ℕ
ending_status (Halted word) = 0
ending_status Done = 0
ending_status Usage = 1
ending_status (Refused refusal) = 2
ending_status (NotAssembled kind line) = 2
ending_status (BadPlan line) = 2
ending_status ReadFault = 3
ending_status WriteFault = 4
ending_status NoMemory = 6
ending_status (TurnsSpent turns) = 9
ending_status (Idle turns) = 10

-- the note of an ending takes host memory
abbrev pub TakesMemory : Ending → Type 0
TakesMemory (Halted word) = Unit {0}
TakesMemory (TurnsSpent turns) = Unit {0}
TakesMemory (Idle turns) = Unit {0}
TakesMemory Done = ⊥
TakesMemory Usage = ⊥
TakesMemory (Refused refusal) = Unit {0}
TakesMemory (NotAssembled kind line) = Unit {0}
TakesMemory (BadPlan line) = Unit {0}
TakesMemory ReadFault = ⊥
TakesMemory WriteFault = ⊥
TakesMemory NoMemory = ⊥

-- the notes got this note, or are as before where there is none
abbrev pub PutsNote : {E : Type 0} → (E → List ℕ → E → Type 0) → Option (List ℕ) → E → E → Type 0
PutsNote noted None old new = new ≡ old
PutsNote noted (Some note) old new = noted old note new

-- the notes got a front of one note, or all of it
abbrev pub PutsPartOfNote : {E : Type 0} → (E → List ℕ → E → Type 0) → E → E → Type 0
PutsPartOfNote noted old new = (ending : Ending) × (note : List ℕ) × (ending_note ending ≡ Some note) × GrewByPrefix noted old note new

-- The note of an ending was put, and the status is the ending's; or the put failed, and it is 4; or there was no memory
-- for the note, and the note says so.
abbrev pub Tells : {E : Type 0} → (E → List ℕ → E → Type 0) → Type 0 → Ending → E → E → ℕ → Type 0
Tells noted rose ending old new status =
    ((status ≡ ending_status ending) × PutsNote noted (ending_note ending) old new)
    ⊎ (((status ≡ 4) × rose × PutsPartOfNote noted old new)
    ⊎ ((status ≡ 6) × TakesMemory ending × noted old no_memory_note new))
