-- What an input boots: an input whose first byte is 7F is one ELF file, and every other is a bundle.
use Rattle.std.specs.Prelude.{◌≡◌, ℕ, Bool, true, false, List, [], Option, Some, Result, Ok, Err, Vec, length, ◌<◌}
use Rattle.std.specs.Global.{Global}
use Rattle.flat_unix.specs.declared.flat.Flat.{Flat}
use Rattle.flat_unix.specs.FlatView.{unix_of}
use Rattle.unix_model.specs.Boot as model
use Rattle.unix_model.specs.State.{Unix}
use Rattle.bundle.specs.declared.fault.BundleKind.TheVariants.{NoInit}
use Rattle.flat_bundle.specs.Booting as booting
use Rattle.flat_bundle.specs.Booting.{Booted, BootsText}
use Rattle.flat_bundle.specs.declared.fault.BootFault.{BootFault}
use Rattle.flat_bundle.specs.declared.fault.BootFault.TheVariants as fault
use Rattle.keynix.specs.declared.ending.Ending.{Ending}
use Rattle.keynix.specs.declared.ending.Ending.TheVariants.{Halted, TurnsSpent, Idle, Done, Usage, Refused, NotAssembled, BadPlan, ReadFault, WriteFault, NoMemory}
use Rattle.keynix.specs.declared.ending.Refusal as own
use Rattle.keynix.specs.declared.ending.Refusal.TheVariants.{At, NoRoom, Elf}
use Rattle.command_line.specs.Words.{Setup}

-- Why an ELF file isn't booted: for it or for its program's memory there is no room, or it is no program. No line is told of
-- it. It is there as `/init`, so that it is never refused for want of one.
abbrev pub file_refusal : model.BootRefusal → booting.Refusal
file_refusal (model.NoRoomFor entry) = booting.NoRoom 0
file_refusal model.NoRoomToStart = booting.NoRoom 0
file_refusal (model.BadProgram bad) = booting.BadProgram bad
file_refusal model.NoProgram = booting.At NoInit 0

-- a file is the whole input, so nothing is left for the console
abbrev pub with_file : Result Unix model.BootRefusal → Result Booted booting.Refusal
with_file (Ok unix) = Ok (record { unix = unix; input = [] })
with_file (Err refusal) = Err (file_refusal refusal)

-- what an input boots, by whether it is an ELF file
abbrev pub IsBootWhere : (elf : Bool) → Setup → List ℕ → Result Booted booting.Refusal → Type 0
IsBootWhere true setup bytes result = with_file (model.booted_file setup.pages setup.quantum bytes) ≡ result
IsBootWhere false setup bytes result = BootsText setup.pages setup.quantum bytes result

-- what an input boots with so many pages and this quantum: a machine with the console input that it finds, or why there is
-- none. There is one such result.
unfoldable pub IsBoot : Setup → List ℕ → Result Booted booting.Refusal → Type 0
IsBoot setup bytes result = IsBootWhere (model.is_elf bytes) setup bytes result

-- the refusal that an ending tells
abbrev pub refusal_of : own.Refusal → booting.Refusal
refusal_of (At kind line) = booting.At kind line
refusal_of (NoRoom line) = booting.NoRoom line
refusal_of (Elf bad) = booting.BadProgram bad

-- the ending of a boot that failed
abbrev pub boot_ending : BootFault → Ending
boot_ending (fault.At kind line) = Refused (At kind line)
boot_ending (fault.NoRoom line) = Refused (NoRoom line)
boot_ending (fault.Elf bad) = Refused (Elf bad)
boot_ending fault.ReadFault = ReadFault
boot_ending fault.NoMemory = NoMemory

-- the machine that an input booted, where what is left is its console's input; or why none was
abbrev pub BootsAs : Setup → List ℕ → (left : Option (List ℕ)) → Result Flat Ending → Type 0
BootsAs setup bytes left (Ok flat) = (rest : List ℕ) × (left ≡ Some rest) × IsBoot setup bytes (Ok (record { unix = unix_of flat; input = rest }))
BootsAs setup bytes left (Err (Refused refusal)) = IsBoot setup bytes (Err (refusal_of refusal))
BootsAs setup bytes left (Err NoMemory) = Unit {0}
BootsAs setup bytes left (Err ReadFault) = Unit {0}
BootsAs setup bytes left (Err WriteFault) = ⊥
BootsAs setup bytes left (Err (Halted word)) = ⊥
BootsAs setup bytes left (Err (TurnsSpent turns)) = ⊥
BootsAs setup bytes left (Err (Idle turns)) = ⊥
BootsAs setup bytes left (Err Done) = ⊥
BootsAs setup bytes left (Err Usage) = ⊥
BootsAs setup bytes left (Err (NotAssembled kind line)) = ⊥
BootsAs setup bytes left (Err (BadPlan line)) = ⊥

-- the ELF file that was read to its end, or why none was: it has more bytes than a file may have
abbrev pub Reads : List ℕ → Option (List ℕ) → Result (Vec ℕ Global) Ending → Type 0
Reads bytes left (Ok file) = (file.items ≡ bytes) × (left ≡ Some [])
Reads bytes left (Err (Refused (NoRoom line))) = (line ≡ 0) × (4194304 < length bytes)
Reads bytes left (Err (Refused (At kind line))) = ⊥
Reads bytes left (Err (Refused (Elf bad))) = ⊥
Reads bytes left (Err ReadFault) = Unit {0}
Reads bytes left (Err NoMemory) = Unit {0}
Reads bytes left (Err WriteFault) = ⊥
Reads bytes left (Err (Halted word)) = ⊥
Reads bytes left (Err (TurnsSpent turns)) = ⊥
Reads bytes left (Err (Idle turns)) = ⊥
Reads bytes left (Err Done) = ⊥
Reads bytes left (Err Usage) = ⊥
Reads bytes left (Err (NotAssembled kind line)) = ⊥
Reads bytes left (Err (BadPlan line)) = ⊥
