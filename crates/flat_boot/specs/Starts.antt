-- What starting the first program comes to.
use Rattle.std.specs.Prelude.{◌≡◌, Result, Ok, Err}
use Rattle.unix_model.specs.Boot as model
use Rattle.unix_model.specs.State.{Unix}
use Rattle.flat_state.specs.declared.process.Process.{Process}
use Rattle.flat_state.specs.ProcessView.{process_of}
use Rattle.flat_boot.specs.declared.fault.BootFault.{BootFault}
use Rattle.flat_boot.specs.declared.fault.BootFault.TheVariants.{NoMemory, NoRoom, Elf}

-- the process that loading gives, or why it gives none
abbrev pub Loads : Result Unix model.BootRefusal → Unix → Result Process BootFault → Type 0
Loads loaded unix (Ok process) = loaded ≡ Ok (model.with_first_process unix (process_of process))
Loads loaded unix (Err NoRoom) = loaded ≡ Err model.NoRoomToStart
Loads loaded unix (Err (Elf fault)) = loaded ≡ Err (model.BadProgram fault)
Loads loaded unix (Err NoMemory) = Unit {0}

-- the machine with the program loaded, or why there is none, and the machine is as before
abbrev pub Starts : Result Unix model.BootRefusal → Unix → Unix → Result (Unit {0}) BootFault → Type 0
Starts loaded old new (Ok done) = loaded ≡ Ok new
Starts loaded old new (Err NoRoom) = (loaded ≡ Err model.NoRoomToStart) × (new ≡ old)
Starts loaded old new (Err (Elf fault)) = (loaded ≡ Err (model.BadProgram fault)) × (new ≡ old)
Starts loaded old new (Err NoMemory) = Unit {0}
