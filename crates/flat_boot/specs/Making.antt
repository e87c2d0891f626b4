-- What making an inode comes to.
use Rattle.std.specs.Prelude.{◌≡◌, ℕ, ◌<◌, false, Result, Ok, Err}
use Rattle.unix_model.specs.declared.calls.Errno.{Errno}
use Rattle.unix_model.specs.declared.calls.Errno.TheVariants.{Enospc}
use Rattle.unix_model.specs.Files.{Files, Inode, is_full}
use Rattle.unix_model.specs.NameCalls.{made, with_made}
use Rattle.unix_model.specs.Paths.{Spot}
use Rattle.unix_model.specs.Refusals.{◌>>=◌}
use Rattle.unix_model.specs.State.{Unix}
use Rattle.flat_boot.specs.declared.fault.BootFault.{BootFault}
use Rattle.flat_boot.specs.declared.fault.BootFault.TheVariants.{NoMemory, NoRoom, Elf}

-- a number for a new inode, and a place for its name in a directory
pub record IsNewNumber (files : Files) (directory number : ℕ) : Type 0 where
  pub inside : number < 1024
  pub place : is_full files directory ≡ false

-- the state with a new inode at a spot, where there is a number, a place and room for it
unfoldable pub new_inode : Unix → Spot → Inode → Result Unix Errno
new_inode unix spot new = do
  number ← made unix spot new
  Ok (with_made unix spot number new)

-- that state, or none and the machine is as before
abbrev pub Makes : Result Unix Errno → Unix → Unix → Result (Unit {0}) BootFault → Type 0
Makes wanted old new (Ok done) = wanted ≡ Ok new
Makes wanted old new (Err NoRoom) = (wanted ≡ Err Enospc) × (new ≡ old)
Makes wanted old new (Err NoMemory) = Unit {0}
Makes wanted old new (Err (Elf fault)) = ⊥

-- why nothing was stored
abbrev pub IsStoreFault : BootFault → Type 0
IsStoreFault NoMemory = Unit {0}
IsStoreFault NoRoom = Unit {0}
IsStoreFault (Elf fault) = ⊥
