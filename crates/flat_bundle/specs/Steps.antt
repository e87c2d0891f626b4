-- What the calls of this crate promise.
use Rattle.std.specs.Prelude.{◌≡◌, ℕ, List, [], ◌∷◌, Option, Some, Result, Ok, Err}
use Rattle.unix_model.specs.Boot as model
use Rattle.unix_model.specs.Boot.{BootEntry, with_boot_entries}
use Rattle.unix_model.specs.State.{Unix}
use Rattle.flat_unix.specs.declared.flat.Flat.{Flat}
use Rattle.flat_unix.specs.FlatView.{unix_of}
use Rattle.bundle.specs.declared.entry.Entry.{Entry}
use Rattle.bundle.specs.declared.fault.BundleFault.{BundleFault}
use Rattle.bundle.specs.declared.fault.BundleFault.TheVariants as bundle
use Rattle.bundle.specs.declared.fault.BundleKind.TheVariants.{NoInit}
use Rattle.bundle.specs.Bundles.{Described, IsStored}
use Rattle.bundle.specs.Views.{IsEntry}
use Rattle.flat_bundle.specs.declared.fault.BootFault.{BootFault}
use Rattle.flat_bundle.specs.declared.fault.BootFault.TheVariants as fault
use Rattle.flat_bundle.specs.Booting.{At, NoRoom, BadProgram, BootsText}

-- an entry was stored
pub record Stores (entry : Entry) (old new : Unix) : Type 0 where
  pub stored : BootEntry
  pub is_stored : (described : Described) → IsEntry described entry → IsStored described stored
  pub next : with_boot_entries 0 old (stored ∷ []) ≡ Ok new

-- there was no room for it, which is told of its line
pub record HasNoRoom (entry : Entry) (old : Unix) (line : ℕ) : Type 0 where
  pub stored : BootEntry
  pub is_stored : (described : Described) → IsEntry described entry → IsStored described stored
  pub refused : with_boot_entries 0 old (stored ∷ []) ≡ Err (model.NoRoomFor 0)
  pub line_is : (described : Described) → IsEntry described entry → described.line ≡ line

-- why an entry isn't stored
abbrev pub NotStored : Entry → Unix → BootFault → Type 0
NotStored entry old (fault.NoRoom line) = HasNoRoom entry old line
NotStored entry old fault.NoMemory = Unit {0}
NotStored entry old (fault.At kind line) = ⊥
NotStored entry old (fault.Elf bad) = ⊥
NotStored entry old fault.ReadFault = ⊥

-- the machine with the first program loaded, or why there is none
abbrev pub Loads : Result Unix model.BootRefusal → Result Flat BootFault → Type 0
Loads loaded (Ok flat) = loaded ≡ Ok (unix_of flat)
Loads loaded (Err (fault.NoRoom line)) = (loaded ≡ Err model.NoRoomToStart) × (line ≡ 0)
Loads loaded (Err (fault.Elf bad)) = loaded ≡ Err (model.BadProgram bad)
Loads loaded (Err (fault.At kind line)) = (loaded ≡ Err model.NoProgram) × (kind ≡ NoInit) × (line ≡ 0)
Loads loaded (Err fault.NoMemory) = Unit {0}
Loads loaded (Err fault.ReadFault) = ⊥

-- the fault of reading an entry
abbrev pub fault_of : BundleFault → BootFault
fault_of (bundle.At kind line) = fault.At kind line
fault_of bundle.ReadFault = fault.ReadFault
fault_of bundle.NoMemory = fault.NoMemory

-- What comes of a text: a machine, where what is left is its console's input; or why there is none.
abbrev pub BootsAs : (pages quantum : ℕ) → List ℕ → Option (List ℕ) → Result Flat BootFault → Type 0
BootsAs pages quantum text left (Ok flat) =
    (rest : List ℕ) × (left ≡ Some rest) × BootsText pages quantum text (Ok (record { unix = unix_of flat; input = rest }))
BootsAs pages quantum text left (Err (fault.At kind line)) = BootsText pages quantum text (Err (At kind line))
BootsAs pages quantum text left (Err (fault.NoRoom line)) = BootsText pages quantum text (Err (NoRoom line))
BootsAs pages quantum text left (Err (fault.Elf bad)) = BootsText pages quantum text (Err (BadProgram bad))
BootsAs pages quantum text left (Err fault.ReadFault) = Unit {0}
BootsAs pages quantum text left (Err fault.NoMemory) = Unit {0}

-- unless a call of the source failed, its count of faults is the same
abbrev pub CountsSame : Type 0 → Result Flat BootFault → Type 0
CountsSame same (Ok flat) = same
CountsSame same (Err (fault.At kind line)) = same
CountsSame same (Err (fault.NoRoom line)) = same
CountsSame same (Err (fault.Elf bad)) = same
CountsSame same (Err fault.NoMemory) = same
CountsSame same (Err fault.ReadFault) = Unit {0}
