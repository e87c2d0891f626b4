-- Boot of a bundle. Each entry is stored, in their order; for the first that there is no room for, the bundle is refused at its
-- line. Then comes what the bundle ends with: its refusal, or its line `end`, behind which `/init` is loaded.
use Rattle.std.specs.Prelude.{◌≡◌, ℕ, List, [], ◌∷◌, Result, Ok, Err}
use Rattle.unix_model.specs.declared.elf.ElfFault.{ElfFault}
use Rattle.unix_model.specs.Boot as model
use Rattle.unix_model.specs.Boot.{BootEntry, empty_machine, with_boot_entries, with_init}
use Rattle.unix_model.specs.State.{Unix}
use Rattle.bundle.specs.declared.fault.BundleKind.{BundleKind}
use Rattle.bundle.specs.declared.fault.BundleKind.TheVariants.{NoInit}
use Rattle.bundle.specs.Outcomes.{Ends, Refused}
use Rattle.bundle.specs.Bundles.{Bundle, Described, IsStored, bundle_of, entry_then, no_entries}

-- why a bundle isn't booted
pub data Refusal : Type 0 where
  -- a line of it is refused
  At : (kind : BundleKind) (line : ℕ) → Refusal
  -- for the entry of this line there is no room; on line 0, for the memory of `/init`
  NoRoom : (line : ℕ) → Refusal
  -- `/init` isn't a program that can be loaded
  BadProgram : ElfFault → Refusal

-- what a bundle boots: a machine, and the bytes behind the line `end`, which are its console's input
pub record Booted : Type 0 where
  pub unix : Unix
  pub input : List ℕ

-- The loading of `/init`. A bundle that ends has a file of this name, so that this is never refused for want of one.
abbrev pub started : List ℕ → Result Unix model.BootRefusal → Result Booted Refusal
started rest (Ok unix) = Ok (record { unix = unix; input = rest })
started rest (Err (model.BadProgram fault)) = Err (BadProgram fault)
started rest (Err model.NoRoomToStart) = Err (NoRoom 0)
started rest (Err (model.NoRoomFor entry)) = Err (NoRoom 0)
started rest (Err model.NoProgram) = Err (At NoInit 0)

-- What comes of a bundle whose entries so far are in this state. The file of a program is any that has its form, of which
-- there is one.
pub data Boots : Unix → Bundle → Result Booted Refusal → Type 0 where
  -- the next entry is stored
  stores : {unix next : Unix} {bundle : Bundle} {result : Result Booted Refusal} (entry : Described) (stored : BootEntry)
      → IsStored entry stored → with_boot_entries 0 unix (stored ∷ []) ≡ Ok next → Boots next bundle result → Boots unix (entry_then entry bundle) result
  -- there is no room for it
  has_no_room : {unix : Unix} {bundle : Bundle} (entry : Described) (stored : BootEntry)
      → IsStored entry stored → with_boot_entries 0 unix (stored ∷ []) ≡ Err (model.NoRoomFor 0) → Boots unix (entry_then entry bundle) (Err (NoRoom entry.line))
  -- the bundle is refused behind its entries
  refuses : {unix : Unix} (kind : BundleKind) (line : ℕ) → Boots unix (no_entries (Refused kind line)) (Err (At kind line))
  -- the bundle ends
  ends : {unix : Unix} (rest : List ℕ) → Boots unix (no_entries (Ends rest)) (started rest (with_init unix))

-- what comes of a bundle's text, on a machine of so many pages with this quantum
abbrev pub BootsText : (pages quantum : ℕ) → List ℕ → Result Booted Refusal → Type 0
BootsText pages quantum text result = Boots (empty_machine pages quantum) (bundle_of text) result

-- A bundle boots in one way.
abbrev pub OneOutcome : Type 0
OneOutcome = (unix : Unix) (bundle : Bundle) (first second : Result Booted Refusal) → Boots unix bundle first → Boots unix bundle second → first ≡ second
