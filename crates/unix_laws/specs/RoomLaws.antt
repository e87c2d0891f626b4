-- Strict room: no more pages are promised than the machine has.
use Rattle.std.specs.Prelude.{◌≡◌, ◌≤◌, ℕ, List, Ok}
use Rattle.unix_model.specs.Boot.{BootEntry, booted}
use Rattle.unix_model.specs.Calls.{Calls}
use Rattle.unix_model.specs.Room.{promised}
use Rattle.unix_model.specs.State.{Unix}
use Rattle.unix_model.specs.Turn.{turned}

-- a state of a machine of so many pages that promises no more than these
pub record Fits (pages : ℕ) (unix : Unix) : Type 0 where
  pub promised_few : promised unix ≤ pages
  pub pages_stay : unix.pages ≡ pages

-- Boot promises no more pages than the machine has.
abbrev pub BootFits : Type 0
BootFits = (pages quantum : ℕ) (entries : List BootEntry) (unix : Unix) → booted pages quantum entries ≡ Ok unix → Fits pages unix

-- Nor does any turn.
abbrev pub TurnFits : Type 0
TurnFits =
    (calls : Calls) (unix : Unix) (slot : ℕ) (input : List ℕ)
    → promised unix ≤ unix.pages → Fits unix.pages (turned calls unix slot input).state
