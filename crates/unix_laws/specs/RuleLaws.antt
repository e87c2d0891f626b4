-- Rules of a state that boot gives and every turn keeps.
use Rattle.std.specs.Prelude.{◌≡◌, ℕ, List, Option, Some, None, Ok, length, replicate}
use Rattle.unix_model.specs.Boot.{BootEntry, booted}
use Rattle.unix_model.specs.Calls.{Calls}
use Rattle.unix_model.specs.Limits.{descriptor_count, slot_count}
use Rattle.unix_model.specs.Process.{Process}
use Rattle.unix_model.specs.Rules.{AreOpen, AreSent, AreSizes, AreSlots, EndsAt}
use Rattle.unix_model.specs.State.{Unix, phase_word}
use Rattle.unix_model.specs.Tables.{at}
use Rattle.unix_model.specs.Turn.{turned}

-- The pages, the quantum and the position of a state.
abbrev pub HasSizes : Unix → Type 0
HasSizes unix = AreSizes unix.pages unix.quantum unix.position

-- Every turn keeps the pages and the quantum, and leaves the position in its round.
abbrev pub SizesKept : Type 0
SizesKept = (calls : Calls) (unix : Unix) (slot : ℕ) (input : List ℕ) → HasSizes unix → HasSizes (turned calls unix slot input).state

-- What the rules of slots say of descriptors: no slot is past the last; each process has its descriptors; and one that has
-- ended has none open.
pub record HaveDescriptors (processes : ℕ → Option Process) : Type 0 where
  pub end : EndsAt slot_count processes
  pub each : (slot : ℕ) (process : Process) → at processes slot ≡ Some process → length process.descriptors ≡ descriptor_count
  pub ended : (slot word : ℕ) (process : Process) → at processes slot ≡ Some process → phase_word process.phase ≡ Some word
      → process.descriptors ≡ replicate descriptor_count None

-- The rules of slots say so.
abbrev pub SlotsHaveDescriptors : Type 0
SlotsHaveDescriptors = (processes : ℕ → Option Process) → AreSlots processes → HaveDescriptors processes

-- Every turn keeps it.
abbrev pub DescriptorsKept : Type 0
DescriptorsKept =
    (calls : Calls) (unix : Unix) (slot : ℕ) (input : List ℕ) → HaveDescriptors unix.processes → HaveDescriptors (turned calls unix slot input).state.processes

-- After every turn each call on its way is the one that the keeper gives then, were its process still in Asked.
abbrev pub SentKept : Type 0
SentKept = (calls : Calls) (unix : Unix) (slot : ℕ) (input : List ℕ) → HaveDescriptors unix.processes → AreSent calls unix → AreSent calls (turned calls unix slot input).state

-- After every turn a description is there exactly where a descriptor names it.
abbrev pub OpenKept : Type 0
OpenKept =
    (calls : Calls) (unix : Unix) (slot : ℕ) (input : List ℕ) → HaveDescriptors unix.processes → AreOpen unix.processes unix.files.descriptions
    → AreOpen (turned calls unix slot input).state.processes (turned calls unix slot input).state.files.descriptions

-- The machine after boot: its sizes are those that were asked for, its slots have their descriptors, no call is on its way, and descriptions are where
-- descriptors name them.
pub record BootRules (calls : Calls) (unix : Unix) : Type 0 where
  pub sizes : HasSizes unix
  pub slots : HaveDescriptors unix.processes
  pub sent : AreSent calls unix
  pub opens : AreOpen unix.processes unix.files.descriptions

-- Boot of any entries gives them, for sizes that are right.
abbrev pub BootGivesRules : Type 0
BootGivesRules =
    (calls : Calls) (pages quantum : ℕ) (entries : List BootEntry) (unix : Unix)
    → AreSizes pages quantum 0 → booted pages quantum entries ≡ Ok unix → BootRules calls unix
