-- How what holds between turns goes along with the marks of processes, each law as one statement.
use Rattle.std.specs.Prelude.{◌≡◌, ◌≢◌, ℕ, false, Some, List}
use Rattle.kernel_tables.specs.Kernel.{Kernel}
use Rattle.kernel_tables.specs.Rows.{domain_rows}
use Rattle.space_bank.specs.Bank.{BankGood}
use Rattle.space_bank.specs.Fixed.{FixedNodes}
use Rattle.domain.specs.declared.types.Phase.TheVariants as phase
use Rattle.domain.specs.Domains.{Domain, domains, lives, roots}
use Rattle.domain.specs.Marks.{is_marked, is_parked_on, parked_on, released, all_woken}
use Rattle.domain.specs.Rules.{RowsGood}
use Rattle.domain.specs.Sets.{WritesNumbers}
use Rattle.domain.specs.Slots.{AreInSlots}
use Rattle.unix_model.specs.declared.calls.Turned.TheVariants.{Blocked}
use Rattle.unix_model.specs.Calls.{Calls}
use Rattle.unix_model.specs.Process.{Process, SentCall, Sent}
use Rattle.unix_model.specs.Room.{promised}
use Rattle.unix_model.specs.Rules.{IsUnix}
use Rattle.unix_model.specs.Tables.{at, with_at}
use Rattle.unix_model.specs.Turn.{turned}
use Rattle.kernel_machine.specs.Counts.{InodesCounted, DescriptionsCounted}
use Rattle.kernel_machine.specs.Good.{Good, MarksFit, ParkedGood, waits_for}
use Rattle.kernel_machine.specs.Machine.{KernelMachine, machine_of}
use Rattle.kernel_machine.specs.Processes.{SlotsGood}
use Rattle.kernel_machine.specs.Standing.{Standing}
use Rattle.kernel_machine.specs.View.{view, processes_in, inodes_in, descriptions_in}

-- Where slots are good, each names a domain that has this slot, and each domain is named by its slot.
abbrev pub SlotsAreNamed : Type 0
SlotsAreNamed = (machine : KernelMachine) → SlotsGood machine.roots machine.room machine.lives machine.domains → AreInSlots machine.roots machine.domains

-- each domain is as it was but for its marks
abbrev pub OnlyMarks : (ℕ → Domain) → (ℕ → Domain) → Type 0
OnlyMarks domains now = (root : ℕ) → at now root ≡ record (at domains root) { marks = (at now root).marks }

-- Marks were written, and nothing else of domains.
pub record WritesMarks (old new : Kernel) : Type 0 where
  pub writes : WritesNumbers old new
  pub lives_now : lives new ≡ lives old
  pub only : OnlyMarks (domains old) (domains new)
  pub bank : BankGood new
  pub rows : RowsGood (domain_rows new)

-- Marks are no part of the flat state, and what stands doesn't depend on them.
abbrev pub MarksUnseen : Type 0
MarksUnseen = (old new : Kernel) → WritesMarks old new → view (machine_of new) ≡ view (machine_of old)

abbrev pub StandingWithMarks : Type 0
StandingWithMarks = (old new : Kernel) → WritesMarks old new → Standing old → Standing new

-- ---- all that holds between turns

-- all that is settled at the end of a turn, but who is parked
pub record SettledButMarks (calls : Calls) (kernel : Kernel) : Type 0 where
  pub fixed : FixedNodes kernel.keys
  pub slots : SlotsGood (machine_of kernel).roots (machine_of kernel).room (machine_of kernel).lives (machine_of kernel).domains
  pub inodes_counted : InodesCounted (machine_of kernel).inodes (inodes_in (machine_of kernel)) (descriptions_in (machine_of kernel))
  pub descriptions_counted : DescriptionsCounted (machine_of kernel).descriptions (processes_in (machine_of kernel))
  pub promises : kernel.machine.promised ≡ promised (view (machine_of kernel))
  pub unix : IsUnix calls (view (machine_of kernel))

-- marks fit of whoever isn't parked on what the word tells, isn't parked in the slot, or isn't in it
abbrev pub MarksFitButOn : Calls → KernelMachine → ℕ → Type 0
MarksFitButOn calls machine word =
    (slot root : ℕ) → at machine.roots slot ≡ Some root → is_parked_on word (at machine.domains root) ≡ false
    → MarksFit calls (view machine) slot (at machine.domains root).marks

abbrev pub MarksFitButIn : Calls → KernelMachine → ℕ → Type 0
MarksFitButIn calls machine slot =
    (other root : ℕ) → at machine.roots other ≡ Some root → (other ≡ slot → is_marked (at machine.domains root) ≡ false)
    → MarksFit calls (view machine) other (at machine.domains root).marks

abbrev pub MarksFitElsewhere : Calls → KernelMachine → ℕ → Type 0
MarksFitElsewhere calls machine slot =
    (other root : ℕ) → at machine.roots other ≡ Some root → other ≢ slot → MarksFit calls (view machine) other (at machine.domains root).marks

-- No wake-up is lost: where marks fit of all who are not parked on an object, they fit of all once these are woken, so that whoever is
-- parked has to wait.
abbrev pub ParkedWithWake : Type 0
ParkedWithWake =
    (calls : Calls) (old new : Kernel) (word : ℕ)
    → WritesNumbers old new → lives new ≡ lives old → domains new ≡ all_woken word (domains old) → BankGood new → RowsGood (domain_rows new)
    → MarksFitButOn calls (machine_of old) word → ParkedGood calls (machine_of new)

-- And so all holds that holds between turns, where an object has changed, so that those who are parked on it may not
-- have to wait any more, and they are woken.
abbrev pub GoodWithWake : Type 0
GoodWithWake =
    (calls : Calls) (old new : Kernel) (word : ℕ)
    → WritesNumbers old new → lives new ≡ lives old → domains new ≡ all_woken word (domains old) → BankGood new → RowsGood (domain_rows new)
    → Standing old → SettledButMarks calls old → MarksFitButOn calls (machine_of old) word → Good calls new

-- The same where the process of one slot is woken, ..
abbrev pub GoodWithWakeOfSlot : Type 0
GoodWithWakeOfSlot =
    (calls : Calls) (old new : Kernel) (slot root : ℕ)
    → WritesNumbers old new → lives new ≡ lives old → at (roots old) slot ≡ Some root → domains new ≡ with_at (domains old) root (released (at (domains old) root))
    → BankGood new → RowsGood (domain_rows new)
    → Standing old → SettledButMarks calls old → MarksFitButIn calls (machine_of old) slot → Good calls new

-- .. and where it is parked, if its call has to wait, and for this.
abbrev pub GoodWithPark : Type 0
GoodWithPark =
    (calls : Calls) (old new : Kernel) (slot root word : ℕ)
    → WritesNumbers old new → lives new ≡ lives old → at (roots old) slot ≡ Some root → (at (domains old) root).phase ≡ phase.Sent
    → domains new ≡ with_at (domains old) root (parked_on word (at (domains old) root)) → BankGood new → RowsGood (domain_rows new)
    → ((input : List ℕ) → (turned calls (view (machine_of old)) slot input).answer ≡ Blocked)
    → ((process : Process) (sent : SentCall) → at (view (machine_of old)).processes slot ≡ Some process → process.phase ≡ Sent sent
    → word ≡ waits_for (view (machine_of old)) process sent sent.call)
    → Standing old → SettledButMarks calls old → MarksFitElsewhere calls (machine_of old) slot → Good calls new
