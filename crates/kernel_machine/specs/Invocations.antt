-- How what holds goes along with invocations, each law as one statement.
use Rattle.std.specs.Prelude.{◌≡◌, ◌<◌, ◌≤◌, ℕ, true, Option, Some, None, List, [], ◌++◌}
use Rattle.kn_base.specs.declared.key.Key.{Key}
use Rattle.kn_base.specs.declared.key.Key.TheVariants.{Null}
use Rattle.kernel_tables.specs.Blocks.{IsAmong}
use Rattle.kernel_tables.specs.Kernel.{Kernel}
use Rattle.kernel_tables.specs.Rows.{domain_rows, fixed_rows}
use Rattle.space_bank.specs.Bank.{BankGood}
use Rattle.space_bank.specs.Fixed.{FixedNodes, IsServiceRoot, IsRoomKey, IsSlotKey, key_in, room_key, slot_key}
use Rattle.unix_model.specs.Tables.{at, with_at}
use Rattle.domain.specs.declared.types.State.TheVariants.{Available}
use Rattle.domain.specs.Domains.{Domain, Life, domains, lives, roots, state_number}
use Rattle.domain.specs.Ends.{DropsDomain}
use Rattle.domain.specs.Life.{MakesDomain}
use Rattle.domain.specs.Marks.{all_woken}
use Rattle.domain.specs.Rules.{RowsGood}
use Rattle.domain.specs.Slots.{SlotsDiffer, room_of}
use Rattle.invoke.specs.Invokes.{Goes}
use Rattle.invoke.specs.Others.{CallerLives, seat_at, touched}
use Rattle.invoke.specs.Steps.{Step, Given}
use Rattle.kernel_machine.specs.Machine.{machine_of}
use Rattle.kernel_machine.specs.Processes.{SlotsGood, IsInSlot}
use Rattle.kernel_machine.specs.Standing.{Standing}
use Rattle.kernel_machine.specs.View.{view}

-- An invocation leaves what stands, ..
abbrev pub StandingWithInvocation : Type 0
StandingWithInvocation =
    (old new : Kernel) (one : Step) (given : Given) → CallerLives old one → Goes old new one given (seat_at old one)
    → BankGood new → RowsGood (domain_rows new) → Standing old → Standing new

-- .. and the flat state.
abbrev pub InvocationUnseen : Type 0
InvocationUnseen = (old new : Kernel) (one : Step) (given : Given) → Goes old new one given (seat_at old one) → view (machine_of new) ≡ view (machine_of old)

-- ---- slots, while a turn goes on

-- Slots are good but for those of some roots, whose phase, state and key don't agree yet.
pub record SlotsGoodBut (roots : ℕ → Option ℕ) (room : ℕ → Key) (lives : ℕ → Life) (domains : ℕ → Domain) (apart : List ℕ) : Type 0 where
  pub each : (slot root : ℕ) → at roots slot ≡ Some root → (IsAmong root apart → ⊥) → IsInSlot room lives domains slot root
  pub live : (slot root : ℕ) → at roots slot ≡ Some root → (at domains root).live ≡ true
  pub own : (slot root : ℕ) → at roots slot ≡ Some root → (at domains root).slot ≡ slot
  pub all : (root : ℕ) → (at domains root).live ≡ true → at roots (at domains root).slot ≡ Some root
  pub free : (slot : ℕ) → slot < 64 → at roots slot ≡ None → at room slot ≡ Null

-- An invocation touches the slot of who calls or answers, and of who is reached.
abbrev pub SlotsWithInvocation : Type 0
SlotsWithInvocation =
    (old new : Kernel) (one : Step) (given : Given) (apart : List ℕ) → CallerLives old one → Goes old new one given (seat_at old one)
    → SlotsGoodBut (roots old) (room_of (fixed_rows old)) (lives old) (domains old) apart
    → SlotsGoodBut (roots new) (room_of (fixed_rows new)) (lives new) (domains new) (touched one ++ apart)

-- A domain is set that stays one, in its slot.
abbrev pub SlotsButWithDomain : Type 0
SlotsButWithDomain =
    (roots : ℕ → Option ℕ) (room : ℕ → Key) (lives : ℕ → Life) (domains : ℕ → Domain) (root : ℕ) (domain : Domain) (apart : List ℕ)
    → domain.live ≡ (at domains root).live → domain.slot ≡ (at domains root).slot → IsAmong root apart
    → SlotsGoodBut roots room lives domains apart → SlotsGoodBut roots room lives (with_at domains root domain) apart

-- All are woken that are parked on what a word tells.
abbrev pub SlotsButWithWake : Type 0
SlotsButWithWake =
    (roots : ℕ → Option ℕ) (room : ℕ → Key) (lives : ℕ → Life) (domains : ℕ → Domain) (word : ℕ) (apart : List ℕ)
    → SlotsGoodBut roots room lives domains apart → SlotsGoodBut roots room lives (all_woken word domains) apart

-- Slots are good where those of all roots are.
abbrev pub SlotsAreSettled : Type 0
SlotsAreSettled =
    (roots : ℕ → Option ℕ) (room : ℕ → Key) (lives : ℕ → Life) (domains : ℕ → Domain) (apart : List ℕ) → SlotsGoodBut roots room lives domains apart
    → ((slot root : ℕ) → at roots slot ≡ Some root → IsAmong root apart → IsInSlot room lives domains slot root) → SlotsGood roots room lives domains

-- slots that are good are so but for none
abbrev pub SlotsAreGoodBut : Type 0
SlotsAreGoodBut =
    (roots : ℕ → Option ℕ) (room : ℕ → Key) (lives : ℕ → Life) (domains : ℕ → Domain) → SlotsGood roots room lives domains → SlotsGoodBut roots room lives domains []

-- ---- fixed nodes, while a turn goes on

-- The fixed nodes hold what they hold between turns, but that some services need not be available yet: the root of each holds its life.
pub record FixedBut (kernel : Kernel) (apart : List ℕ) : Type 0 where
  pub null_node : (place : ℕ) → place < 16 → key_in kernel.keys 0 place ≡ Some Null
  pub services : (service : ℕ) → 1 ≤ service → service ≤ 6 → IsServiceRoot kernel.keys service (state_number (at (lives kernel) service).state) (at (lives kernel) service).count
  pub available : (service : ℕ) → 1 ≤ service → service ≤ 6 → (IsAmong service apart → ⊥) → (at (lives kernel) service).state ≡ Available
  pub room : (slot : ℕ) → slot < 64 → IsRoomKey (room_key kernel.keys slot)
  pub slots : (slot : ℕ) → slot < 64 → IsSlotKey (slot_key kernel.keys slot)

-- fixed nodes that are good are so but for none
abbrev pub FixedAreGoodBut : Type 0
FixedAreGoodBut = (kernel : Kernel) → BankGood kernel → FixedNodes kernel.keys → FixedBut kernel []

-- An invocation touches the services that are called or answer.
abbrev pub FixedWithInvocation : Type 0
FixedWithInvocation =
    (old new : Kernel) (one : Step) (given : Given) (apart : List ℕ) → CallerLives old one → SlotsDiffer (domains old)
    → Goes old new one given (seat_at old one) → BankGood old → BankGood new → FixedBut old apart → FixedBut new (touched one ++ apart)

-- Keys of fixed nodes are as they were, ..
abbrev pub FixedButWithRows : Type 0
FixedButWithRows =
    (old new : Kernel) (apart : List ℕ) → BankGood old → BankGood new → fixed_rows new ≡ fixed_rows old → FixedBut old apart → FixedBut new apart

-- .. a domain was made, ..
abbrev pub FixedButWithBirth : Type 0
FixedButWithBirth =
    (old new : Kernel) (slot space root : ℕ) (apart : List ℕ) → slot < 64 → BankGood old → BankGood new → MakesDomain old new slot space root
    → FixedBut old apart → FixedBut new apart

-- .. or dropped.
abbrev pub FixedButWithGone : Type 0
FixedButWithGone =
    (old new : Kernel) (slot root : ℕ) (apart : List ℕ) → slot < 64 → BankGood old → BankGood new → DropsDomain old new slot root
    → FixedBut old apart → FixedBut new apart

-- Fixed nodes are good where all services are available.
abbrev pub FixedAreSettled : Type 0
FixedAreSettled =
    (kernel : Kernel) (apart : List ℕ) → FixedBut kernel apart
    → ((service : ℕ) → 1 ≤ service → service ≤ 6 → IsAmong service apart → (at (lives kernel) service).state ≡ Available) → FixedNodes kernel.keys
