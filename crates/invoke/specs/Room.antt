-- The resume room: by which key the domain of a slot goes on.
use Rattle.std.specs.Prelude.{◌≡◌, ◌<◌, ℕ, ◌+◌, ◌/◌, ◌%◌, ◌==◌, Bool, true, false, if◌then◌else◌, List, slice_set, ⊤}
use Rattle.kn_base.specs.declared.key.Key.{Key}
use Rattle.kn_base.specs.declared.key.Key.TheVariants.{Null, Start, Resume}
use Rattle.kernel_tables.specs.declared.entry.NodeOwner.{NodeOwner}
use Rattle.kernel_tables.specs.declared.entry.NodeOwner.TheVariants.{Domain as DomainOwner}
use Rattle.kernel_tables.specs.declared.entry.Entry.{Entry}
use Rattle.kernel_tables.specs.declared.entry.Entry.TheVariants.{Taken}
use Rattle.kernel_tables.specs.Kernel.{Kernel}
use Rattle.kernel_tables.specs.Rows.{entry_at, domain_rows, fixed_rows}
use Rattle.space_bank.specs.Laws.{and_outside}
use Rattle.space_bank.specs.Shares.{Outside, Shares}
use Rattle.kernel_forest.specs.Trees.{forest_of, outside_trees}
use Rattle.unix_model.specs.Tables.{at, with_at}
use Rattle.domain.specs.declared.types.State.{State}
use Rattle.domain.specs.declared.types.State.TheVariants.{Available, Running, Waiting}
use Rattle.domain.specs.Domains.{domains, lives}
use Rattle.domain.specs.Lives.{HasLife}
use Rattle.domain.specs.Rules.{written}
use Rattle.domain.specs.Slots.{room_of}

abbrev pub room : Kernel → ℕ → Key
room kernel = room_of (fixed_rows kernel)

-- the place of the domain of a root
abbrev pub slot_in : Kernel → ℕ → ℕ
slot_in kernel root = (at (domains kernel) root).slot

-- While a domain waits, the key that answers its call stands at its place, and else Null. So its root is named by the slot
-- table, and by this key.
abbrev pub key_while : State → ℕ → ℕ → Key
key_while Available root count = Null
key_while Running root count = Null
key_while Waiting root count = Resume (record { 0 = root }) count

abbrev pub names_while : State → ℕ
names_while Available = 1
names_while Running = 1
names_while Waiting = 2

pub record IsSeated (kernel : Kernel) (root : ℕ) : Type 0 where
  pub live : (at (domains kernel) root).live ≡ true
  pub place : slot_in kernel root < 64
  pub key : at (room kernel) (slot_in kernel root) ≡ key_while (at (lives kernel) root).state root (at (lives kernel) root).count
  pub named : entry_at kernel.node_entries root ≡ Taken DomainOwner (names_while (at (lives kernel) root).state)

-- one waits for the answer to the call of this number
abbrev pub awaits : State → ℕ → ℕ → Bool
awaits Available own count = false
awaits Running own count = false
awaits Waiting own count = own == count

-- A key may be used to reach a domain or a service that is there.
abbrev pub MayUse : Kernel → Key → Type 0
MayUse kernel (Start root byte) = HasLife kernel root.0
MayUse kernel (Resume root count) = HasLife kernel root.0 × ((at (domains kernel) root.0).live ≡ true → IsSeated kernel root.0)
MayUse kernel _ = ⊤

-- What an invocation does to a place of the room: nothing, or a domain begins to wait there, or waits no more.
pub data Seat : Type 0 where
  Stays : Seat
  Enters : (root count : ℕ) → Seat
  Leaves : (root count : ℕ) → Seat

abbrev pub room_with : Kernel → Seat → ℕ → Key
room_with kernel Stays = room kernel
room_with kernel (Enters root count) = with_at (room kernel) (slot_in kernel root) (Resume (record { 0 = root }) count)
room_with kernel (Leaves root count) = with_at (room kernel) (slot_in kernel root) Null

-- how often the root is named then
abbrev pub entries_with : Kernel → Seat → List (Entry NodeOwner)
entries_with kernel Stays = kernel.node_entries
entries_with kernel (Enters root count) = slice_set kernel.node_entries root (Taken DomainOwner 2)
entries_with kernel (Leaves root count) = slice_set kernel.node_entries root (Taken DomainOwner 1)

-- the key that stands at the place now, and the one that stood there
abbrev pub key_now : Seat → Key
key_now Stays = Null
key_now (Enters root count) = Resume (record { 0 = root }) count
key_now (Leaves root count) = Null

abbrev pub key_was : Seat → Key
key_was Stays = Null
key_was (Enters root count) = Null
key_was (Leaves root count) = Resume (record { 0 = root }) count

-- a service has no place
abbrev pub leaving : Kernel → ℕ → ℕ → Seat
leaving kernel root count = if (at (domains kernel) root).live then Leaves root count else Stays

-- A key was written at the place of a slot, in place of another one, and the root is counted so often now.
pub record Seats (old new : Kernel) (root slot names : ℕ) (key was : Key) : Type 0 where
  pub rest : new ≡ record old { node_entries = slice_set old.node_entries root (Taken DomainOwner names); keys = new.keys }
  pub rows_now : domain_rows new ≡ domain_rows old
  pub fixed_now : fixed_rows new ≡ written (fixed_rows old) (7 + slot / 16) (slot % 16) key
  pub forest_now : forest_of new ≡ forest_of old
  pub outside_now : (outside : Outside) → outside_trees new (and_outside outside was) ≡ outside_trees old (and_outside outside key)
  pub shares : (outside : Outside) (hand : List Key) → Shares old outside hand → Shares new outside hand
