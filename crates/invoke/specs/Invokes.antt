-- What an invocation leaves of the tables of the kernel.
use Rattle.std.specs.Prelude.{◌≡◌, ◌≢◌, ◌⊎◌, ◌<◌, ◌≤◌, ℕ, ◌+◌, ◌/◌, Option, Some, None, List, [], ◌∷◌, Ok, ⊤}
use Rattle.kn_base.specs.declared.key.Key.{Key}
use Rattle.kn_base.specs.declared.key.Key.TheVariants.{Start, Resume}
use Rattle.kernel_tables.specs.declared.entry.NodeOwner.{NodeOwner}
use Rattle.kernel_tables.specs.declared.entry.Entry.{Entry}
use Rattle.kernel_tables.specs.Kernel.{Kernel}
use Rattle.kernel_tables.specs.Rows.{fixed_rows}
use Rattle.kernel_tables.specs.Blocks.{key_block, node_entry_block}
use Rattle.space_bank.specs.Fixed.{state_key}
use Rattle.space_bank.specs.Laws.{and_outside}
use Rattle.space_bank.specs.Shares.{Outside, Shares}
use Rattle.kernel_forest.specs.Trees.{forest_of, outside_trees}
use Rattle.unix_model.specs.Tables.{at}
use Rattle.domain.specs.Domains.{Life, domains, lives, roots, state_number}
use Rattle.domain.specs.Lives.{IsService}
use Rattle.invoke.specs.declared.types.Delivered.{Delivered}
use Rattle.invoke.specs.Steps.{Step, Given, NobodyReached, Reaches, step}
use Rattle.invoke.specs.Room.{room, slot_in, Seat, Stays, room_with, entries_with, key_now, key_was, leaving, IsSeated}

-- the key with a life
abbrev pub life_key : Life → Key
life_key life = state_key (state_number life.state) life.count

-- These are the lives and the resume room now, and this is how often nodes are named. All other tables are as they were but that
-- of keys, and so are the domains, the slot table, the trees, how often anything is named, and of services all keys but those with
-- their lives. What names trees from outside is as before, if the key that stands in the room now and the one that stood there are
-- counted in. Node 0 is nobody's.
pub record InvokesBy (old new : Kernel) (now : ℕ → Life) (rooms : ℕ → Key) (entries : List (Entry NodeOwner)) (key was : Key) : Type 0 where
  pub rest : new ≡ record old { node_entries = entries; keys = new.keys }
  pub lives_now : lives new ≡ now
  pub room_now : room new ≡ rooms
  pub domains_now : domains new ≡ domains old
  pub roots_now : roots new ≡ roots old
  pub forest_now : forest_of new ≡ forest_of old
  pub outside_now : (outside : Outside) → outside_trees new (and_outside outside was) ≡ outside_trees old (and_outside outside key)
  pub null_now : (place : ℕ) → fixed_rows new 0 place ≡ fixed_rows old 0 place
  pub services_rest : (service place : ℕ) → service < 7 → place ≢ 6 → fixed_rows new service place ≡ fixed_rows old service place
  pub service_life : (service : ℕ) → IsService (fixed_rows old) service
      → (fixed_rows new service 6 ≡ fixed_rows old service 6) ⊎ (fixed_rows new service 6 ≡ life_key (at now service))
  pub services_now : (service : ℕ) → IsService (fixed_rows old) service → IsService (fixed_rows new) service
  pub slots_now : (node place : ℕ) → 11 ≤ node → fixed_rows new node place ≡ fixed_rows old node place
  pub shares : (outside : Outside) (hand : List Key) → Shares old outside hand → Shares new outside hand

abbrev pub Invokes : Kernel → Kernel → (ℕ → Life) → Seat → Type 0
Invokes old new now seat = InvokesBy old new now (room_with old seat) (entries_with old seat) (key_now seat) (key_was seat)

-- what the use of a key does to the room, once it isn't refused
abbrev pub seat_of : Kernel → Key → Seat
seat_of kernel (Resume root count) = leaving kernel root.0 count
seat_of kernel _ = Stays

-- who was reached, and by which byte
abbrev pub given_by : Option Delivered → Given
given_by None = NobodyReached
given_by (Some delivered) = Reaches delivered.to.0 delivered.byte

-- An invocation is a step that isn't refused.
pub record Goes (old new : Kernel) (one : Step) (given : Given) (seat : Seat) : Type 0 where
  pub now : ℕ → Life
  pub steps : step (lives old) one ≡ Ok (record { lives = now; given = given })
  pub invokes : Invokes old new now seat

-- The root is that of the domain of a used slot, which has its place in the room.
pub record IsCaller (kernel : Kernel) (slot root : ℕ) : Type 0 where
  pub used : at (roots kernel) slot ≡ Some root
  pub own : slot_in kernel root ≡ slot
  pub seated : IsSeated kernel root

-- whoever a key reaches keeps its place
abbrev pub KeepsSeat : Kernel → Kernel → Key → Type 0
KeepsSeat old new (Start root byte) = IsSeated old root.0 → IsSeated new root.0
KeepsSeat old new (Resume root count) = IsSeated old root.0 → IsSeated new root.0
KeepsSeat old new _ = ⊤

-- the root of a slot, and 0 where it is free
abbrev pub some_or_zero : Option ℕ → ℕ
some_or_zero None = 0
some_or_zero (Some n) = n

abbrev pub root_in_slot : Kernel → ℕ → ℕ
root_in_slot kernel slot = some_or_zero (at (roots kernel) slot)

-- the blocks of a life, and of a place in the room with the count of its root
abbrev pub life_blocks : Kernel → ℕ → List ℕ
life_blocks kernel root = key_block kernel.pages root ∷ []

abbrev pub seat_blocks : Kernel → ℕ → List ℕ
seat_blocks kernel root = node_entry_block kernel.size root ∷ key_block kernel.pages (7 + slot_in kernel root / 16) ∷ []

-- the blocks that may change where a key is used
abbrev pub reached_blocks : Kernel → Key → List ℕ
reached_blocks kernel (Start root byte) = key_block kernel.pages root.0 ∷ []
reached_blocks kernel (Resume root count) = key_block kernel.pages root.0 ∷ node_entry_block kernel.size root.0 ∷ key_block kernel.pages (7 + slot_in kernel root.0 / 16) ∷ []
reached_blocks kernel _ = []
