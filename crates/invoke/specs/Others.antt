-- Whom an invocation leaves as he was.
use Rattle.std.specs.Prelude.{◌≡◌, ℕ, true, List, [], ◌∷◌, ⊤}
use Rattle.kn_base.specs.declared.key.Key.{Key}
use Rattle.kn_base.specs.declared.key.Key.TheVariants.{Start, Resume}
use Rattle.kernel_tables.specs.Kernel.{Kernel}
use Rattle.kernel_tables.specs.Rows.{entry_at}
use Rattle.kernel_tables.specs.Blocks.{IsAmong}
use Rattle.unix_model.specs.Tables.{at}
use Rattle.domain.specs.Domains.{domains, lives}
use Rattle.domain.specs.Slots.{SlotsDiffer}
use Rattle.invoke.specs.Steps.{Step, Given, Calls, Forks, Returns}
use Rattle.invoke.specs.Room.{room, slot_in, Seat, Enters, IsSeated}
use Rattle.invoke.specs.Invokes.{Goes, seat_of}

-- whom a key reaches, and whose life an invocation sets
abbrev pub reached_by : Key → List ℕ
reached_by (Start root byte) = root.0 ∷ []
reached_by (Resume root count) = root.0 ∷ []
reached_by _ = []

abbrev pub touched : Step → List ℕ
touched (Calls root key) = root ∷ []
touched (Forks key) = reached_by key
touched (Returns root key) = root ∷ reached_by key

-- what it does to the room
abbrev pub seat_at : Kernel → Step → Seat
seat_at kernel (Calls root key) = Enters root (at (lives kernel) root).count
seat_at kernel (Forks key) = seat_of kernel key
seat_at kernel (Returns root key) = seat_of kernel key

-- A root has the state and the count of calls that it had, and is named as often. The same key stands at the place of its domain,
-- which has its place in the room if it had it before.
pub record IsLeft (old new : Kernel) (root : ℕ) : Type 0 where
  pub life : at (lives new) root ≡ at (lives old) root
  pub key : (at (domains old) root).live ≡ true → at (room new) (slot_in new root) ≡ at (room old) (slot_in old root)
  pub named : entry_at new.node_entries root ≡ entry_at old.node_entries root
  pub seated : IsSeated old root → IsSeated new root

-- where no two domains have one slot, all are left but these
abbrev pub LeavesOthers : Kernel → Kernel → List ℕ → Type 0
LeavesOthers old new roots = SlotsDiffer (domains old) → (root : ℕ) → (IsAmong root roots → ⊥) → IsLeft old new root

-- one who calls is a domain
abbrev pub CallerLives : Kernel → Step → Type 0
CallerLives kernel (Calls root key) = (at (domains kernel) root).live ≡ true
CallerLives kernel _ = ⊤

-- An invocation leaves all but those whose life it sets.
abbrev pub OthersAreLeft : Type 0
OthersAreLeft =
    (old new : Kernel) (one : Step) (given : Given) → CallerLives old one → Goes old new one given (seat_at old one) → LeavesOthers old new (touched one)
