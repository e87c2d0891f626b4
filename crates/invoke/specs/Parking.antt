-- Who is parked, and who goes on.
use Rattle.std.specs.Prelude.{◌≡◌, ℕ, zero, suc, ◌+◌, true, false, Bool, Option, Some, None, List, [], ◌∷◌, ◌++◌, if◌then◌else◌}
use Rattle.kernel_tables.specs.Kernel.{Kernel}
use Rattle.kernel_tables.specs.Blocks.{key_block}
use Rattle.unix_model.specs.Tables.{at, with_at}
use Rattle.domain.specs.declared.types.Phase.TheVariants.{Sent}
use Rattle.domain.specs.Domains.{Domain, domains, roots}
use Rattle.domain.specs.Marks.{is_marked, is_parked_on, released, woken}
use Rattle.invoke.specs.declared.types.WaitFor.{WaitFor}
use Rattle.invoke.specs.declared.types.WaitFor.TheVariants.{Pipe, Child}

-- the word of the marks that tells what a process waits for
abbrev pub object_word : WaitFor → ℕ
object_word (Pipe inode) = inode + 1
object_word Child = 0

-- The root is that of the process in the slot, whose call waits for a server.
pub record IsSent (kernel : Kernel) (slot root : ℕ) : Type 0 where
  pub used : at (roots kernel) slot ≡ Some root
  pub live : (at (domains kernel) root).live ≡ true
  pub sent : (at (domains kernel) root).phase ≡ Sent

-- what the slot names, if it isn't free, is a domain
abbrev pub HasDomain : Kernel → ℕ → Type 0
HasDomain kernel slot = (root : ℕ) → at (roots kernel) slot ≡ Some root → (at (domains kernel) root).live ≡ true

-- whether the process in a slot is parked, and the domains where it is no more; nobody is in a free slot
abbrev pub is_parked_in : (ℕ → Domain) → Option ℕ → Bool
is_parked_in domains None = false
is_parked_in domains (Some root) = is_marked (at domains root)

abbrev pub released_in : (ℕ → Domain) → Option ℕ → ℕ → Domain
released_in domains None = domains
released_in domains (Some root) = with_at domains root (released (at domains root))

-- .. and those where it goes on if it is parked on what the word tells
abbrev pub woken_in : ℕ → (ℕ → Domain) → Option ℕ → ℕ → Domain
woken_in word domains None = domains
woken_in word domains (Some root) = with_at domains root (woken word (at domains root))

-- the block of the marks of whoever is parked in a slot on what the word tells, and those of all in the slots below
abbrev pub woken_block : Kernel → ℕ → Option ℕ → List ℕ
woken_block kernel word None = []
woken_block kernel word (Some root) = if is_parked_on word (at (domains kernel) root) then key_block kernel.pages root ∷ [] else []

unfoldable pub woken_blocks : Kernel → ℕ → ℕ → List ℕ
woken_blocks kernel word zero = []
woken_blocks kernel word (suc slot) = woken_block kernel word (at (roots kernel) slot) ++ woken_blocks kernel word slot

-- the block of the marks of whoever is parked in a slot
abbrev pub released_blocks : Kernel → Option ℕ → List ℕ
released_blocks kernel None = []
released_blocks kernel (Some root) = if is_marked (at (domains kernel) root) then key_block kernel.pages root ∷ [] else []
