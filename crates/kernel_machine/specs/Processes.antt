-- What holds of the domains of a machine between turns.
use Rattle.std.specs.Prelude.{◌≡◌, ℕ, ◌<◌, ◌^◌, true, Option, Some, None, [], replicate}
use Rattle.kn_base.specs.declared.key.Key.{Key}
use Rattle.kn_base.specs.declared.key.Key.TheVariants.{Null}
use Rattle.kernel_tables.specs.declared.entry.PageOwner.{PageOwner}
use Rattle.kernel_tables.specs.declared.entry.PageOwner.TheVariants.{Buffer}
use Rattle.unix_model.specs.Tables.{at}
use Rattle.forest.specs.Forest.{Forest, IsSpace}
use Rattle.forest.specs.Objects.{NodeObject, OfProcess}
use Rattle.domain.specs.declared.types.Phase.{Phase}
use Rattle.domain.specs.declared.types.Phase.TheVariants.{Sent}
use Rattle.domain.specs.Domains.{Domain, Life}
use Rattle.domain.specs.Phases.{state_for, key_for, FitsPhase}

-- ---- domains by themselves

-- a process is parked while its call waits for a server alone
abbrev pub HasMarks : Domain → Phase → Type 0
HasMarks domain Sent = Unit {0}
HasMarks domain _ = domain.marks ≡ replicate 3 0

-- ---- slots and lives

-- the domain of a root stands in this slot, and goes on by the slot's key in the resume room
pub record IsInSlot (room : ℕ → Key) (lives : ℕ → Life) (domains : ℕ → Domain) (slot root : ℕ) : Type 0 where
  pub live : (at domains root).live ≡ true
  pub slot_is : (at domains root).slot ≡ slot
  pub state : (at lives root).state ≡ state_for (at domains root).phase
  pub key : at room slot ≡ key_for root (at lives root).count (at domains root).phase
  pub count : (at lives root).count < 2 ^ 64
  pub fits : FitsPhase (at domains root) (at domains root).phase
  pub marks : HasMarks (at domains root) (at domains root).phase

-- each root in the slot table is that of a domain, and each domain is in its slot. Nobody waits in a slot that is free
pub record SlotsGood (roots : ℕ → Option ℕ) (room : ℕ → Key) (lives : ℕ → Life) (domains : ℕ → Domain) : Type 0 where
  pub each : (slot root : ℕ) → at roots slot ≡ Some root → IsInSlot room lives domains slot root
  pub all : (root : ℕ) → (at domains root).live ≡ true → at roots (at domains root).slot ≡ Some root
  pub free : (slot : ℕ) → slot < 64 → at roots slot ≡ None → at room slot ≡ Null

-- ---- what domains hold

-- the space of a domain is a tree of processes, and its buffer a page for buffers; no two domains have one
pub record HoldingsGood (domains : ℕ → Domain) (forest : Forest) (page_owner : ℕ → Option PageOwner) : Type 0 where
  pub spaces : (root space : ℕ) → (at domains root).space ≡ Some space → IsSpace forest [] space × (forest.owner (NodeObject space) ≡ Some OfProcess)
  pub buffers : (root page : ℕ) → (at domains root).buffer ≡ Some page → at page_owner page ≡ Some Buffer
  pub spaces_differ : (root other space : ℕ) → (at domains root).space ≡ Some space → (at domains other).space ≡ Some space → root ≡ other
  pub buffers_differ : (root other page : ℕ) → (at domains root).buffer ≡ Some page → (at domains other).buffer ≡ Some page → root ≡ other
