-- What a phase asks of a domain.
use Rattle.std.specs.Prelude.{◌≡◌, ◌≢◌, ◌≤◌, ℕ, true, false, None, IsSome}
use Rattle.kn_base.specs.declared.key.Key.{Key}
use Rattle.kn_base.specs.declared.key.Key.TheVariants.{Null, Resume}
use Rattle.domain.specs.declared.types.State.{State}
use Rattle.domain.specs.declared.types.State.TheVariants.{Available, Running, Waiting}
use Rattle.domain.specs.declared.types.Phase.{Phase}
use Rattle.domain.specs.declared.types.Phase.TheVariants.{Run, Asked, Sent, Done, Exiting, Zombie}
use Rattle.domain.specs.Domains.{Domain, no_domain}

-- in a phase a domain runs, waits for an answer, or may be called
abbrev pub state_for : Phase → State
state_for Run = Running
state_for Asked = Waiting
state_for Sent = Waiting
state_for Done = Waiting
state_for Exiting = Available
state_for Zombie = Available

-- the key by which the domain of a root goes on: while it waits, that of its next call
abbrev pub key_for : ℕ → ℕ → Phase → Key
key_for root count Run = Null
key_for root count Asked = Resume (record { 0 = root }) count
key_for root count Sent = Resume (record { 0 = root }) count
key_for root count Done = Resume (record { 0 = root }) count
key_for root count Exiting = Null
key_for root count Zombie = Null

-- a buffer is held for the bytes of a call that was sent or answered. An answer without bytes may hold one
abbrev pub BufferFits : Domain → Phase → Type 0
BufferFits domain Run = domain.buffer ≡ None
BufferFits domain Asked = domain.buffer ≡ None
BufferFits domain Sent = (domain.request.length ≡ 0 → domain.buffer ≡ None) × (domain.request.length ≢ 0 → IsSome domain.buffer)
BufferFits domain Done = domain.answer.length ≢ 0 → IsSome domain.buffer
BufferFits domain Exiting = domain.buffer ≡ None
BufferFits domain Zombie = domain.buffer ≡ None

-- what no phase uses is zero, and a process that has ended has nothing left
abbrev pub HasRequest : Domain → Phase → Type 0
HasRequest domain Sent = domain.request.length ≤ 4096
HasRequest domain _ = domain.request ≡ no_domain.request

abbrev pub HasAnswer : Domain → Phase → Type 0
HasAnswer domain Done = domain.answer.length ≤ 4096
HasAnswer domain _ = domain.answer ≡ no_domain.answer

abbrev pub HasWord : Domain → Phase → Type 0
HasWord domain Run = domain.word ≡ 0
HasWord domain Asked = domain.word ≡ 0
HasWord domain Sent = domain.word ≡ 0
HasWord domain Done = domain.word ≡ 0
HasWord domain Exiting = Unit {0}
HasWord domain Zombie = Unit {0}

abbrev pub HasSpace : Domain → Phase → Type 0
HasSpace domain Zombie = domain.space ≡ None
HasSpace domain _ = IsSome domain.space

-- it has the nodes of its registers and descriptors
abbrev pub IsWhole : Domain → Phase → Type 0
IsWhole domain Zombie = domain.whole ≡ false
IsWhole domain _ = domain.whole ≡ true

pub record FitsPhase (domain : Domain) (phase : Phase) : Type 0 where
  pub whole : IsWhole domain phase
  pub buffer : BufferFits domain phase
  pub request : HasRequest domain phase
  pub answer : HasAnswer domain phase
  pub word : HasWord domain phase
  pub space : HasSpace domain phase
