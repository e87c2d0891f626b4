-- What lasts: while a process waits for the answer to its call, the turns of others leave it as it is.
use Rattle.std.specs.Prelude.{◌≡◌, ◌≢◌, ◌⊎◌, ℕ, List, Some, Ok}
use Rattle.unix_model.specs.Calls.{Calls}
use Rattle.unix_model.specs.Enter.{entered_line}
use Rattle.unix_model.specs.Files.{Description}
use Rattle.unix_model.specs.Process.{Process, SentCall, Phase, Asked, Sent, Exiting, descriptor, in_phase}
use Rattle.unix_model.specs.State.{Unix, with_phase}
use Rattle.unix_model.specs.Tables.{at}
use Rattle.unix_model.specs.Turn.{turned}
use Rattle.unix_laws.specs.RuleLaws.{HaveDescriptors}

-- A process in another state: all but its parent and its phase is as before; the phase is as before too, unless a signal
-- ended it; and what its descriptors are open on is as before, but for offsets.
pub record Lasts (before after : Unix) (slot : ℕ) (process : Process) : Type 0 where
  pub parent : ℕ
  pub phase : Phase
  pub there : at after.processes slot ≡ Some (record process { parent = parent; phase = phase })
  pub stays : (phase ≡ process.phase) ⊎ ((word : ℕ) × (phase ≡ Exiting word))
  pub descriptions : (number description : ℕ) (held : Description) → descriptor process number ≡ Some description → at before.files.descriptions description ≡ Some held
      → (offset : ℕ) × (at after.files.descriptions description ≡ Some (record held { offset = offset }))

-- A process that waits for an answer lasts through a turn of another slot.
abbrev pub SentLasts : Type 0
SentLasts =
    (calls : Calls) (unix : Unix) (slot turn : ℕ) (process : Process) (sent : SentCall) (input : List ℕ)
    → HaveDescriptors unix.processes
    → at unix.processes slot ≡ Some process → process.phase ≡ Sent sent → turn ≢ slot
    → Lasts unix (turned calls unix turn input).state slot process

-- What the keeper would give, were the process still in Asked, lasts too: the call that it has sent.
abbrev pub EnteredLasts : Type 0
EnteredLasts =
    (calls : Calls) (unix : Unix) (slot turn : ℕ) (process next : Process) (sent given : SentCall) (input : List ℕ)
    → HaveDescriptors unix.processes
    → at unix.processes slot ≡ Some process → process.phase ≡ Sent sent → turn ≢ slot
    → entered_line calls (with_phase unix slot process Asked) slot (in_phase process Asked) ≡ Ok process
    → at (turned calls unix turn input).state.processes slot ≡ Some next → next.phase ≡ Sent given
    → entered_line calls (with_phase (turned calls unix turn input).state slot next Asked) slot (in_phase next Asked) ≡ Ok next
