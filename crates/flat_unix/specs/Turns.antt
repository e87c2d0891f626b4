-- What turns of the plain machine and their steps promise.
use Rattle.std.specs.Prelude.{◌≡◌, ◌≢◌, ℕ, List, [], Result, Ok, Err}
use Rattle.unix_model.specs.declared.calls.Turned.{Turned}
use Rattle.unix_model.specs.Process.{Phase, SentCall, Sent}
use Rattle.unix_model.specs.State.{Unix}
use Rattle.unix_model.specs.TurnRecord.{Turn}
use Rattle.flat_state.specs.ProcessView.{sent_call_of}
use Rattle.flat_unix.specs.declared.flat.FlatFault.{FlatFault}
use Rattle.flat_unix.specs.declared.flat.FlatFault.TheVariants.{ReadFault, WriteFault, NoMemory, NoRoom, Elf}
use Rattle.flat_unix.specs.declared.families.Family.TheVariants.{Streams}
use Rattle.flat_unix.specs.declared.transfers.Transfer.{Transfer}
use Rattle.flat_unix.specs.declared.transfers.Transfer.TheVariants.{Reads, Writes, Neither}
use Rattle.unix_model.specs.declared.calls.Call.TheVariants.{Read, Write}
use Rattle.flat_unix.specs.Families.{family_of}

-- why a turn fails: a fault of the input or of the output, each with its cause, or want of memory
abbrev pub IsTurnFault : Type 0 → Type 0 → FlatFault → Type 0
IsTurnFault read write ReadFault = read
IsTurnFault read write WriteFault = write
IsTurnFault read write NoMemory = Unit {0}
IsTurnFault read write NoRoom = ⊥
IsTurnFault read write (Elf fault) = ⊥

-- the counts of faults that are the same: both, but for the one of the call that failed
abbrev pub CountsSame : (read write : Type 0) → Result Turned FlatFault → Type 0
CountsSame read write (Ok answer) = read × write
CountsSame read write (Err ReadFault) = write
CountsSame read write (Err WriteFault) = read
CountsSame read write (Err NoMemory) = read × write
CountsSame read write (Err NoRoom) = ⊥
CountsSame read write (Err (Elf fault)) = ⊥

-- a turn that takes nothing from the console and puts nothing there
abbrev pub quiet_turn : Unix → Turned → (input : List ℕ) → Turn
quiet_turn state answer input = record { state = state; answer = answer; taken = []; left = input; put = [] }

-- a phase whose turn is one, since it isn't a call that reads or writes
abbrev pub IsQuiet : Phase → Type 0
IsQuiet phase = (sent : SentCall) → phase ≡ Sent sent → family_of sent.call ≢ Streams

-- the read or the write that a process has sent
abbrev pub IsTransfer : Phase → Transfer → Type 0
IsTransfer phase (Reads sent) = (phase ≡ Sent (sent_call_of sent)) × (sent.call ≡ Read)
IsTransfer phase (Writes sent) = (phase ≡ Sent (sent_call_of sent)) × (sent.call ≡ Write)
IsTransfer phase Neither = IsQuiet phase
