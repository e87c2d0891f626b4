-- Laws of descriptors: there are as many descriptions as descriptors of all processes.
use Rattle.std.specs.Prelude.{◌≡◌, ◌≢◌, ℕ, List, Some, IsSome, Ok, Err}
use Rattle.unix_model.specs.declared.calls.Errno.TheVariants.{Ebadf, Enosys}
use Rattle.unix_model.specs.Calls.{Calls}
use Rattle.unix_model.specs.Enter.{entered_line}
use Rattle.unix_model.specs.Files.{next_description, free_description}
use Rattle.unix_model.specs.Process.{Process, SentCall, Asked, Sent, in_phase, lowest_closed, next_closed}
use Rattle.unix_model.specs.Rules.{AreDescriptions, AreOpen}
use Rattle.unix_model.specs.State.{Unix}
use Rattle.unix_model.specs.Tables.{at}
use Rattle.unix_model.specs.Turn.{call_line}
use Rattle.unix_laws.specs.RuleLaws.{HaveDescriptors}

-- Where a process has a closed descriptor, some description is free: open is never refused for want of one.
abbrev pub FreeDescription : Type 0
FreeDescription =
    (unix : Unix) (slot lowest : ℕ) (process : Process)
    → HaveDescriptors unix.processes → AreOpen unix.processes unix.files.descriptions
    → at unix.processes slot ≡ Some process → lowest_closed process ≡ Some lowest
    → IsSome (free_description unix.files.descriptions)

-- Where it has two, so are two descriptions: nor is pipe.
abbrev pub TwoFreeDescriptions : Type 0
TwoFreeDescriptions =
    (unix : Unix) (slot first second reader : ℕ) (process : Process)
    → HaveDescriptors unix.processes → AreOpen unix.processes unix.files.descriptions
    → at unix.processes slot ≡ Some process → lowest_closed process ≡ Some first → next_closed process first ≡ Some second
    → free_description unix.files.descriptions ≡ Some reader
    → IsSome (next_description unix.files.descriptions reader)

-- A call that the keeper sends is never refused for its descriptor (EBADF), nor as one that isn't served (ENOSYS): what it
-- needs of these the keeper has tested.
abbrev pub SentDescriptorsAreOpen : Type 0
SentDescriptorsAreOpen =
    (calls : Calls) (unix : Unix) (slot : ℕ) (process : Process) (sent : SentCall) (input : List ℕ)
    → AreDescriptions unix.files
    → entered_line calls unix slot (in_phase process Asked) ≡ Ok process → process.phase ≡ Sent sent
    → (call_line unix slot process input sent sent.call ≢ Err Ebadf) × (call_line unix slot process input sent sent.call ≢ Err Enosys)
