-- What the steps of a call's line at the keeper promise.
use Rattle.std.specs.Prelude.{◌≡◌, ℕ, ◌++◌, List, Result, Ok, Err, Vec}
use Rattle.std.specs.Global.{Global}
use Rattle.unix_model.specs.declared.calls.Errno.{Errno}
use Rattle.unix_model.specs.Enter.{Entered}
use Rattle.unix_model.specs.Process as model
use Rattle.flat_state.specs.declared.process.Phase.{Phase}
use Rattle.flat_state.specs.ProcessView.{phase_of}
use Rattle.flat_enter.specs.declared.fault.EnterFault.{EnterFault}
use Rattle.flat_enter.specs.declared.fault.EnterFault.TheVariants.{Refused, NoMemory}

-- bytes that a line reads
abbrev pub Reads : Result (List ℕ) Errno → Result (Vec ℕ Global) EnterFault → Type 0
Reads line (Ok bytes) = line ≡ Ok bytes.items
Reads line (Err (Refused errno)) = line ≡ Err errno
Reads line (Err NoMemory) = Unit {0}

-- a line that only changes the phase of its process
abbrev pub Enters : model.Process → Entered → Result Phase EnterFault → Type 0
Enters process line (Ok phase) = line ≡ Ok (model.in_phase process (phase_of phase))
Enters process line (Err (Refused errno)) = line ≡ Err errno
Enters process line (Err NoMemory) = Unit {0}

-- bytes, and then those of another reading
abbrev pub before : List ℕ → Result (List ℕ) Errno → Result (List ℕ) Errno
before bytes (Ok rest) = Ok (bytes ++ rest)
before bytes (Err errno) = Err errno

-- the only fault is want of memory
abbrev pub NeverRefuses : Result (Vec ℕ Global) EnterFault → Type 0
NeverRefuses (Ok bytes) = Unit {0}
NeverRefuses (Err (Refused errno)) = ⊥
NeverRefuses (Err NoMemory) = Unit {0}
