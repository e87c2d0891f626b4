-- Turns of a slot where nothing is there to do.
use Rattle.std.specs.Prelude.{ℕ, zero, suc, Bool, true, [], Option, Some, None, is_some}
use Rattle.unix_model.specs.Calls.{call_of}
use Rattle.unix_model.specs.Process.{Process}
use Rattle.unix_model.specs.State.{Unix, phase_word}
use Rattle.unix_model.specs.Turn.{ticked, turned}

-- the slot has no process, or one that has ended
abbrev pub has_nothing_to_do : Option Process → Bool
has_nothing_to_do None = true
has_nothing_to_do (Some process) = is_some (phase_word process.phase)

-- the state after so many turns of one slot in a row, where no input is there
unfoldable pub after_turns : (slot number : ℕ) → Unix → Unix
after_turns slot zero unix = unix
after_turns slot (suc n) unix = after_turns slot n (turned call_of unix slot []).state

-- the state with the position gone on so many times
unfoldable pub ticked_times : ℕ → Unix → Unix
ticked_times zero unix = unix
ticked_times (suc n) unix = ticked_times n (ticked unix)
