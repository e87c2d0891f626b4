-- What the servers answer to system calls, and the words of their lines. A line is refused by its first test that says
-- so. Else the call waits, or goes through at once with all its changes.
use Rattle.std.specs.Prelude.{ℕ, ◌-◌, Bool, List, [], take, length, Result, Ok, Err, slice_index, slice_index_or, ◌==◌}
use Rattle.std.specs.List.{slice_split}
use Rattle.unix_model.specs.declared.calls.Errno.{Errno}
use Rattle.unix_model.specs.declared.calls.Turned.TheVariants.{Worked}
use Rattle.unix_model.specs.Process.{Process, SentCall, answered, answered_with, refused}
use Rattle.unix_model.specs.State.{Unix, with_phase, with_process}
use Rattle.unix_model.specs.TurnRecord.{Turn, worked_turn, blocked_turn}

pub data Effect : Type 0 where
  -- the call has to wait, and nothing changes
  Waits : Effect
  -- the state after it
  Goes : Unix → Effect
  -- the same, with bytes taken from the console's input, and those that it left there
  Takes : (state : Unix) (taken left : List ℕ) → Effect
  -- the same, with bytes put to the console
  Puts : (state : Unix) (put : List ℕ) → Effect

-- a line of the table
abbrev pub Line : Type 0
Line = Result Effect Errno

-- the call is answered with a value
abbrev pub replies : Unix → ℕ → Process → ℕ → Line
replies unix slot process value = Ok (Goes (with_phase unix slot process (answered value)))

-- the same, with bytes for the memory from an address on
abbrev pub replies_with : Unix → ℕ → Process → ℕ → ℕ → List ℕ → Line
replies_with unix slot process value address bytes = Ok (Goes (with_phase unix slot process (answered_with value address bytes)))

-- a call's arguments by their numbers
abbrev pub argument_of : SentCall → ℕ → ℕ
argument_of sent number = slice_index sent.arguments number

-- the texts that a call brings, each of which ends with a NUL
abbrev pub is_nul : ℕ → Bool
is_nul byte = byte == 0

unfoldable pub texts_of : SentCall → List (List ℕ)
texts_of sent = take (length (slice_split is_nul sent.bytes) - 1) (slice_split is_nul sent.bytes)

abbrev pub text_of : SentCall → ℕ → List ℕ
text_of sent number = slice_index_or (texts_of sent) number []

-- the turn of a call: one that is refused is answered with its errno, and changes nothing else
abbrev pub settled : Unix → ℕ → Process → List ℕ → Line → Turn
settled unix slot process input (Err errno) = worked_turn (with_process unix slot (refused process errno)) input
settled unix slot process input (Ok Waits) = blocked_turn unix input
settled unix slot process input (Ok (Goes state)) = worked_turn state input
settled unix slot process input (Ok (Takes state taken left)) = record { state = state; answer = Worked; taken = taken; left = left; put = [] }
settled unix slot process input (Ok (Puts state put)) = record { state = state; answer = Worked; taken = []; left = input; put = put }
