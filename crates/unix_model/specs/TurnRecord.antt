-- What a turn gives.
use Rattle.std.specs.Prelude.{ℕ, List, []}
use Rattle.unix_model.specs.declared.calls.Turned.{Turned}
use Rattle.unix_model.specs.declared.calls.Turned.TheVariants.{Worked, Blocked, Free}
use Rattle.unix_model.specs.State.{Unix}

-- the state after it, its answer, the bytes of the console's input that it took and those that it left there, and the
-- bytes that it put to the console
pub record Turn : Type 0 where
  pub state : Unix
  pub answer : Turned
  pub taken : List ℕ
  pub left : List ℕ
  pub put : List ℕ

-- a step that takes and puts nothing
abbrev pub worked_turn : Unix → (input : List ℕ) → Turn
worked_turn unix input = record { state = unix; answer = Worked; taken = []; left = input; put = [] }

-- the process waits, and nothing changes
abbrev pub blocked_turn : Unix → (input : List ℕ) → Turn
blocked_turn unix input = record { state = unix; answer = Blocked; taken = []; left = input; put = [] }

-- nothing is there to do
abbrev pub free_turn : Unix → (input : List ℕ) → Turn
free_turn unix input = record { state = unix; answer = Free; taken = []; left = input; put = [] }
