-- Invocations, in the lives of domains and services, which are known by their roots. A life is a state (available, running or
-- waiting) and the number of calls that were answered.
use Rattle.std.specs.Prelude.{ℕ, ◌+◌, ◌^◌, ◌%◌, ◌==◌, if◌then◌else◌, List, [], ◌∷◌, Result, Ok, Err}
use Rattle.kn_base.specs.declared.key.Key.{Key}
use Rattle.kn_base.specs.declared.key.Key.TheVariants.{Null, Start, Resume}
use Rattle.unix_model.specs.Tables.{at, with_at}
use Rattle.domain.specs.declared.types.State.{State}
use Rattle.domain.specs.declared.types.State.TheVariants.{Available, Running, Waiting}
use Rattle.domain.specs.Domains.{Life}
use Rattle.invoke.specs.declared.types.InvokeFault.{InvokeFault}
use Rattle.invoke.specs.declared.types.InvokeFault.TheVariants.{NotStart, VoidKey, NotAvailable}

-- The domain of a root calls by a key and waits; somebody who goes on himself uses a key; the domain or the service of a root
-- uses one, or Null, and may be called from then on.
pub data Step : Type 0 where
  Calls : (root : ℕ) → Key → Step
  Forks : Key → Step
  Returns : (root : ℕ) → Key → Step

-- what it gives: the key that answers the call, or the root that was reached, with the byte that it gets, or nothing
pub data Given : Type 0 where
  Answering : Key → Given
  Reaches : (root byte : ℕ) → Given
  NobodyReached : Given

pub record Stepped : Type 0 where
  pub lives : ℕ → Life
  pub given : Given

-- the lives with a root in another state, and with its next call
abbrev pub with_state : (ℕ → Life) → ℕ → State → ℕ → Life
with_state lives root state = with_at lives root (record { state = state; count = (at lives root).count })

abbrev pub answered : (ℕ → Life) → ℕ → ℕ → Life
answered lives root = with_at lives root (record { state = Running; count = ((at lives root).count + 1) % 2 ^ 64 })

-- A running domain calls by a Start key, and waits for the answer to this call.
abbrev pub calls_in : State → (ℕ → Life) → ℕ → Result Stepped InvokeFault
calls_in Available lives root = Err NotAvailable
calls_in Running lives root =
    Ok (record { lives = with_state lives root Waiting; given = Answering (Resume (record { 0 = root }) (at lives root).count) })
calls_in Waiting lives root = Err NotAvailable

abbrev pub calls : (ℕ → Life) → ℕ → Key → Result Stepped InvokeFault
calls lives root (Start service byte) = calls_in (at lives root).state lives root
calls lives root _ = Err NotStart

-- One who is available runs, ..
abbrev pub starts_in : State → (ℕ → Life) → ℕ → ℕ → Result Stepped InvokeFault
starts_in Available lives root byte = Ok (record { lives = with_state lives root Running; given = Reaches root byte })
starts_in Running lives root byte = Err NotAvailable
starts_in Waiting lives root byte = Err NotAvailable

-- .. and so does one who waits for the answer to the call with this number. No other call is answered by the key.
abbrev pub resumes_in : State → (ℕ → Life) → ℕ → ℕ → Result Stepped InvokeFault
resumes_in Available lives root count = Err VoidKey
resumes_in Running lives root count = Err VoidKey
resumes_in Waiting lives root count =
    if (at lives root).count == count then Ok (record { lives = answered lives root; given = Reaches root 0 }) else Err VoidKey

-- a Start or a Resume key is used
abbrev pub forks : (ℕ → Life) → Key → Result Stepped InvokeFault
forks lives (Start root byte) = starts_in (at lives root.0).state lives root.0 byte
forks lives (Resume root count) = resumes_in (at lives root.0).state lives root.0 count
forks lives _ = Err NotStart

-- if it was not refused, a root may be called from then on
abbrev pub then_available : ℕ → Result Stepped InvokeFault → Result Stepped InvokeFault
then_available root (Ok stepped) = Ok (record { lives = with_state stepped.lives root Available; given = stepped.given })
then_available root (Err fault) = Err fault

abbrev pub returns : (ℕ → Life) → ℕ → Key → Result Stepped InvokeFault
returns lives root Null = Ok (record { lives = with_state lives root Available; given = NobodyReached })
returns lives root key = then_available root (forks lives key)

-- an invocation: the lives after it, or why it is refused
unfoldable pub step : (ℕ → Life) → Step → Result Stepped InvokeFault
step lives (Calls root key) = calls lives root key
step lives (Forks key) = forks lives key
step lives (Returns root key) = returns lives root key

-- the lives after an invocation, which a refused one doesn't change, and after several
abbrev pub lives_or : (ℕ → Life) → Result Stepped InvokeFault → ℕ → Life
lives_or lives (Ok stepped) = stepped.lives
lives_or lives (Err fault) = lives

abbrev pub after : (ℕ → Life) → Step → ℕ → Life
after lives one = lives_or lives (step lives one)

unfoldable pub after_all : (ℕ → Life) → List Step → ℕ → Life
after_all lives [] = lives
after_all lives (one ∷ steps) = after_all (after lives one) steps
