-- A process (POSIX.1, process). Registers with x0 = 0 and pc a multiple of 4; a break between its start, a page
-- boundary, and 0x7FFE_0000; 32 descriptors, each the number of an open description or nothing.
use Rattle.std.specs.Prelude.{◌≡◌, ℕ, ◌+◌, ◌==◌, ◌&&◌, not, List, [], ◌∷◌, replicate, Option, Some, None, is_some, is_none, length, slice_index_or, slice_set}
use Rattle.unix_model.specs.declared.calls.Call.{Call}
use Rattle.unix_model.specs.declared.calls.Errno.{Errno}
use Rattle.unix_model.specs.declared.calls.Request.{Request}
use Rattle.unix_model.specs.declared.instructions.Regs.{Regs}
use Rattle.unix_model.specs.Calls.{call_of, refusal_word}
use Rattle.unix_model.specs.Execution.{register_word}
use Rattle.unix_model.specs.Limits.{descriptor_count}
use Rattle.unix_model.specs.Memory.{Memory}
use Rattle.unix_model.specs.Tables.{nothing, least_below}

-- a system call on its way to the server that answers it: the words of a0 to a3 as they stand in the registers, but a
-- count that was cut stands there cut; and the bytes that it brings
pub record SentCall : Type 0 where
  pub call : Call
  pub arguments : List ℕ
  pub bytes : List ℕ

-- the plain words of a call that was sent: its number, its arguments, and how many bytes it brings
pub record IsRequest (request : Request) (sent : SentCall) : Type 0 where
  pub call_is : call_of request.call ≡ Some sent.call
  pub arguments_are : request.args ≡ sent.arguments
  pub length_is : request.length ≡ length sent.bytes

-- What a process does next, our own. A wait word says how a process ended, as wait gives it to its parent (POSIX.1, wait): 256
-- times the low byte of its exit code, or the number of the signal that ended it.
pub data Phase : Type 0 where
  -- it executes instructions
  Run : Phase
  -- it has asked for a system call
  Asked : Phase
  -- its call is on its way to a server
  Sent : SentCall → Phase
  -- the call is answered: a value for a0, and bytes for the memory from an address on
  Done : (value address : ℕ) (bytes : List ℕ) → Phase
  -- it ends, with this wait word
  Exiting : (word : ℕ) → Phase
  -- it has ended, with this wait word
  Zombie : (word : ℕ) → Phase

pub record Process : Type 0 where
  pub pid : ℕ
  pub parent : ℕ
  pub registers : Regs
  pub memory : Memory
  pub break_start : ℕ
  pub break_end : ℕ
  pub descriptors : List (Option ℕ)
  pub phase : Phase

-- the description that a descriptor names, or None where it is closed or no descriptor
abbrev pub descriptor : Process → ℕ → Option ℕ
descriptor process number = slice_index_or process.descriptors number None

-- the process with a descriptor that names this description
abbrev pub with_descriptor : Process → ℕ → ℕ → Process
with_descriptor process number description =
    record process { descriptors = slice_set process.descriptors number (Some description) }

-- the lowest descriptor that is closed, and the lowest one beside another
unfoldable pub lowest_closed : Process → Option ℕ
lowest_closed process = least_below (λ number. is_none (descriptor process number)) descriptor_count

unfoldable pub next_closed : Process → ℕ → Option ℕ
next_closed process first = least_below (λ number. not (number == first) && is_none (descriptor process number)) descriptor_count

-- the lowest descriptor that is open
unfoldable pub lowest_open : Process → Option ℕ
lowest_open process = least_below (λ number. is_some (descriptor process number)) descriptor_count

-- the process with a descriptor closed
abbrev pub without_descriptor : Process → ℕ → Process
without_descriptor process number = record process { descriptors = slice_set process.descriptors number None }

abbrev pub in_phase : Process → Phase → Process
in_phase process phase = record process { phase = phase }

-- the argument of a system call in a register a0 to a7
abbrev pub argument : Process → ℕ → ℕ
argument process number = register_word process.registers (10 + number)

-- a call that is answered with a value, and with bytes for the memory from an address on
abbrev pub answered : ℕ → Phase
answered value = Done value 0 []

abbrev pub answered_with : ℕ → ℕ → List ℕ → Phase
answered_with value address [] = Done value 0 []
answered_with value address (byte ∷ bytes) = Done value address (byte ∷ bytes)

-- a call that is refused: the number of the refusal, negated, is its value, and nothing else changes
abbrev pub refused : Process → Errno → Process
refused process errno = in_phase process (answered (refusal_word errno))

-- registers that are all zero
abbrev pub zero_registers : Regs
zero_registers = record { x = replicate 32 0; pc = 0 }

-- what is left of a process that has ended: no registers, memory or descriptors
abbrev pub zombie : Process → ℕ → Process
zombie process word =
    record {
      pid = process.pid;
      parent = process.parent;
      registers = zero_registers;
      memory = nothing;
      break_start = process.break_start;
      break_end = process.break_end;
      descriptors = replicate descriptor_count None;
      phase = Zombie word;
    }
