-- Rules of processes that every turn keeps.
use Rattle.std.specs.Prelude.{◌≡◌, ℕ, List, Option, Some, All}
use Rattle.unix_model.specs.declared.instructions.Regs.{Regs}
use Rattle.unix_model.specs.Calls.{Calls}
use Rattle.unix_model.specs.Execution.{executed}
use Rattle.unix_model.specs.Memory.{Memory}
use Rattle.unix_model.specs.Process.{Process, Phase, Run, Asked, Sent, Done, Exiting, Zombie}
use Rattle.unix_model.specs.Rules.{AreInodes, AreNames, ArePids, HaveParents, AreRegisters, AreSent, IsBreak, IsByte, IsMemory, IsPhase, IsWord}
use Rattle.unix_model.specs.State.{Unix}
use Rattle.unix_model.specs.Tables.{at}
use Rattle.unix_model.specs.Turn.{turned}

-- An instruction leaves registers and a memory that are such.
abbrev pub ExecutedStays : Type 0
ExecutedStays =
    (registers : Regs) (memory : Memory) → AreRegisters registers → IsMemory memory
    → AreRegisters (executed registers memory).registers × IsMemory (executed registers memory).memory

-- What the rules of slots say of registers, memories and breaks.
pub record AreBody (registers : Regs) (memory : Memory) (first last : ℕ) : Type 0 where
  pub registers_are : AreRegisters registers
  pub memory_is : IsMemory memory
  pub break_is : IsBreak first last

abbrev pub HasBody : Process → Type 0
HasBody process = AreBody process.registers process.memory process.break_start process.break_end

-- Each process has what is asked.
abbrev pub Each : (Process → Type 0) → (ℕ → Option Process) → Type 0
Each P processes = (slot : ℕ) (process : Process) → at processes slot ≡ Some process → P process

-- An answer is a word, with bytes.
abbrev pub IsAnswer : Phase → Type 0
IsAnswer Run = Unit {0}
IsAnswer Asked = Unit {0}
IsAnswer (Sent sent) = Unit {0}
IsAnswer (Done value address bytes) = IsWord value × All IsByte bytes
IsAnswer (Exiting word) = Unit {0}
IsAnswer (Zombie word) = Unit {0}

abbrev pub HasAnswer : Process → Type 0
HasAnswer process = IsAnswer process.phase

-- Every turn keeps registers, memories and breaks: an instruction, an answer that is written, a break that moves, and a
-- program that is loaded.
abbrev pub BodiesKept : Type 0
BodiesKept =
    (calls : Calls) (unix : Unix) (slot : ℕ) (input : List ℕ)
    → AreInodes unix.files.inodes → AreSent calls unix → Each HasAnswer unix.processes → Each HasBody unix.processes → Each HasBody (turned calls unix slot input).state.processes

-- The rules of pids and of parents: one law, since a parent that lives has to stay one.
pub record AreKin (processes : ℕ → Option Process) (next_pid : ℕ) : Type 0 where
  pub pids : ArePids processes next_pid
  pub parents : HaveParents processes

-- Every turn keeps them.
abbrev pub KinKept : Type 0
KinKept =
    (calls : Calls) (unix : Unix) (slot : ℕ) (input : List ℕ)
    → AreKin unix.processes unix.next_pid → AreKin (turned calls unix slot input).state.processes (turned calls unix slot input).state.next_pid

-- What the rules of slots say of a phase: an answer has a value and bytes for writable memory, and a process that has ended
-- has nothing left.
abbrev pub HasPhase : Process → Type 0
HasPhase process = IsPhase process process.phase

-- Every turn keeps it, where the console's input is bytes.
abbrev pub PhasesKept : Type 0
PhasesKept =
    (calls : Calls) (unix : Unix) (slot : ℕ) (input : List ℕ)
    → All IsByte input → AreInodes unix.files.inodes → AreNames unix.files.inodes → AreKin unix.processes unix.next_pid → AreSent calls unix → Each HasBody unix.processes
    → Each HasPhase unix.processes → Each HasPhase (turned calls unix slot input).state.processes
