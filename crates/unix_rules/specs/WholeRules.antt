-- All rules of a state: boot gives them, and every turn keeps them.
use Rattle.std.specs.Prelude.{◌≡◌, ◌≢◌, ℕ, List, None, Ok, All}
use Rattle.unix_model.specs.Boot.{BootEntry, Node, NewDirectory, NewFile, booted, empty_machine}
use Rattle.unix_model.specs.Calls.{Calls}
use Rattle.unix_model.specs.Rules.{AreSizes, IsByte, IsProcess, IsUnix}
use Rattle.unix_model.specs.Process.{Process, Run, descriptor}
use Rattle.unix_model.specs.Schedule.{Schedule, unix_run}
use Rattle.unix_model.specs.State.{Unix, with_process}
use Rattle.unix_model.specs.Turn.{turned}

-- an entry whose file holds bytes, and whose path is a text: bytes without NUL
abbrev pub HoldsBytes : Node → Type 0
HoldsBytes NewDirectory = Unit {0}
HoldsBytes (NewFile bytes) = All IsByte bytes

abbrev pub IsPathByte : ℕ → Type 0
IsPathByte byte = IsByte byte × (byte ≢ 0)

pub record IsEntry (entry : BootEntry) : Type 0 where
  pub path : All IsPathByte entry.path
  pub node : HoldsBytes entry.node

-- Boot of any such entries gives all rules, for sizes that are right.
abbrev pub BootGivesUnix : Type 0
BootGivesUnix =
    (calls : Calls) (pages quantum : ℕ) (entries : List BootEntry) (unix : Unix)
    → AreSizes pages quantum 0 → All IsEntry entries → booted pages quantum entries ≡ Ok unix → IsUnix calls unix

-- A process that runs as the first one, with no descriptor.
pub record IsAlone (process : Process) : Type 0 where
  pub is : IsProcess process
  pub runs : process.phase ≡ Run
  pub pid : process.pid ≡ 1
  pub parent : process.parent ≡ 0
  pub closed : (number : ℕ) → descriptor process number ≡ None

-- A machine that has one such process in slot 0, and no files but the console and the empty root, has all rules.
abbrev pub AloneIsUnix : Type 0
AloneIsUnix =
    (calls : Calls) (pages quantum : ℕ) (process : Process) → AreSizes pages quantum 0 → IsAlone process
    → IsUnix calls (with_process (record (empty_machine pages quantum) { next_pid = 2 }) 0 process)

-- Every turn keeps them: over every table of calls, for every slot, and whatever bytes the console's input holds.
abbrev pub UnixKept : Type 0
UnixKept = (calls : Calls) (unix : Unix) (slot : ℕ) (input : List ℕ) → All IsByte input → IsUnix calls unix → IsUnix calls (turned calls unix slot input).state

-- So they hold at the end of every run, under every schedule.
abbrev pub RunsKept : Type 0
RunsKept =
    (calls : Calls) (turns : ℕ) (unix : Unix) (schedule : Schedule) (input : List ℕ) → All IsByte input → IsUnix calls unix → IsUnix calls (unix_run calls turns unix schedule input).state
