-- What goes to the console: in a turn at most what one call moves.
use Rattle.std.specs.Prelude.{ℕ, ◌≤◌, ◌*◌, List, length}
use Rattle.unix_model.specs.Calls.{Calls}
use Rattle.unix_model.specs.Limits.{most_moved}
use Rattle.unix_model.specs.Rules.{AreSent}
use Rattle.unix_model.specs.Schedule.{Schedule, unix_run}
use Rattle.unix_model.specs.State.{Unix}
use Rattle.unix_model.specs.Turn.{turned}
use Rattle.unix_laws.specs.RuleLaws.{HaveDescriptors}

-- A turn puts so many bytes at most.
abbrev pub TurnPutsFew : Type 0
TurnPutsFew = (calls : Calls) (unix : Unix) (slot : ℕ) (input : List ℕ) → AreSent calls unix → length (turned calls unix slot input).put ≤ most_moved

-- So a run puts at most so many for each of its turns.
abbrev pub RunPutsFew : Type 0
RunPutsFew =
    (calls : Calls) (turns : ℕ) (unix : Unix) (schedule : Schedule) (input : List ℕ) → HaveDescriptors unix.processes → AreSent calls unix
    → length (unix_run calls turns unix schedule input).put ≤ turns * most_moved
