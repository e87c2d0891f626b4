-- The parts of the line of open.
use Rattle.std.specs.Prelude.{ℕ, List, Option}
use Rattle.unix_model.specs.Effect.{Line, replies}
use Rattle.unix_model.specs.NameCalls.{opening, to_open, with_opened}
use Rattle.unix_model.specs.Paths.{Spot}
use Rattle.unix_model.specs.Process.{Process, with_descriptor}
use Rattle.unix_model.specs.Refusals.{◌>>=◌}
use Rattle.unix_model.specs.State.{Unix}

-- what is left of open's line once a closed descriptor, a free description and the path's spot are known
abbrev pub open_spot : Unix → ℕ → Process → (path : List ℕ) → (flags lowest number : ℕ) → Spot → Option ℕ → Line
open_spot unix slot process path flags lowest number spot inode = do
  file ← to_open unix path flags spot inode
  replies (with_opened file.state number (opening flags file.inode)) slot (with_descriptor process lowest number) lowest
