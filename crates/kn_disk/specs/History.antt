-- The history of a disk in memory.
use Rattle.std.specs.Prelude.{◌+◌, ◌*◌, ℕ, List, length}
use Rattle.kn_disk.specs.Steps.{Step}
use Rattle.kn_disk.specs.Changes.{steps_of}
use Rattle.kn_disk.specs.declared.history.History.{History}

-- the steps that are kept
abbrev pub kept_steps : History → List Step
kept_steps history = steps_of history.log.items history.changes.items

-- how many bytes of it are taken
abbrev pub taken_of : History → ℕ
taken_of history = 16 * length history.changes.items + length history.log.items

-- how many bytes it has in all
abbrev pub size_of : History → ℕ
size_of history = history.size
