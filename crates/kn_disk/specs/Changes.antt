-- The steps of a disk in memory as it keeps them: changes, and beside them all bytes that were written.
use Rattle.std.specs.Prelude.{◌≡◌, ◌≤◌, ◌+◌, ℕ, Bool, true, false, List, length, take, drop, reverse, map}
use Rattle.kn_base.specs.Rows.{part_at}
use Rattle.kn_disk.specs.Steps.{Step, Written, Cut, Synced, settled, pending}
use Rattle.kn_disk.specs.declared.change.Change.{Change}
use Rattle.kn_disk.specs.declared.change.Change.TheVariants as change

-- the step that a change is, beside all bytes that were written
abbrev pub step_of : List ℕ → Change → Step
step_of log (change.Written at from count) = Written at (part_at log from count)
step_of log (change.Cut n) = Cut n
step_of log change.Synced = Synced

-- the steps that changes are, the newest first
unfoldable pub steps_of : List ℕ → List Change → List Step
steps_of log changes = reverse (map (step_of log) changes)

-- where the bytes of a change end
abbrev pub end_of : Change → ℕ
end_of (change.Written at from count) = from + count
end_of (change.Cut n) = 0
end_of change.Synced = 0

-- The bytes of a change are among so many.
abbrev pub IsWithin : ℕ → Change → Type 0
IsWithin bytes change = end_of change ≤ bytes

-- The change is a sync.
abbrev pub is_sync : Change → Bool
is_sync (change.Written at from count) = false
is_sync (change.Cut n) = false
is_sync change.Synced = true

-- So many of the changes are those up to the last sync, and the others those since.
pub record Settles (changes : List Change) (count : ℕ) : Type 0 where
  pub within : count ≤ length changes
  pub before : (log : List ℕ) → settled (steps_of log changes) ≡ steps_of log (take count changes)
  pub since : (log : List ℕ) → pending (steps_of log changes) ≡ steps_of log (drop count changes)
