-- No turn changes the pages or the quantum, and the position stays within its round.
use Rattle.std.proofs.Common.{◌≡◌, ℕ, ◌+◌, ◌*◌, ◌%◌, ◌≤◌, ◌<◌, Option, Some, None, arith, refl, ap, ◌∙◌, inl, inr}
use Rattle.std.proofs.lemmas.Bool.{cases_Bool}
use Rattle.std.proofs.lemmas.Bool.Decides.{eqb_tells}
use Rattle.std.specs.Prelude.{if◌then◌else◌, ◌==◌}
use Rattle.unix_model.specs.Enter.{has_flag}
use Rattle.unix_model.specs.Limits.{slot_count}
use Rattle.unix_model.specs.NameCalls.{ToOpen, opening, with_opened, with_truncated}
use Rattle.unix_model.specs.Paths.{Spot}
use Rattle.unix_model.specs.Process.{Process, SentCall, Exiting, descriptor, in_phase, without_descriptor}
use Rattle.unix_model.specs.ProcessCalls.{is_ending, with_killed}
use Rattle.unix_model.specs.State.{Unix, has_descriptor, with_description_released, with_descriptor_closed, with_process}
use Rattle.unix_model.specs.Tables.{at}
use Rattle.unix_model.specs.Turn.{ticked}
use Rattle.unix_laws.proofs.Changes.{Changes, settles, exits, forks, loads, reaps, kills, dups, closes, dups_to, pipes, reads_file, seeks, lists, takes_pipe, puts_pipe, writes_file, resizes, opens, makes_directory, removes_directory, unlinks, links, renames, Opening, finds, creates}
use Rattle.unix_laws.proofs.TurnChanges.{TurnChanges, idles, runs, enters, effects, returns, drops, ends, after-turn}
use Rattle.unix_laws.specs.RuleLaws.{HasSizes, SizesKept}

record Same (unix state : Unix) : Type 0 where
  pages : state.pages ≡ unix.pages
  quantum : state.quantum ≡ unix.quantum
  position : state.position ≡ unix.position

as-was : (unix : Unix) → Same unix unix
as-was unix = record { pages = refl; quantum = refl; position = refl }

module _ (unix : Unix) where
  past : (state : Unix) (slot : ℕ) (next : Process) → Same unix state → Same unix (with_process state slot next)
  past state slot next same = record { pages = same.pages; quantum = same.quantum; position = same.position }

  released : (state : Unix) (number : ℕ) → Same unix state → Same unix (with_description_released state number)
  released state number same = elim (cases_Bool (has_descriptor state.processes number)) as (λ _. Same unix (with_description_released state number)) [
    | inl kept ↦ rw kept same
    | inr gone ↦ rw gone record { pages = same.pages; quantum = same.quantum; position = same.position }
  ]

  closed : (slot : ℕ) (mine : Process) (number : ℕ) (found : Option ℕ) → Same unix (with_descriptor_closed unix slot mine number found)
  closed slot mine number None = as-was unix
  closed slot mine number (Some description) = released (with_process unix slot (without_descriptor mine number)) description (past unix slot (without_descriptor mine number) (as-was unix))

  killed : (target signal : ℕ) (found : Option Process) → Same unix (with_killed unix target signal found)
  killed target signal None = as-was unix
  killed target signal (Some held) = elim (cases_Bool (is_ending held.phase)) as (λ _. Same unix (with_killed unix target signal (Some held))) [
    | inl ending ↦ rw ending (as-was unix)
    | inr goes ↦ rw goes (past unix target (in_phase held (Exiting signal)) (as-was unix))
  ]

  truncated : (flags number : ℕ) → Same unix (with_truncated unix flags number)
  truncated flags number = elim (cases_Bool (has_flag flags 64)) as (λ _. Same unix (with_truncated unix flags number)) [
    | inl cuts ↦ rw cuts record { pages = refl; quantum = refl; position = refl }
    | inr keeps ↦ rw keeps (as-was unix)
  ]

  opened : (flags number slot : ℕ) (next : Process) (spot : Spot) (new : ToOpen) → Opening unix flags spot new → Same unix (with_process (with_opened new.state number (opening flags new.inode)) slot next)
  opened flags number slot next spot new (finds found is reads) = let same : Same unix (with_truncated unix flags found) = truncated flags found in record { pages = same.pages; quantum = same.quantum; position = same.position }
  opened flags number slot next spot new (creates given is making_so) = record { pages = refl; quantum = refl; position = refl }

  change-same : {sent : SentCall} (slot : ℕ) (mine : Process) (state : Unix) → Changes unix slot mine sent state → Same unix state
  change-same slot mine state (settles phase answer) = record { pages = refl; quantum = refl; position = refl }
  change-same slot mine state (exits word) = record { pages = refl; quantum = refl; position = refl }
  change-same slot mine state (forks place free pid room) = record { pages = refl; quantum = refl; position = refl }
  change-same slot mine state (loads inode file plan held planned room) = record { pages = refl; quantum = refl; position = refl }
  change-same slot mine state (reaps wanted ended phase least answer) = record { pages = refl; quantum = refl; position = refl }
  change-same slot mine state (kills pid target signal given_so is differ) = past (with_killed unix target signal (at unix.processes target)) slot _ (killed target signal (at unix.processes target))
  change-same slot mine state (dups number lowest file held low) = record { pages = refl; quantum = refl; position = refl }
  change-same slot mine state (closes number) = past (with_descriptor_closed unix slot mine number (descriptor mine number)) slot _ (closed slot mine number (descriptor mine number))
  change-same slot mine state (dups_to number to file held differ) = past (with_descriptor_closed unix slot mine to (descriptor mine to)) slot _ (closed slot mine to (descriptor mine to))
  change-same slot mine state (pipes first second reader writer number phase low next free free2 free_i room answer) = record { pages = refl; quantum = refl; position = refl }
  change-same slot mine state (reads_file number count file bytes phase held is answer) = record { pages = refl; quantum = refl; position = refl }
  change-same slot mine state (seeks number place file held stream aligned below) = record { pages = refl; quantum = refl; position = refl }
  change-same slot mine state (lists number count file phase held directory answer) = record { pages = refl; quantum = refl; position = refl }
  change-same slot mine state (takes_pipe number count file bytes phase held is answer) = record { pages = refl; quantum = refl; position = refl }
  change-same slot mine state (puts_pipe number file bytes written given_so held is few) = record { pages = refl; quantum = refl; position = refl }
  change-same slot mine state (writes_file number place file bytes written given_so held is below room) = record { pages = refl; quantum = refl; position = refl }
  change-same slot mine state (resizes number size file bytes held is few room) = record { pages = refl; quantum = refl; position = refl }
  change-same slot mine state (opens path flags number lowest spot new low free walk opening_so) = opened flags number slot _ spot new opening_so
  change-same slot mine state (makes_directory path spot number walk free making_so) = record { pages = refl; quantum = refl; position = refl }
  change-same slot mine state (removes_directory path spot gone walk root dots is directory names) = record { pages = refl; quantum = refl; position = refl }
  change-same slot mine state (unlinks path spot gone walk is file) = record { pages = refl; quantum = refl; position = refl }
  change-same slot mine state (links old new from to linked walk is file walk2 free place room) = record { pages = refl; quantum = refl; position = refl }
  change-same slot mine state (renames old new from to named files walk root dots is walk2 root2 dots2 differ within renaming_so) = record { pages = refl; quantum = refl; position = refl }

  turn-same : (slot : ℕ) (state : Unix) → TurnChanges unix slot state → Same unix state
  turn-same slot state idles = as-was unix
  turn-same slot state (runs mine is phase) = record { pages = refl; quantum = refl; position = refl }
  turn-same slot state (enters mine next is phase entering) = record { pages = refl; quantum = refl; position = refl }
  turn-same slot state (effects mine sent next is phase changes) = change-same slot mine state changes
  turn-same slot state (returns mine value address bytes is phase) = record { pages = refl; quantum = refl; position = refl }
  turn-same slot state (drops mine word lowest is phase low) = closed slot mine lowest (descriptor mine lowest)
  turn-same slot state (ends mine word is phase low) = record { pages = refl; quantum = refl; position = refl }

-- the position after a turn
round-after : (position quantum : ℕ) → 1 ≤ quantum → position < slot_count * quantum → (if position + 1 == slot_count * quantum then 0 else position + 1) < slot_count * quantum
round-after position quantum some below = elim (eqb_tells (position + 1) (slot_count * quantum)) as (λ _. (if position + 1 == slot_count * quantum then 0 else position + 1) < slot_count * quantum) [
  | inl same ↦ rw same.0 (omega arith)
  | inr apart ↦ rw apart.0 (omega (arith, apart.1))
]

ticked-sizes : (unix state : Unix) → HasSizes unix → Same unix state → HasSizes (ticked state)
ticked-sizes unix state sizes same =
    record {
      least = omega (arith, sizes.least, same.pages);
      most = omega (arith, sizes.most, same.pages);
      whole = ap (λ n. n % 64) same.pages ∙ sizes.whole;
      some_turns = omega (arith, sizes.some_turns, same.quantum);
      few_turns = omega (arith, sizes.few_turns, same.quantum);
      round = round-after state.position state.quantum (omega (arith, sizes.some_turns, same.quantum)) (omega (arith, sizes.round, same.quantum, same.position));
    }

pub sizes_kept : SizesKept
sizes_kept calls unix slot input sizes = after-turn HasSizes calls unix slot input (λ state changes. ticked-sizes unix state sizes (turn-same unix slot state changes))
