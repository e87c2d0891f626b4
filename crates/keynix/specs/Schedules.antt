-- The schedules that the program's own stand for.
use Rattle.std.specs.Prelude.{◌≡◌, ◌≤◌, ℕ, List, [], ◌++◌, drop, replicate, Option, Some, None}
use Rattle.plan.specs.declared.span.Span.{Span}
use Rattle.plan.specs.Plans.{slots_of}
use Rattle.unix_model.specs.Schedule as model
use Rattle.keynix.specs.declared.given.Given.{Given}
use Rattle.keynix.specs.declared.schedule.Schedule.{Schedule}
use Rattle.keynix.specs.declared.schedule.Schedule.TheVariants as schedule

-- the slots that get the turns still to come, spelled out
abbrev pub slots_left : Given → List ℕ
slots_left given = replicate given.left given.slot ++ slots_of (drop given.next given.spans.items)

-- the slots of a span, where there is one, and of those behind it
abbrev pub slots_from : Option Span → List Span → List ℕ
slots_from None spans = []
slots_from (Some span) spans = replicate span.turns span.slot ++ slots_of spans

-- the first slots, so many, are this one
abbrev pub IsGiven : List ℕ → (slot number : ℕ) → Type 0
IsGiven slots slot number = slots ≡ replicate number slot ++ drop number slots

-- the slot that gets the next turns, and how many in a row at least
abbrev pub row_slot : Given → ℕ
row_slot given = given.slot

abbrev pub row_left : Given → ℕ
row_left given = given.left

abbrev pub schedule_of : Schedule → model.Schedule
schedule_of (schedule.Round mark) = model.Round mark
schedule_of (schedule.Given given) = model.Given (slots_left given)

-- so many turns may be made in a row
abbrev pub IsInRow : Schedule → ℕ → Type 0
IsInRow (schedule.Round mark) number = Unit {0}
IsInRow (schedule.Given given) number = number ≤ row_left given
