-- The schedules of the Unix machine, our own, and its runs.
use Rattle.std.specs.Prelude.{ℕ, ◌/◌, Bool, true, false, not, ◌&&◌, List, [], ◌∷◌, Option, Some, None, ◌==◌, if◌then◌else◌}
use Rattle.unix_model.specs.declared.calls.Turned.{Turned}
use Rattle.unix_model.specs.declared.calls.Turned.TheVariants.{Worked, Blocked, Free}
use Rattle.unix_model.specs.Calls.{Calls}
use Rattle.unix_model.specs.TurnRecord.{Turn}
use Rattle.unix_model.specs.Limits.{slot_count}
use Rattle.unix_model.specs.Machine.{Machine, Step, RunResult, run}
use Rattle.unix_model.specs.State.{Unix, halted_word}
use Rattle.unix_model.specs.Tables.{at, any_below}
use Rattle.unix_model.specs.Turn.{turned, turned_at}

pub data Schedule : Type 0 where
  -- the turn at a position goes to the slot position / Q. The mark says whether the machine was idle when this round
  -- began, and is absent where no round has begun yet
  Round : (mark : Option Bool) → Schedule
  -- each turn goes to the first of these slots, and takes it away
  Given : (slots : List ℕ) → Schedule

-- whose turn it is
abbrev pub next_slot : Unix → Schedule → ℕ
next_slot unix (Round mark) = unix.position / unix.quantum
next_slot unix (Given (slot ∷ slots)) = slot
next_slot unix (Given []) = 0

-- a turn of the slot works
abbrev pub is_work : Turned → Bool
is_work Worked = true
is_work Blocked = false
is_work Free = false

-- the machine is idle: no slot's turn works, so each is free, a zombie, or waits. Whether it waits doesn't depend on the
-- input
unfoldable pub is_idle : Calls → Unix → Bool
is_idle calls unix = not (any_below (λ slot. is_work (turned_at calls unix slot [] (at unix.processes slot)).answer) slot_count)

-- where a round begins, the mark says whether the machine is idle
abbrev pub mark_at : Calls → Unix → Option Bool → Option Bool
mark_at calls unix mark = if unix.position == 0 then Some (is_idle calls unix) else mark

-- the schedule at the start of a run: a mark that is there is kept
abbrev pub schedule_begun : Calls → Unix → Schedule → Schedule
schedule_begun calls unix (Round None) = Round (mark_at calls unix None)
schedule_begun calls unix (Round (Some mark)) = Round (Some mark)
schedule_begun calls unix (Given slots) = Given slots

-- the schedule after a turn that leads to a state
abbrev pub schedule_after : Calls → Unix → Schedule → Schedule
schedule_after calls after (Round mark) = Round (mark_at calls after mark)
schedule_after calls after (Given (slot ∷ slots)) = Given slots
schedule_after calls after (Given []) = Given []

abbrev pub is_yes : Option Bool → Bool
is_yes None = false
is_yes (Some mark) = mark

-- a turn has ended a round that began idle
abbrev pub ends_idle : Unix → Schedule → Bool
ends_idle after (Round mark) = after.position == 0 && is_yes mark
ends_idle after (Given slots) = false

-- the given slots are used up
abbrev pub is_spent : Schedule → Bool
is_spent (Round mark) = false
is_spent (Given (slot ∷ slots)) = false
is_spent (Given []) = true

abbrev pub step_of : Calls → Schedule → Turn → Step Unix Schedule
step_of calls schedule turn =
    record {
      state = turn.state;
      schedule = schedule_after calls turn.state schedule;
      taken = turn.taken;
      left = turn.left;
      put = turn.put;
      idle = ends_idle turn.state schedule;
    }

-- the Unix machine under a schedule
unfoldable pub unix_machine : Calls → Machine Unix Schedule
unix_machine calls =
    record {
      begins = schedule_begun calls;
      turn = λ unix schedule input. step_of calls schedule (turned calls unix (next_slot unix schedule) input);
      halted = halted_word;
      spent = is_spent;
    }

-- a run of the Unix machine of at most this many turns
unfoldable pub unix_run : Calls → ℕ → Unix → Schedule → List ℕ → RunResult Unix Schedule
unix_run calls turns unix schedule input = run (unix_machine calls) turns unix schedule input
