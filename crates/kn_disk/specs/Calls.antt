-- Which calls of a disk in memory fail.
use Rattle.std.specs.Prelude.{ℕ, Option, Some, None, Bool, false, ◌||◌, nat_le}
use Rattle.kn_io.specs.Calls.{Calls, fails_next}
use Rattle.kn_disk.specs.declared.calls.CallCounter.{CallCounter}

-- The calls from a number on fail, where there is one, and this is such a call.
abbrev pub is_stopped : Option ℕ → ℕ → Bool
is_stopped None number = false
is_stopped (Some stop) number = nat_le stop number

-- The next call is listed, or is one that fails since the disk has stopped.
abbrev pub fails_now : Calls → Option ℕ → Bool
fails_now calls stop = fails_next calls || is_stopped stop calls.count

-- What was counted.
abbrev pub counted_calls : CallCounter → Calls
counted_calls counter = record { fails = counter.fails.items; count = counter.count; faults = counter.faults }

-- From which call on all fail.
abbrev pub stop_of : CallCounter → Option ℕ
stop_of counter = counter.stop
