use Rattle.std.proofs.Common.{◌≡◌, false, []}
use Rattle.unix_model.specs.Schedule.{is_work}
use Rattle.unix_model.specs.Tables.{at, any_below}
use Rattle.unix_model.specs.Turn.{turned_at}
use Rattle.flat_unix.specs.FlatView.{unix_of}
use Rattle.unix_model.specs.Calls.{call_of}
use Rattle.flat_unix.proofs.flat.Flat.is_idle.Given as goal

abbrev pub invariant-loop-slot : goal.invariant-loop-slot
invariant-loop-slot l = any_below (λ slot. is_work (turned_at call_of (unix_of l.self) slot [] (at (unix_of l.self).processes slot)).answer) l.slot ≡ false
