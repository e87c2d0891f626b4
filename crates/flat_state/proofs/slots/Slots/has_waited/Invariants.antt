use Rattle.std.proofs.Common.{◌≡◌}
use Rattle.unix_model.specs.ProcessCalls.{is_waited}
use Rattle.unix_model.specs.Tables.{any_below, at}
use Rattle.flat_state.specs.SlotsView.{slots_of}
use Rattle.flat_state.proofs.slots.Slots.has_waited.Given as goal

abbrev pub invariant-loop-slot : goal.invariant-loop-slot
invariant-loop-slot l = l.found ≡ any_below (λ n. is_waited l.parent l.wanted (at (slots_of l.self) n)) l.slot
