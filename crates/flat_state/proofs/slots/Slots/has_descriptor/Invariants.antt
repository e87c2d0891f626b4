use Rattle.std.proofs.Common.{◌≡◌}
use Rattle.unix_model.specs.State.{process_names}
use Rattle.unix_model.specs.Tables.{at, any_below}
use Rattle.flat_state.specs.SlotsView.{slots_of}
use Rattle.flat_state.proofs.slots.Slots.has_descriptor.Given as goal

abbrev pub invariant-loop-slot : goal.invariant-loop-slot
invariant-loop-slot l = l.found ≡ any_below (λ slot. process_names l.description (at (slots_of l.self) slot)) l.slot
