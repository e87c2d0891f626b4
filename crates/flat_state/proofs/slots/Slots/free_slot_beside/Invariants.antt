use Rattle.std.proofs.Common.{◌≡◌, ◌≢◌, ◌<◌, None, IfSome}
use Rattle.std.specs.Prelude.{is_none, not, ◌&&◌, ◌==◌}
use Rattle.unix_model.specs.Tables.{at, least_below}
use Rattle.flat_state.specs.SlotsView.{slots_of}
use Rattle.flat_state.proofs.slots.Slots.free_slot_beside.Given as goal

abbrev pub invariant-loop-slot : goal.invariant-loop-slot
invariant-loop-slot l = record {
  least : l.least ≡ least_below (λ slot. not (slot == l.beside) && is_none (at (slots_of l.self) slot)) l.slot;
  free : IfSome l.least (λ slot. (slot < 64) × (slot ≢ l.beside) × (at (slots_of l.self) slot ≡ None));
}
