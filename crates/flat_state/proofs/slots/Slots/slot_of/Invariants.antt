use Rattle.std.proofs.Common.{◌≡◌, ◌<◌, IfSome}
use Rattle.unix_model.specs.State.{has_pid}
use Rattle.unix_model.specs.Tables.{at, least_below}
use Rattle.flat_state.specs.SlotsView.{slots_of}
use Rattle.flat_state.proofs.slots.Slots.slot_of.Given as goal

abbrev pub invariant-loop-slot : goal.invariant-loop-slot
invariant-loop-slot l = record {
  least : l.found ≡ least_below (λ slot. has_pid l.pid (at (slots_of l.self) slot)) l.slot;
  inside : IfSome l.found (λ slot. slot < 64);
}
