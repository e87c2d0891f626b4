use Rattle.std.proofs.Common.{◌≡◌}
use Rattle.unix_model.specs.State.{adopted}
use Rattle.flat_state.specs.SlotsView.{slots_of}
use Rattle.flat_state.proofs.SlotLaws.{changed_below}
use Rattle.flat_state.proofs.slots.Slots.adopt_orphans.Given as goal

abbrev pub invariant-loop-slot : goal.invariant-loop-slot
invariant-loop-slot l = slots_of l.self ≡ changed_below (adopted l.ended) (slots_of l.initial.self) l.slot
