use Rattle.std.proofs.Common.{◌≡◌, ◌<◌, IfSome}
use Rattle.std.specs.Prelude.{option_map}
use Rattle.unix_model.specs.ProcessCalls.{least_ended}
use Rattle.flat_state.specs.EndedChildView.{ended_child_of}
use Rattle.flat_state.specs.SlotsView.{slots_of}
use Rattle.flat_state.proofs.slots.Slots.least_ended.Given as goal

abbrev pub invariant-loop-slot : goal.invariant-loop-slot
invariant-loop-slot l = record {
  least : option_map ended_child_of l.least ≡ least_ended (slots_of l.self) l.parent l.wanted l.slot;
  inside : IfSome l.least (λ ended. ended.slot < 64);
}
