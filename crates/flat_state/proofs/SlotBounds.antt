-- There is nothing from slot 64 on.
use Rattle.std.proofs.Common.{◌≡◌, ◌≤◌, ℕ, None, arith, ap}
use Rattle.std.proofs.Math.ListN.{get_or-eq_default}
use Rattle.std.specs.Prelude.{option_map}
use Rattle.flat_state.specs.declared.slots.Slots.{Slots}
use Rattle.flat_state.specs.ProcessView.{process_of}
use Rattle.flat_state.specs.SlotTableView.{slot_table_of}
use Rattle.flat_state.specs.SlotsView.{slots_of}

pub slots-beyond : (slots : Slots) (k : ℕ) → 64 ≤ k → slots_of slots k ≡ None
unfolding slot_table_of
slots-beyond slots k beyond = ap (option_map process_of) (get_or-eq_default slots.table.items.items None (omega (arith, slots.table.full)))
