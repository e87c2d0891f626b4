-- The table of processes that the slots stand for.
use Rattle.std.specs.Prelude.{ℕ, Option}
use Rattle.unix_model.specs.Process as model
use Rattle.flat_state.specs.declared.slots.Slots.{Slots}
use Rattle.flat_state.specs.SlotTableView.{slot_table_of}

abbrev pub slots_of : Slots → ℕ → Option model.Process
slots_of slots = slot_table_of slots.table
