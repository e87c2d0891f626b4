-- The table of processes that the slots stand for.
use Rattle.std.specs.Prelude.{ℕ, Option, None, option_map, slice_index_or}
use Rattle.unix_model.specs.Process as model
use Rattle.flat_state.specs.declared.slot_table.SlotTable.{SlotTable}
use Rattle.flat_state.specs.ProcessView.{process_of}

unfoldable pub slot_table_of : SlotTable → ℕ → Option model.Process
slot_table_of slots = λ n. option_map process_of (slice_index_or slots.items.items n None)
