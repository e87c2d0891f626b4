use Rattle.flat_state.specs.ProcessView.{process_of}
use Rattle.flat_state.specs.SlotTableView.{slot_table_of}
use Rattle.flat_memory.proofs.PlaceLaws.{table-none}
use Rattle.flat_state.proofs.slot_table.SlotTable.new.Goals as goal

pub returns : goal.returns
unfolding slot_table_of
returns c = table-none process_of _ c.in_ok-free_places.ensures.free
