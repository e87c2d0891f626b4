use Rattle.std.proofs.Common.{arith, Some}
use Rattle.flat_state.specs.ProcessView.{process_of}
use Rattle.flat_state.specs.SlotTableView.{slot_table_of}
use Rattle.flat_memory.proofs.PlaceLaws.{table-set}
use Rattle.flat_state.proofs.slot_table.SlotTable.put.Goals as goal

pub returns : goal.returns
unfolding slot_table_of
returns c = table-set process_of c.args.self.now.items.items c.args.slot (Some c.args.process) (omega (arith, c.args.self.now.full))
