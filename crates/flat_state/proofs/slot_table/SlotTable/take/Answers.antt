use Rattle.std.proofs.Common.{arith, ap, ◌∙◌}
use Rattle.std.specs.Prelude.{option_map}
use Rattle.unix_model.specs.Tables.{with_at}
use Rattle.flat_state.specs.ProcessView.{process_of}
use Rattle.flat_state.specs.SlotTableView.{slot_table_of}
use Rattle.flat_memory.proofs.PlaceLaws.{table-set}
use Rattle.flat_state.proofs.slot_table.SlotTable.take.Goals as goal

pub returns-clause-free : goal.returns-clause-free
unfolding slot_table_of
returns-clause-free c =
    table-set process_of c.args.self.now.items.items c.args.slot c.take.new.self (omega (arith, c.args.self.now.full))
    ∙ ap (λ process. with_at (slot_table_of c.args.self.now) c.args.slot (option_map process_of process)) c.take.ensures.after
