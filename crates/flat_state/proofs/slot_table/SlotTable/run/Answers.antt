use Rattle.std.proofs.Common.{arith, Some, ap, ◌∙◌, sym}
use Rattle.std.specs.Prelude.{option_map}
use Rattle.unix_model.specs.Process as model
use Rattle.unix_model.specs.Tables.{at}
use Rattle.unix_model.specs.Turn.{ran}
use Rattle.flat_memory.proofs.PlaceLaws.{table-changed}
use Rattle.flat_state.specs.ProcessView.{process_of}
use Rattle.flat_state.specs.SlotTableView.{slot_table_of}
use Rattle.flat_state.proofs.slot_table.SlotTable.run.Goals as goal

pub returns-in-Some : goal.returns-in-Some
unfolding slot_table_of at
returns-in-Some c =
    table-changed process_of ran c.args.self.now.items.items c.args.slot c.index_mut.result.now (Some c.run.new.self) (omega (arith, c.args.self.now.full)) c.index_mut.ensures.value
    (ap (λ (process : model.Process). Some process) c.run.ensures ∙ ap (λ held. option_map ran (option_map process_of held)) (sym c.in-Some.is))

pub returns-in-None : goal.returns-in-None
unfolding slot_table_of at
returns-in-None c =
    table-changed process_of ran c.args.self.now.items.items c.args.slot c.index_mut.result.now c.index_mut.result.now (omega (arith, c.args.self.now.full)) c.index_mut.ensures.value
    (ap (option_map process_of) c.in-None.is ∙ ap (λ held. option_map ran (option_map process_of held)) (sym c.in-None.is))
