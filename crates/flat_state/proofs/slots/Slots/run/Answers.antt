use Rattle.std.proofs.Common.{arith, ap, ◌∙◌, ◌≡◌}
use Rattle.std.specs.Prelude.{option_map}
use Rattle.unix_model.specs.Room.{process_pages}
use Rattle.unix_model.specs.Tables.{at}
use Rattle.unix_model.specs.Turn.{ran}
use Rattle.unix_model.proofs.RoomLaws.{slots_promise, slots-put}
use Rattle.unix_model.proofs.TableLaws.{at-with_at}
use Rattle.flat_state.specs.SlotTableView.{slot_table_of}
use Rattle.flat_state.proofs.slots.Slots.run.Goals as goal

pub invariant_of-self : goal.invariant_of-self
invariant_of-self c =
    let after : process_pages (at (slot_table_of c.run.new.self) c.args.slot) ≡ process_pages (option_map ran (at (slot_table_of c.args.self.now.table) c.args.slot)) =
    ap (λ table. process_pages (at table c.args.slot)) c.run.ensures ∙ ap process_pages (at-with_at (slot_table_of c.args.self.now.table) c.args.slot (option_map ran (at (slot_table_of c.args.self.now.table) c.args.slot))) in
    omega (arith, c.args.self.now.counted, c.pages.ensures, c.pages-2.ensures, after, ap slots_promise c.run.ensures, slots-put (slot_table_of c.args.self.now.table) c.args.slot (option_map ran (at (slot_table_of c.args.self.now.table) c.args.slot)) c.requires)
