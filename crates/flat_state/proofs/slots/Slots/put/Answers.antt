use Rattle.std.proofs.Common.{arith, ap, Some}
use Rattle.unix_model.proofs.RoomLaws.{slots_promise, slots-put, slots-few, pages-few}
use Rattle.flat_state.specs.ProcessView.{process_of}
use Rattle.flat_state.specs.SlotTableView.{slot_table_of}
use Rattle.flat_state.proofs.slots.Slots.put.Goals as goal

pub overflow_add-pages : goal.overflow_add-pages
overflow_add-pages c =
    omega (arith, c.args.self.now.counted, slots-few (slot_table_of c.args.self.now.table), c.pages.ensures, pages-few (Some (process_of c.args.process)))

pub invariant_of-self : goal.invariant_of-self
invariant_of-self c =
    omega (arith, c.args.self.now.counted, c.slot_pages.ensures, c.pages.ensures, ap slots_promise c.put.ensures, slots-put (slot_table_of c.args.self.now.table) c.args.slot (Some (process_of c.args.process)) c.requires)
