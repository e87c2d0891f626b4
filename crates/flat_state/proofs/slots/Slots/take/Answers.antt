use Rattle.std.proofs.Common.{arith, ap}
use Rattle.unix_model.proofs.RoomLaws.{slots_promise, slots-take}
use Rattle.flat_state.specs.SlotTableView.{slot_table_of}
use Rattle.flat_state.proofs.slots.Slots.take.Goals as goal

pub invariant_of-self : goal.invariant_of-self
invariant_of-self c =
    omega (arith, c.args.self.now.counted, c.slot_pages.ensures, ap slots_promise c.take-process.ensures.free, slots-take (slot_table_of c.args.self.now.table) c.args.slot c.requires)
