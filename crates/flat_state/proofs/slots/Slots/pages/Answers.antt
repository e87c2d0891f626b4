use Rattle.std.proofs.Common.{arith}
use Rattle.unix_model.proofs.RoomLaws.{slots-few}
use Rattle.flat_state.specs.SlotTableView.{slot_table_of}
use Rattle.flat_state.proofs.slots.Slots.pages.Goals as goal

pub returns-clause-few : goal.returns-clause-few
returns-clause-few c = omega (arith, c.args.self.now.counted, slots-few (slot_table_of c.args.self.now.table))
