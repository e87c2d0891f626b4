use Rattle.std.proofs.Common.{arith}
use Rattle.unix_model.specs.Tables.{at}
use Rattle.unix_model.proofs.RoomLaws.{pages-few}
use Rattle.flat_state.specs.StateView.{unix_of}
use Rattle.flat_boot.proofs.loading.room_to_start.Goals as goal

pub overflow_add-before : goal.overflow_add-before
overflow_add-before c = omega (arith, c.args.state.now.few_pages, c.slot_pages.ensures, pages-few (at (unix_of c.args.state.now).processes 0))
