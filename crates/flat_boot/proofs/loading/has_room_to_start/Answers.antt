use Rattle.std.proofs.Common.{◌+◌, arith}
use Rattle.unix_model.specs.Tables.{at}
use Rattle.unix_model.proofs.RoomLaws.{pages-few}
use Rattle.flat_state.specs.StateView.{unix_of}
use Rattle.flat_boot.proofs.Room.{room-started}
use Rattle.flat_boot.proofs.loading.has_room_to_start.Goals as goal

pub overflow_add-before : goal.overflow_add-before
overflow_add-before c = omega (arith, c.args.state.now.few_pages, c.slot_pages.ensures, pages-few (at (unix_of c.args.state.now).processes 0))

pub returns : goal.returns
returns c = λ file plan pages.
    room-started (unix_of c.args.state.now) file plan (c.promised.result + c.args.pages + 1) (c.args.state.now.pages + c.slot_pages.result)
    (omega (arith, c.promised.ensures.promised, pages)) (omega (arith, c.slot_pages.ensures))
