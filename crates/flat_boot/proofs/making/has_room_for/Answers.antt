use Rattle.std.proofs.Common.{◌+◌, arith}
use Rattle.flat_files.specs.SpotView.{spot_of}
use Rattle.flat_state.specs.StateView.{unix_of}
use Rattle.flat_boot.proofs.Room.{room-made}
use Rattle.flat_boot.proofs.making.has_room_for.Goals as goal

pub returns : goal.returns
returns c = λ new pages.
    room-made (unix_of c.args.state.now) (spot_of c.args.spot) c.args.number new c.pages_with_name.result
    (c.promised.result + c.args.pages + c.pages_with_name.result) (c.args.state.now.pages + c.inode_pages.result)
    c.args.spot.directory_below c.requires.directory c.requires.number c.pages_with_name.ensures.pages
    (omega (arith, c.promised.ensures.promised, pages)) (omega (arith, c.inode_pages.ensures.pages))
