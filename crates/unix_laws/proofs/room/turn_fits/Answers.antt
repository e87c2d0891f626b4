use Rattle.unix_laws.proofs.RoomKept.{turn_within}
use Rattle.unix_laws.proofs.room.turn_fits.Goals as goal

pub returns : goal.returns
returns c = turn_within
