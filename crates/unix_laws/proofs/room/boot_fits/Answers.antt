use Rattle.unix_laws.proofs.RoomKept.{boot_within}
use Rattle.unix_laws.proofs.room.boot_fits.Goals as goal

pub returns : goal.returns
returns c = boot_within
