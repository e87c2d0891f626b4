use Rattle.disk_layout.proofs.RunLaws.{still-call}
use Rattle.disk_layout.proofs.reading.read_home.Goals as goal

pub returns-in-Ok-clause-still : goal.returns-in-Ok-clause-still
returns-in-Ok-clause-still g c = still-call g.D.Disk.tells g.D.Disk.contents g.D.Disk.moment g.D.Disk.image g.D.Disk.since _ _ c.read_at.ensures.contents c.read_at.ensures.images c.read_at.ensures.time

pub returns-in-Err-clause-still : goal.returns-in-Err-clause-still
returns-in-Err-clause-still g c = still-call g.D.Disk.tells g.D.Disk.contents g.D.Disk.moment g.D.Disk.image g.D.Disk.since _ _ c.read_at.ensures.contents c.read_at.ensures.images c.read_at.ensures.time
