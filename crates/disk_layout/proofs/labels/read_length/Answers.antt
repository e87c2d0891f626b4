use Rattle.disk_layout.proofs.RunLaws.{still-call}
use Rattle.disk_layout.proofs.labels.read_length.Goals as goal

pub returns-in-Ok-clause-still : goal.returns-in-Ok-clause-still
returns-in-Ok-clause-still g c = still-call g.D.Disk.tells g.D.Disk.contents g.D.Disk.moment g.D.Disk.image g.D.Disk.since _ _ c.length.ensures.contents c.length.ensures.images c.length.ensures.time

pub returns-in-Err-clause-still : goal.returns-in-Err-clause-still
returns-in-Err-clause-still g c = still-call g.D.Disk.tells g.D.Disk.contents g.D.Disk.moment g.D.Disk.image g.D.Disk.since _ _ c.length.ensures.contents c.length.ensures.images c.length.ensures.time
