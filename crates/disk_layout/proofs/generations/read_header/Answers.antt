use Rattle.std.proofs.Common.{◌∙◌, arith}
use Rattle.disk_layout.proofs.SizeLaws.{size_above}
use Rattle.disk_layout.proofs.HomeLaws.{front-read}
use Rattle.disk_layout.proofs.RunLaws.{still-call}
use Rattle.disk_layout.proofs.generations.read_header.Goals as goal

pub read_at-requires : goal.read_at-requires
read_at-requires g c told = omega (arith, c.requires.within told, size_above c.args.place.now.blocks)

pub returns-in-Ok-clause-header : goal.returns-in-Ok-clause-header
returns-in-Ok-clause-header g c told = c.in-Ok.ensures.read told ∙ front-read c.args.place.now.blocks c.args.place.now.start (g.D.Disk.contents c.args.disk.now)

pub returns-in-Ok-clause-still : goal.returns-in-Ok-clause-still
returns-in-Ok-clause-still g c = still-call g.D.Disk.tells g.D.Disk.contents g.D.Disk.moment g.D.Disk.image g.D.Disk.since _ _ c.read_at.ensures.contents c.read_at.ensures.images c.read_at.ensures.time

pub returns-in-Err-clause-still : goal.returns-in-Err-clause-still
returns-in-Err-clause-still g c = still-call g.D.Disk.tells g.D.Disk.contents g.D.Disk.moment g.D.Disk.image g.D.Disk.since _ _ c.read_at.ensures.contents c.read_at.ensures.images c.read_at.ensures.time
