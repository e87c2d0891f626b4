use Rattle.std.proofs.Common.{ap, refl, ◌∙◌}
use Rattle.kn_base.specs.Rows.{part_at}
use Rattle.disk_layout.specs.Sizes.{area_in}
use Rattle.disk_layout.proofs.HomeLaws.{area-read}
use Rattle.disk_layout.proofs.RunLaws.{still-call}
use Rattle.disk_layout.proofs.reading.read_content.Goals as goal

pub returns-in-Ok-clause-content : goal.returns-in-Ok-clause-content
returns-in-Ok-clause-content g c told =
    c.in-Ok.ensures.read told
    ∙ area-read c.args.place.now.blocks c.args.place.now.start _ c.content_at.result 4096 (g.D.Disk.contents c.args.disk.now) refl c.content_at.ensures.fits
    ∙ ap (λ k. part_at (area_in c.args.place.now.blocks c.args.place.now.start (g.D.Disk.contents c.args.disk.now)) k 4096) c.content_at.ensures.place

pub returns-in-Ok-clause-still : goal.returns-in-Ok-clause-still
returns-in-Ok-clause-still g c = still-call g.D.Disk.tells g.D.Disk.contents g.D.Disk.moment g.D.Disk.image g.D.Disk.since _ _ c.read_at.ensures.contents c.read_at.ensures.images c.read_at.ensures.time

pub returns-in-Err-clause-still : goal.returns-in-Err-clause-still
returns-in-Err-clause-still g c = still-call g.D.Disk.tells g.D.Disk.contents g.D.Disk.moment g.D.Disk.image g.D.Disk.since _ _ c.read_at.ensures.contents c.read_at.ensures.images c.read_at.ensures.time
