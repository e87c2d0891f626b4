use Rattle.std.proofs.Common.{ap, refl, ◌∙◌}
use Rattle.disk_layout.specs.Sizes.{word, area_in}
use Rattle.disk_layout.proofs.HomeLaws.{word-read_area}
use Rattle.disk_layout.proofs.RunLaws.{still-call}
use Rattle.disk_layout.proofs.reading.read_entry.Goals as goal

pub returns-in-Ok-clause-entry : goal.returns-in-Ok-clause-entry
returns-in-Ok-clause-entry g c told =
    c.word_in.ensures
    ∙ word-read_area c.args.place.now.blocks c.args.place.now.start _ c.entry_at.result (g.D.Disk.contents c.args.disk.now) _ (c.in-Ok.ensures.read told) refl c.entry_at.ensures.fits
    ∙ ap (λ k. word (area_in c.args.place.now.blocks c.args.place.now.start (g.D.Disk.contents c.args.disk.now)) k) c.entry_at.ensures.place

pub returns-in-Ok-clause-still : goal.returns-in-Ok-clause-still
returns-in-Ok-clause-still g c = still-call g.D.Disk.tells g.D.Disk.contents g.D.Disk.moment g.D.Disk.image g.D.Disk.since _ _ c.read_at.ensures.contents c.read_at.ensures.images c.read_at.ensures.time

pub returns-in-Err-clause-still : goal.returns-in-Err-clause-still
returns-in-Err-clause-still g c = still-call g.D.Disk.tells g.D.Disk.contents g.D.Disk.moment g.D.Disk.image g.D.Disk.since _ _ c.read_at.ensures.contents c.read_at.ensures.images c.read_at.ensures.time
