use Rattle.std.proofs.Common.{◌+◌, length, arith, refl, ap, ◌∙◌}
use Rattle.disk_layout.specs.Sizes.{area_size}
use Rattle.disk_layout.specs.Sizes.{area_in}
use Rattle.kn_base.proofs.RowLaws.{length-overwritten}
use Rattle.kn_disk.proofs.RunLaws.{inside-write}
use Rattle.checkpoint.proofs.FillLaws.{part_at-overwritten_inside}
use Rattle.checkpoint.proofs.area.write_part.Goals as goal

pub write_at-requires : goal.write_at-requires
write_at-requires g c told = omega (arith, c.requires.within told, c.requires.fits)

pub returns-in-Ok-clause-inside : goal.returns-in-Ok-clause-inside
returns-in-Ok-clause-inside g c =
    inside-write g.D.Disk.moment g.D.Disk.image g.D.Disk.since _ _ _ _ _ _ (omega (arith, c.requires.behind)) (omega (arith, c.requires.fits, c.requires.behind)) c.write_at.ensures.time c.write_at.ensures.images

pub returns-in-Err-clause-inside : goal.returns-in-Err-clause-inside
returns-in-Err-clause-inside g c =
    inside-write g.D.Disk.moment g.D.Disk.image g.D.Disk.since _ _ _ _ _ _ (omega (arith, c.requires.behind)) (omega (arith, c.requires.fits, c.requires.behind)) c.write_at.ensures.time c.write_at.ensures.images

pub returns-in-Ok-clause-size : goal.returns-in-Ok-clause-size
returns-in-Ok-clause-size g c told =
    ap length (c.in-Ok.ensures.written told)
    ∙ length-overwritten (g.D.Disk.contents c.args.disk.now) (c.args.place.now.start + c.args.at) c.args.part.now (omega (arith, c.requires.within told, c.requires.fits))

pub returns-in-Ok-clause-area : goal.returns-in-Ok-clause-area
returns-in-Ok-clause-area g c told =
    ap (λ image. area_in c.args.place.now.blocks c.args.place.now.start image) (c.in-Ok.ensures.written told)
    ∙ part_at-overwritten_inside (g.D.Disk.contents c.args.disk.now) c.args.place.now.start (area_size c.args.place.now.blocks) c.args.at _ c.args.part.now refl c.requires.fits (c.requires.within told)
