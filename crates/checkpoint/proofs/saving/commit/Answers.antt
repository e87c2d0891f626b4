use Rattle.std.proofs.Common.{◌∙◌, ap, arith}
use Rattle.kn_disk.proofs.RunLaws.{each-since}
use Rattle.obj_store.specs.Store.{ram_of}
use Rattle.checkpoint.specs.Filling.{marks_below}
use Rattle.checkpoint.proofs.FillLaws.{all-marks}
use Rattle.checkpoint.proofs.SaveLaws.{commit-fits, commit-leaves, commit-saved, commit-label, commit-stands, as_it_was}
use Rattle.checkpoint.proofs.saving.commit.Goals as goal

pub save_area-requires-clause-within : goal.save_area-requires-clause-within
save_area-requires-clause-within g c told =
    commit-fits (g.D.Disk.contents c.args.disk.now) (g.D.Disk.image c.args.disk.now) (ram_of c.args.store.now) c.args.at.now.generation c.args.at.now.entries c.args.at.now.moved c.args.at.now.synced c.requires.sizes (c.requires.ready told) c.place_of-place.result.blocks c.place_of-place.result.start
    (c.place_of-place.ensures.blocks ∙ c.blocks-2.ensures) c.place_of-place.ensures.start

pub returns-in-Err-clause-leaves : goal.returns-in-Err-clause-leaves
returns-in-Err-clause-leaves g c told =
    commit-leaves (g.D.Disk.contents c.args.disk.now) (g.D.Disk.image c.args.disk.now) (ram_of c.args.store.now) c.args.at.now.generation c.args.at.now.entries c.args.at.now.moved c.args.at.now.synced c.requires.sizes (c.requires.ready told)
    g.D.Disk.moment g.D.Disk.image g.D.Disk.since c.requires.below c.place_of-place.result.blocks c.place_of-place.result.start
    (c.place_of-place.ensures.blocks ∙ c.blocks-2.ensures) c.place_of-place.ensures.start _ _ (c.save_area.ensures.leaves told)

pub returns-in-Err-clause-each : goal.returns-in-Err-clause-each
returns-in-Err-clause-each g c told =
    each-since g.D.Disk.moment g.D.Disk.image g.D.Disk.since g.met.D.Disk.only_now _ _ _
    (as_it_was (g.D.Disk.contents c.args.disk.now) (g.D.Disk.image c.args.disk.now) (ram_of c.args.store.now) c.args.at.now.generation c.args.at.now.entries c.args.at.now.moved c.args.at.now.synced c.requires.sizes (c.requires.ready told)) (returns-in-Err-clause-leaves g c told)

pub returns-clause-leaves : goal.returns-clause-leaves
returns-clause-leaves g c told =
    commit-leaves (g.D.Disk.contents c.args.disk.now) (g.D.Disk.image c.args.disk.now) (ram_of c.args.store.now) c.args.at.now.generation c.args.at.now.entries c.args.at.now.moved c.args.at.now.synced c.requires.sizes (c.requires.ready told)
    g.D.Disk.moment g.D.Disk.image g.D.Disk.since c.requires.below c.place_of-place.result.blocks c.place_of-place.result.start
    (c.place_of-place.ensures.blocks ∙ c.blocks-2.ensures) c.place_of-place.ensures.start _ _ (c.save_area.ensures.leaves told)

pub returns-clause-each : goal.returns-clause-each
returns-clause-each g c told =
    each-since g.D.Disk.moment g.D.Disk.image g.D.Disk.since g.met.D.Disk.only_now _ _ _
    (as_it_was (g.D.Disk.contents c.args.disk.now) (g.D.Disk.image c.args.disk.now) (ram_of c.args.store.now) c.args.at.now.generation c.args.at.now.entries c.args.at.now.moved c.args.at.now.synced c.requires.sizes (c.requires.ready told)) (returns-clause-leaves g c told)

pub returns-clause-saved : goal.returns-clause-saved
returns-clause-saved g c told =
    commit-saved (g.D.Disk.contents c.args.disk.now) (g.D.Disk.image c.args.disk.now) (ram_of c.args.store.now) c.args.at.now.generation c.args.at.now.entries c.args.at.now.moved c.args.at.now.synced c.requires.sizes (c.requires.ready told) c.requires.below c.place_of-place.result.blocks c.place_of-place.result.start
    (c.place_of-place.ensures.blocks ∙ c.blocks-2.ensures) c.place_of-place.ensures.start _ (c.in-Ok.ensures.opened told)

pub returns-clause-label : goal.returns-clause-label
returns-clause-label g c told =
    commit-label (g.D.Disk.contents c.args.disk.now) (g.D.Disk.image c.args.disk.now) (ram_of c.args.store.now) c.args.at.now.generation c.args.at.now.entries c.args.at.now.moved c.args.at.now.synced c.requires.sizes (c.requires.ready told) c.place_of-place.result.blocks c.place_of-place.result.start
    (c.place_of-place.ensures.blocks ∙ c.blocks-2.ensures) c.place_of-place.ensures.start _ (c.in-Ok.ensures.opened told)

pub returns-clause-stands : goal.returns-clause-stands
returns-clause-stands g c told =
    commit-stands (g.D.Disk.contents c.args.disk.now) (g.D.Disk.image c.args.disk.now) (ram_of c.args.store.now) c.args.at.now.generation c.args.at.now.entries c.args.at.now.moved c.args.at.now.synced c.requires.sizes (c.requires.ready told) c.requires.below c.place_of-place.result.blocks c.place_of-place.result.start
    (c.place_of-place.ensures.blocks ∙ c.blocks-2.ensures) c.place_of-place.ensures.start _ _ c.in-Ok.entries (c.in-Ok.ensures.opened told) c.in-Ok.ensures.only (c.in-Ok.ensures.count told)

pub returns-clause-entries : goal.returns-clause-entries
returns-clause-entries g c =
    c.in-Ok.ensures.marks ∙ ap (marks_below (ram_of c.args.store.now)) (c.place_of-place.ensures.blocks ∙ c.blocks-2.ensures)
    ∙ all-marks (ram_of c.args.store.now) (omega (arith, c.args.store.now.marks))
