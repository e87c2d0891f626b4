use Rattle.std.proofs.Common.{arith}
use Rattle.obj_store.specs.Store.{ram_of}
use Rattle.disk_layout.proofs.SizeLaws.{size_above}
use Rattle.checkpoint.proofs.GateLaws.{opened-written, count-opened}
use Rattle.checkpoint.proofs.SaveLaws.{saved-closed, saved-filled, saved-opened, image-filled}
use Rattle.checkpoint.proofs.saving.save_area.Goals as goal

pub close_gate-requires-clause-within : goal.close_gate-requires-clause-within
close_gate-requires-clause-within g c told = omega (arith, size_above c.args.place.now.blocks, c.requires.within told)

pub fill-requires-clause-within : goal.fill-requires-clause-within
fill-requires-clause-within g c told = omega (arith, c.requires.within told, (c.in-Ok.ensures.closed told).inside.size)

pub returns-in-Err-clause-leaves : goal.returns-in-Err-clause-leaves
returns-in-Err-clause-leaves g c told =
    saved-closed g.D.Disk.moment g.D.Disk.image g.D.Disk.since c.args.place.now.blocks c.args.place.now.start (ram_of c.args.store.now) c.args.generation _ _ _ (c.close_gate.ensures.leaves told)

pub returns-in-Err-fill-clause-leaves : goal.returns-in-Err-fill-clause-leaves
returns-in-Err-fill-clause-leaves g c told =
    saved-filled g.D.Disk.moment g.D.Disk.image g.D.Disk.since c.args.place.now.blocks c.args.place.now.start (ram_of c.args.store.now) c.args.generation _ _ _ _ _
    (c.close_gate.ensures.leaves told) (c.in-Ok.ensures.closed told) (c.in-Ok.ensures.only told) c.fill.ensures.inside

pub open_gate-requires : goal.open_gate-requires
open_gate-requires g c = record {
  within = λ told.
      omega (arith, size_above c.args.place.now.blocks, c.requires.within told, (c.in-Ok.ensures.closed told).inside.size, c.in-Ok-fill.ensures.size told);
}

pub returns-in-Ok-open_gate-clause-leaves : goal.returns-in-Ok-open_gate-clause-leaves
returns-in-Ok-open_gate-clause-leaves g c told =
    saved-opened g.D.Disk.moment g.D.Disk.image g.D.Disk.since c.args.place.now.blocks c.args.place.now.start (ram_of c.args.store.now) c.args.generation _ _ _ _ _ _ _
    (c.close_gate.ensures.leaves told) (c.in-Ok.ensures.closed told) (c.in-Ok.ensures.only told) c.fill.ensures.inside (g.met.D.Disk.contents_image c.fill.new.disk told)
    (omega (arith, c.requires.within told, (c.in-Ok.ensures.closed told).inside.size, c.in-Ok-fill.ensures.size told))
    (c.in-Ok-fill.ensures.holds told) (c.open_gate.ensures.leaves told)

pub returns-in-Err-open_gate-clause-leaves : goal.returns-in-Err-open_gate-clause-leaves
returns-in-Err-open_gate-clause-leaves g c told =
    saved-opened g.D.Disk.moment g.D.Disk.image g.D.Disk.since c.args.place.now.blocks c.args.place.now.start (ram_of c.args.store.now) c.args.generation _ _ _ _ _ _ _
    (c.close_gate.ensures.leaves told) (c.in-Ok.ensures.closed told) (c.in-Ok.ensures.only told) c.fill.ensures.inside (g.met.D.Disk.contents_image c.fill.new.disk told)
    (omega (arith, c.requires.within told, (c.in-Ok.ensures.closed told).inside.size, c.in-Ok-fill.ensures.size told))
    (c.in-Ok-fill.ensures.holds told) (c.open_gate.ensures.leaves told)

pub returns-in-Ok-open_gate-clause-opened : goal.returns-in-Ok-open_gate-clause-opened
returns-in-Ok-open_gate-clause-opened g c told =
    opened-written c.args.place.now.blocks c.args.place.now.start (ram_of c.args.store.now) c.args.generation (g.D.Disk.contents c.args.disk.now) (g.D.Disk.contents c.fill.new.disk) _
    (omega (arith, c.requires.within told, (c.in-Ok.ensures.closed told).inside.size, c.in-Ok-fill.ensures.size told))
    (image-filled g.D.Disk.moment g.D.Disk.image g.D.Disk.since c.args.place.now.blocks c.args.place.now.start (ram_of c.args.store.now) c.args.generation _ _ _ _
    (c.in-Ok.ensures.closed told) (c.in-Ok.ensures.only told) c.fill.ensures.inside _ (g.met.D.Disk.contents_image c.fill.new.disk told))
    (c.in-Ok-fill.ensures.holds told) (c.in-Ok-open_gate.ensures.written told)

pub returns-in-Ok-open_gate-clause-count : goal.returns-in-Ok-open_gate-clause-count
returns-in-Ok-open_gate-clause-count g c told =
    count-opened c.args.place.now.blocks c.args.place.now.start c.in-Ok-fill.n (g.D.Disk.contents c.fill.new.disk) _
    (omega (arith, c.requires.within told, (c.in-Ok.ensures.closed told).inside.size, c.in-Ok-fill.ensures.size told))
    (c.in-Ok-fill.ensures.count told) (c.in-Ok-open_gate.ensures.written told)
