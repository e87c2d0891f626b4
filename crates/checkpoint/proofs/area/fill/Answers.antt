use Rattle.std.proofs.Common.{arith}
use Rattle.disk_layout.proofs.SizeLaws.{size_above}
use Rattle.kn_disk.proofs.RunLaws.{inside-joined}
use Rattle.checkpoint.proofs.FillLaws.{holds-filled, counted-header}
use Rattle.obj_store.specs.Store.{ram_of}
use Rattle.checkpoint.proofs.area.fill.Goals as goal

pub write_part-requires-clause-fits : goal.write_part-requires-clause-fits
write_part-requires-clause-fits g c = omega (arith, c.header_bytes-header.ensures.size, size_above c.args.place.now.blocks)

pub returns-in-Ok-write_part-clause-inside : goal.returns-in-Ok-write_part-clause-inside
returns-in-Ok-write_part-clause-inside g c =
    inside-joined g.D.Disk.moment g.D.Disk.image g.D.Disk.since _ _ _ _ _ c.save_marked.ensures.inside c.write_part.ensures.inside

pub returns-in-Err-write_part-clause-inside : goal.returns-in-Err-write_part-clause-inside
returns-in-Err-write_part-clause-inside g c =
    inside-joined g.D.Disk.moment g.D.Disk.image g.D.Disk.since _ _ _ _ _ c.save_marked.ensures.inside c.write_part.ensures.inside

pub returns-in-Ok-write_part-clause-holds : goal.returns-in-Ok-write_part-clause-holds
returns-in-Ok-write_part-clause-holds g c told =
    holds-filled c.args.place.now.blocks c.args.place.now.start (g.D.Disk.contents c.save_marked.new.disk) (g.D.Disk.contents c.write_part.new.disk)
    (ram_of c.args.store.now) c.args.generation c.in-Ok.n c.header_bytes-header.result c.requires.blocks
    (omega (arith, c.in-Ok.ensures.size told, c.requires.within told)) c.in-Ok.ensures.few c.header_bytes-header.ensures.size
    c.header_bytes-header.ensures.generation c.header_bytes-header.ensures.entries (c.in-Ok-write_part.ensures.area told) (c.in-Ok.ensures.saved told)

pub returns-in-Ok-write_part-clause-count : goal.returns-in-Ok-write_part-clause-count
returns-in-Ok-write_part-clause-count g c told =
    counted-header c.args.place.now.blocks c.args.place.now.start (g.D.Disk.contents c.save_marked.new.disk) (g.D.Disk.contents c.write_part.new.disk)
    c.in-Ok.n c.header_bytes-header.result (omega (arith, c.in-Ok.ensures.size told, c.requires.within told)) c.header_bytes-header.ensures.size
    c.header_bytes-header.ensures.entries (c.in-Ok-write_part.ensures.area told)
