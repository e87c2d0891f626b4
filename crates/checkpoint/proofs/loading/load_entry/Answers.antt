use Rattle.std.proofs.Common.{inl, inr, arith, ap}
use Rattle.obj_store.specs.Store.{ram_of}
use Rattle.disk_layout.specs.Sizes.{area_in}
use Rattle.checkpoint.proofs.LoadLaws.{laid-more, wrong-entry}
use Rattle.checkpoint.proofs.loading.load_entry.Goals as goal

pub returns-then-number-from-clause-wrong : goal.returns-then-number-from-clause-wrong
returns-then-number-from-clause-wrong g c told none home laid =
    wrong-entry c.args.place.now.blocks (area_in c.args.place.now.blocks c.args.place.now.start (g.D.Disk.contents c.args.disk.now)) home c.args.i c.args.from c.in-Ok.number _ laid (c.in-Ok.ensures.entry told) (inl (omega arith))

pub returns-then-number-place-clause-wrong : goal.returns-then-number-place-clause-wrong
returns-then-number-place-clause-wrong g c told none home laid =
    wrong-entry c.args.place.now.blocks (area_in c.args.place.now.blocks c.args.place.now.start (g.D.Disk.contents c.args.disk.now)) home c.args.i c.args.from c.in-Ok.number _ laid (c.in-Ok.ensures.entry told) (inr (omega arith))

pub returns-in-Ok-load_content-clause-laid : goal.returns-in-Ok-load_content-clause-laid
returns-in-Ok-load_content-clause-laid g c told home laid =
    laid-more c.args.place.now.blocks (area_in c.args.place.now.blocks c.args.place.now.start (g.D.Disk.contents c.args.disk.now))
    (area_in c.args.place.now.blocks c.args.place.now.start (g.D.Disk.contents c.read_entry.new.disk)) home c.args.i c.args.from c.in-Ok.number
    (ram_of c.args.store.now) (ram_of c.load_content.new.store)
    (ap (area_in c.args.place.now.blocks c.args.place.now.start) (c.read_entry.ensures.still.contents_same told))
    (c.in-Ok.ensures.entry told) (omega arith) (omega arith) (c.in-Ok-load_content.ensures.loaded told) laid
