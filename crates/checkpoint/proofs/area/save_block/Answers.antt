use Rattle.std.proofs.Common.{◌+◌, ◌*◌, ap, ◌∙◌}
use Rattle.kn_base.specs.Rows.{overwritten}
use Rattle.disk_layout.specs.Sizes.{area_in}
use Rattle.obj_store.specs.Store.{ram_of}
use Rattle.kn_disk.proofs.RunLaws.{inside-joined}
use Rattle.checkpoint.proofs.FillLaws.{saved-goes}
use Rattle.checkpoint.proofs.area.save_block.Goals as goal

pub returns-in-Ok-write_part-clause-inside : goal.returns-in-Ok-write_part-clause-inside
returns-in-Ok-write_part-clause-inside g c =
    inside-joined g.D.Disk.moment g.D.Disk.image g.D.Disk.since _ _ _ _ _ c.write_part.ensures.inside c.write_part-2.ensures.inside

pub returns-in-Err-write_part-clause-inside : goal.returns-in-Err-write_part-clause-inside
returns-in-Err-write_part-clause-inside g c =
    inside-joined g.D.Disk.moment g.D.Disk.image g.D.Disk.since _ _ _ _ _ c.write_part.ensures.inside c.write_part-2.ensures.inside

pub returns-in-Ok-write_part-clause-saves : goal.returns-in-Ok-write_part-clause-saves
returns-in-Ok-write_part-clause-saves g c told =
    saved-goes c.args.place.now.blocks c.args.place.now.start (g.D.Disk.contents c.args.disk.now) (g.D.Disk.contents c.write_part-2.new.disk)
    (ram_of c.args.store.now) c.args.n c.args.number c.block_of-block.result c.word_bytes-bytes.result
    c.requires.blocks c.requires.number c.requires.n (c.requires.within told) c.block_of-block.ensures.size c.word_bytes-bytes.ensures.size c.word_bytes-bytes.ensures.number
    c.block_of-block.ensures.block
    (c.in-Ok-write_part.ensures.area told
    ∙ ap (λ area. overwritten area c.entry_at.result c.word_bytes-bytes.result) (c.in-Ok.ensures.area told)
    ∙ ap (λ at. overwritten (overwritten (area_in c.args.place.now.blocks c.args.place.now.start (g.D.Disk.contents c.args.disk.now)) c.content_at.result c.block_of-block.result) at c.word_bytes-bytes.result) c.entry_at.ensures.place
    ∙ ap (λ at. overwritten (overwritten (area_in c.args.place.now.blocks c.args.place.now.start (g.D.Disk.contents c.args.disk.now)) at c.block_of-block.result) (4096 + 4 * c.args.n) c.word_bytes-bytes.result) c.content_at.ensures.place)
