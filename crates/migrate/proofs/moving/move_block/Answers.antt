use Rattle.std.proofs.Common.{◌+◌, ◌*◌, ap, ◌∙◌}
use Rattle.disk_layout.specs.Sizes.{content, contents_from, home_start, area_in}
use Rattle.kn_base.specs.Rows.{overwritten}
use Rattle.migrate.proofs.MoveLaws.{read_once, read_twice, number-is, image_written, moved_leaves, moved-more}
use Rattle.migrate.proofs.moving.move_block.Goals as goal

pub returns-in-Err-clause-leaves : goal.returns-in-Err-clause-leaves
returns-in-Err-clause-leaves g c told n base h m =
    read_once g.D.Disk.tells g.D.Disk.contents g.D.Disk.moment g.D.Disk.image g.D.Disk.since _ _ _ _ _ _ m _ c.read_entry.ensures.still

pub returns-in-Err-read_content-clause-leaves : goal.returns-in-Err-read_content-clause-leaves
returns-in-Err-read_content-clause-leaves g c told n base h m =
    read_twice g.D.Disk.tells g.D.Disk.contents g.D.Disk.moment g.D.Disk.image g.D.Disk.since _ _ _ _ _ _ m _ _ c.read_entry.ensures.still c.read_content.ensures.still

pub returns-in-Err-write_home-clause-leaves : goal.returns-in-Err-write_home-clause-leaves
returns-in-Err-write_home-clause-leaves g c told n base h m =
    moved_leaves g.D.Disk.tells g.D.Disk.contents g.D.Disk.moment g.D.Disk.image g.D.Disk.since _ _ _ _ _ _ m _ _ _ _
    (number-is g.D.Disk.tells g.D.Disk.contents g.D.Disk.moment g.D.Disk.image g.D.Disk.since _ _ _ _ _ _ m told _ _ h c.read_entry.ensures.still (c.in-Ok.ensures.entry told))
    c.read_entry.ensures.still c.read_content.ensures.still c.write_home.ensures.time c.write_home.ensures.images

pub returns-in-Ok-write_home-clause-leaves : goal.returns-in-Ok-write_home-clause-leaves
returns-in-Ok-write_home-clause-leaves g c told n base h m =
    moved_leaves g.D.Disk.tells g.D.Disk.contents g.D.Disk.moment g.D.Disk.image g.D.Disk.since _ _ _ _ _ _ m _ _ _ _
    (number-is g.D.Disk.tells g.D.Disk.contents g.D.Disk.moment g.D.Disk.image g.D.Disk.since _ _ _ _ _ _ m told _ _ h c.read_entry.ensures.still (c.in-Ok.ensures.entry told))
    c.read_entry.ensures.still c.read_content.ensures.still c.write_home.ensures.time c.write_home.ensures.images

pub returns-in-Ok-write_home-clause-moved : goal.returns-in-Ok-write_home-clause-moved
returns-in-Ok-write_home-clause-moved g c told n base h m =
    moved-more c.args.place.now.blocks n c.args.place.now.start base (g.D.Disk.contents c.args.disk.now) (g.D.Disk.contents c.write_home.new.disk)
    (g.D.Disk.image c.args.disk.now) (g.D.Disk.image c.write_home.new.disk) c.args.i c.in-Ok.number c.in-Ok-read_content.block h m
    (c.in-Ok.ensures.entry told)
    (c.in-Ok-read_content.ensures.content told ∙ ap (λ image. content (contents_from c.args.place.now.blocks) (area_in c.args.place.now.blocks c.args.place.now.start image) c.args.i) (c.read_entry.ensures.still.contents_same told))
    c.in-Ok-read_content.ensures.size
    (c.in-Ok-write_home.ensures.written told ∙ ap (λ image. overwritten image (home_start c.args.place.now.blocks + 4096 * c.in-Ok.number) c.in-Ok-read_content.block) (c.read_content.ensures.still.contents_same told ∙ c.read_entry.ensures.still.contents_same told))
    (image_written g.D.Disk.tells g.D.Disk.contents g.D.Disk.moment g.D.Disk.image g.D.Disk.since _ _ _ _ _ _ m _ _ _ _
    (number-is g.D.Disk.tells g.D.Disk.contents g.D.Disk.moment g.D.Disk.image g.D.Disk.since _ _ _ _ _ _ m told _ _ h c.read_entry.ensures.still (c.in-Ok.ensures.entry told))
    c.read_entry.ensures.still c.read_content.ensures.still c.write_home.ensures.images)
