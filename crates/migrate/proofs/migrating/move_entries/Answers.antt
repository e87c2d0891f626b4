use Rattle.std.proofs.Common.{◌∙◌}
use Rattle.migrate.proofs.SomeLaws.{is_moving, first, enough, same_after, stands_after, leaves_same}
use Rattle.migrate.proofs.migrating.move_entries.Goals as goal

pub move_blocks-requires-clause-moving : goal.move_blocks-requires-clause-moving
move_blocks-requires-clause-moving g c told =
    is_moving _ _ _ _ _ _ _ (c.requires.stands told) _ _ (c.place_of-place.ensures.blocks ∙ c.blocks_of_pages.ensures) c.place_of-place.ensures.start c.args.until c.requires.until

pub returns-in-Ok-clause-leaves : goal.returns-in-Ok-clause-leaves
returns-in-Ok-clause-leaves g c told =
    let stands = c.requires.stands told in
    let blocks = c.place_of-place.ensures.blocks ∙ c.blocks_of_pages.ensures in
    let start = c.place_of-place.ensures.start in
    leaves_same _ _ _ _ _ _ _ stands _ _ blocks start g.D.Disk.moment g.D.Disk.image g.D.Disk.since _ _
    (c.move_blocks.ensures.leaves told _ _ (enough _ _ _ _ _ _ _ stands _ _ blocks start c.args.until c.requires.until) (first _ _ _ _ _ _ _ stands _ _ blocks start))

pub returns-in-Ok-clause-machine : goal.returns-in-Ok-clause-machine
returns-in-Ok-clause-machine g c told =
    let stands = c.requires.stands told in
    let blocks = c.place_of-place.ensures.blocks ∙ c.blocks_of_pages.ensures in
    let start = c.place_of-place.ensures.start in
    let moved = c.in-Ok.ensures.moved told _ _ (enough _ _ _ _ _ _ _ stands _ _ blocks start c.args.until c.requires.until) (first _ _ _ _ _ _ _ stands _ _ blocks start) in
    same_after _ _ _ _ _ _ _ stands _ _ blocks start _ moved.now_is

pub returns-in-Ok-clause-images : goal.returns-in-Ok-clause-images
returns-in-Ok-clause-images g c told image now =
    let stands = c.requires.stands told in
    let blocks = c.place_of-place.ensures.blocks ∙ c.blocks_of_pages.ensures in
    let start = c.place_of-place.ensures.start in
    let moved = c.in-Ok.ensures.moved told _ _ (enough _ _ _ _ _ _ _ stands _ _ blocks start c.args.until c.requires.until) (first _ _ _ _ _ _ _ stands _ _ blocks start) in
    same_after _ _ _ _ _ _ _ stands _ _ blocks start image (moved.images image now)

pub returns-in-Ok-clause-stands : goal.returns-in-Ok-clause-stands
returns-in-Ok-clause-stands g c told =
    let stands = c.requires.stands told in
    let blocks = c.place_of-place.ensures.blocks ∙ c.blocks_of_pages.ensures in
    let start = c.place_of-place.ensures.start in
    stands_after _ _ _ _ _ _ _ stands _ _ blocks start c.args.until c.requires.until _ _
    (c.in-Ok.ensures.moved told _ _ (enough _ _ _ _ _ _ _ stands _ _ blocks start c.args.until c.requires.until) (first _ _ _ _ _ _ _ stands _ _ blocks start))

pub returns-in-Err-clause-leaves : goal.returns-in-Err-clause-leaves
returns-in-Err-clause-leaves g c told =
    let stands = c.requires.stands told in
    let blocks = c.place_of-place.ensures.blocks ∙ c.blocks_of_pages.ensures in
    let start = c.place_of-place.ensures.start in
    leaves_same _ _ _ _ _ _ _ stands _ _ blocks start g.D.Disk.moment g.D.Disk.image g.D.Disk.since _ _
    (c.move_blocks.ensures.leaves told _ _ (enough _ _ _ _ _ _ _ stands _ _ blocks start c.args.until c.requires.until) (first _ _ _ _ _ _ _ stands _ _ blocks start))
