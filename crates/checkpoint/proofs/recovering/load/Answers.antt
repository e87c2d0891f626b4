use Rattle.std.proofs.Common.{length, arith, ◌∙◌, ap, sym, refl}
use Rattle.disk_layout.specs.Sizes.{disk_size}
use Rattle.obj_store.specs.Store.{ram_of}
use Rattle.checkpoint.proofs.RecoverLaws.{many-entries, wrong-entries, right-entries, opened-entries, stands-entries, place-in}
use Rattle.checkpoint.proofs.recovering.load.Goals as goal

pub returns-then-entries-place-clause-refused : goal.returns-then-entries-place-clause-refused
returns-then-entries-place-clause-refused g c told =
    many-entries c.args.pages (g.D.Disk.contents c.args.disk.now) (c.requires.named told) c.args.generation c.place_of-place.result.blocks c.place_of-place.result.start c.in-Ok.entries (g.D.Disk.contents c.args.disk.now)
    (c.place_of-place.ensures.blocks ∙ c.blocks_of_pages.ensures) c.place_of-place.ensures.start (c.requires.taken told) refl (c.in-Ok.ensures.entries told) (omega arith)

pub load_blocks-requires-clause-place : goal.load_blocks-requires-clause-place
load_blocks-requires-clause-place g c told =
    place-in c.place_of-place.result.blocks c.place_of-place.result.start c.args.generation (g.D.Disk.contents c.read_entries.new.disk)
    c.place_of-place.ensures.start
    (ap length (c.read_entries.ensures.still.contents_same told) ∙ c.requires.size told ∙ ap disk_size (sym (c.place_of-place.ensures.blocks ∙ c.blocks_of_pages.ensures)))

pub returns-then-not-right-clause-refused : goal.returns-then-not-right-clause-refused
returns-then-not-right-clause-refused g c told =
    wrong-entries c.args.pages (g.D.Disk.contents c.args.disk.now) (c.requires.named told) c.args.generation c.place_of-place.result.blocks c.place_of-place.result.start c.in-Ok.entries (g.D.Disk.contents c.read_entries.new.disk)
    (c.place_of-place.ensures.blocks ∙ c.blocks_of_pages.ensures) c.place_of-place.ensures.start (c.requires.taken told) (c.read_entries.ensures.still.contents_same told) (c.in-Ok.ensures.entries told) c.in-Ok-load_blocks.right (c.in-Ok-load_blocks.ensures.right told) c.if-not-right.true

pub returns-clause-machine : goal.returns-clause-machine
returns-clause-machine g c told =
    opened-entries c.args.pages (g.D.Disk.contents c.args.disk.now) (c.requires.named told) c.args.generation c.place_of-place.result.blocks c.place_of-place.result.start c.in-Ok.entries (g.D.Disk.contents c.read_entries.new.disk)
    (c.place_of-place.ensures.blocks ∙ c.blocks_of_pages.ensures) c.place_of-place.ensures.start (c.requires.taken told) (c.read_entries.ensures.still.contents_same told) (c.in-Ok.ensures.entries told) c.in-Ok-load_blocks.right (ram_of c.load_blocks.new.store).blocks (omega arith) (c.in-Ok-load_blocks.ensures.right told) c.if-not-right.false (c.in-Ok-load_blocks.ensures.over told c.if-not-right.false) c.requires.low

pub returns-clause-stands : goal.returns-clause-stands
returns-clause-stands g c told =
    stands-entries c.args.pages (g.D.Disk.contents c.args.disk.now) (c.requires.named told) c.args.generation c.place_of-place.result.blocks c.place_of-place.result.start c.in-Ok.entries (g.D.Disk.contents c.read_entries.new.disk)
    (c.place_of-place.ensures.blocks ∙ c.blocks_of_pages.ensures) c.place_of-place.ensures.start (c.requires.taken told) (c.read_entries.ensures.still.contents_same told) (c.in-Ok.ensures.entries told) (g.D.Disk.contents c.load_blocks.new.disk) (g.D.Disk.image c.load_blocks.new.disk) (ram_of c.load_blocks.new.store).blocks
    (right-entries c.args.pages (g.D.Disk.contents c.args.disk.now) (c.requires.named told) c.args.generation c.place_of-place.result.blocks c.place_of-place.result.start c.in-Ok.entries (g.D.Disk.contents c.read_entries.new.disk)
    (c.place_of-place.ensures.blocks ∙ c.blocks_of_pages.ensures) c.place_of-place.ensures.start (c.requires.taken told) (c.read_entries.ensures.still.contents_same told) (c.in-Ok.ensures.entries told) c.in-Ok-load_blocks.right (ram_of c.load_blocks.new.store).blocks (omega arith) (c.in-Ok-load_blocks.ensures.right told) c.if-not-right.false (c.in-Ok-load_blocks.ensures.over told c.if-not-right.false))
    (c.requires.size told) (c.load_blocks.ensures.still.contents_same told ∙ c.read_entries.ensures.still.contents_same told)
    (λ f left. c.requires.only told f (c.read_entries.ensures.still.images f (c.load_blocks.ensures.still.images f left)))
