use Rattle.std.proofs.Common.{◌∙◌, ap, arith}
use Rattle.kn_base.specs.Rows.{part_at}
use Rattle.disk_layout.proofs.LabelLaws.{present-short, present-front}
use Rattle.disk_layout.proofs.labels.present.Goals as goal

pub returns-then-size-lt4096-clause-present : goal.returns-then-size-lt4096-clause-present
returns-then-size-lt4096-clause-present g c told =
    present-short (g.D.Disk.contents c.args.disk.now) (omega (arith, c.in-Ok.ensures.value told))

pub returns-in-Ok-read_front-clause-present : goal.returns-in-Ok-read_front-clause-present
returns-in-Ok-read_front-clause-present g c told =
    present-front (g.D.Disk.contents c.args.disk.now) c.in-Ok-read_front.bytes (omega (arith, c.in-Ok.ensures.value told))
    (c.in-Ok-read_front.ensures.front told ∙ ap (λ b. part_at b 0 20) (c.read_length.ensures.still.contents_same told))
