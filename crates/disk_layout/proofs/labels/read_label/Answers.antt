use Rattle.std.proofs.Common.{◌∙◌, ap, arith}
use Rattle.kn_base.specs.Rows.{part_at}
use Rattle.disk_layout.specs.Saved.{label_of}
use Rattle.disk_layout.proofs.LabelLaws.{label-short, label-front}
use Rattle.disk_layout.proofs.labels.read_label.Goals as goal

pub returns-then-size-lt4096-clause-label : goal.returns-then-size-lt4096-clause-label
returns-then-size-lt4096-clause-label g c told =
    label-short _ _ (omega (arith, c.in-Ok.ensures.value told))

pub returns-in-Ok-read_front-clause-label : goal.returns-in-Ok-read_front-clause-label
returns-in-Ok-read_front-clause-label g c told =
    c.label_from.ensures.label ∙ ap (label_of c.in-Ok.size) (c.in-Ok-read_front.ensures.front told)
    ∙ ap (λ b. label_of c.in-Ok.size (part_at b 0 20)) (c.read_length.ensures.still.contents_same told)
    ∙ label-front (g.D.Disk.contents c.args.disk.now) c.in-Ok.size
    ∙ ap (λ n. label_of n (part_at (g.D.Disk.contents c.args.disk.now) 0 4096)) (c.in-Ok.ensures.value told)
