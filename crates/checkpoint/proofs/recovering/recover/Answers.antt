use Rattle.std.proofs.Common.{length, ◌∙◌, ap, sym}
use Rattle.disk_layout.specs.Saved.{opened, raw}
use Rattle.checkpoint.proofs.RecoverLaws.{raw-absent, raw-wrong, named-size}
use Rattle.checkpoint.proofs.recovering.recover.Goals as goal

pub open-requires-clause-size : goal.open-requires-clause-size
open-requires-clause-size g c told =
    ap length (c.read_label.ensures.still.contents_same told)
    ∙ named-size (g.D.Disk.contents c.sync.new.self) c.in-Names.pages c.in-Names.quantum (sym c.in-Names.is ∙ c.in-Ok-read_label.ensures.label told)

pub returns-in-Absent-clause-refused : goal.returns-in-Absent-clause-refused
returns-in-Absent-clause-refused g c told =
    ap (λ b. opened (raw b)) (sym (c.sync.ensures.contents told))
    ∙ raw-absent (g.D.Disk.contents c.sync.new.self) (sym c.in-Absent.is ∙ c.in-Ok-read_label.ensures.label told)

pub returns-in-Wrong-clause-refused : goal.returns-in-Wrong-clause-refused
returns-in-Wrong-clause-refused g c told =
    ap (λ b. opened (raw b)) (sym (c.sync.ensures.contents told))
    ∙ raw-wrong (g.D.Disk.contents c.sync.new.self) (sym c.in-Wrong.is ∙ c.in-Ok-read_label.ensures.label told)
