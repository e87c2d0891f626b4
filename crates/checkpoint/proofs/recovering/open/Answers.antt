use Rattle.std.proofs.Common.{arith, ◌∙◌, ap, sym}
use Rattle.disk_layout.specs.Saved.{generation_in}
use Rattle.checkpoint.proofs.RecoverLaws.{none-taken, late-taken}
use Rattle.checkpoint.proofs.recovering.open.Goals as goal

pub returns-in-None-clause-refused : goal.returns-in-None-clause-refused
returns-in-None-clause-refused g c told =
    none-taken c.args.pages (g.D.Disk.contents c.args.disk.now) (c.requires.named told)
    (ap (λ b. generation_in b (g.D.Disk.contents c.args.disk.now)) (sym c.blocks_of_pages.ensures) ∙ sym (c.in-Ok.ensures.generation told) ∙ c.in-None.is)

pub returns-then-generation-ge-FIRST_REFUSED-clause-refused : goal.returns-then-generation-ge-FIRST_REFUSED-clause-refused
returns-then-generation-ge-FIRST_REFUSED-clause-refused g c told =
    late-taken c.args.pages (g.D.Disk.contents c.args.disk.now) (c.requires.named told) c.in-Some.generation
    (ap (λ b. generation_in b (g.D.Disk.contents c.args.disk.now)) (sym c.blocks_of_pages.ensures) ∙ sym (c.in-Ok.ensures.generation told) ∙ c.in-Some.is) (omega arith)
