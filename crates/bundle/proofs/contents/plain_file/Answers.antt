use Rattle.bundle.specs.Lines.{lines_begun}
use Rattle.bundle.specs.Parts.{part_of}
use Rattle.bundle.proofs.MadeLaws.{file-whole, file-broken}
use Rattle.bundle.proofs.contents.plain_file.Goals as goal

pub returns-in-Ok-Whole-clause-made : goal.returns-in-Ok-Whole-clause-made
returns-in-Ok-Whole-clause-made g c = λ bytes told.
    file-whole (part_of c.args.form c.args.count bytes) (lines_begun c.args.lines.now) c.args.count (lines_begun c.read_part.new.lines) c.read_part.new.bytes.items (g.S.Source.left c.read_part.new.from) ((rw c.in-Ok-Whole.field-0-is at c.in-Ok-Whole.ensures.taken) bytes told)

pub returns-in-Ok-Broken-clause-fault : goal.returns-in-Ok-Broken-clause-fault
returns-in-Ok-Broken-clause-fault g c = λ bytes told.
    file-broken (part_of c.args.form c.args.count bytes) (lines_begun c.args.lines.now) c.args.count c.in-Ok-Broken.line c.in-Ok-Broken.kind c.read_part.new.bytes.items ((rw c.in-Ok-Broken.field-0-is at c.in-Ok-Broken.ensures.taken) bytes told)
