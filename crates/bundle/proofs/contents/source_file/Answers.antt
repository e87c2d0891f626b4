use Rattle.bundle.specs.Lines.{lines_begun}
use Rattle.bundle.specs.Parts.{part_of}
use Rattle.bundle.specs.declared.said.Form.TheVariants.{Asm}
use Rattle.bundle.proofs.MadeLaws.{ok-as, err-as, source-whole, source-refused, source-broken}
use Rattle.bundle.proofs.contents.source_file.Goals as goal

pub returns-in-Ok-Whole-clause-made : goal.returns-in-Ok-Whole-clause-made
returns-in-Ok-Whole-clause-made g c =
    ok-as c.file_of.result _ _ (λ file made. λ bytes told.
    source-whole (part_of Asm c.args.count bytes) (lines_begun c.args.lines.now) c.args.count (lines_begun c.read_part.new.lines) c.read_part.new.bytes.items file.items (g.S.Source.left c.read_part.new.from) ((rw c.in-Ok-Whole.field-0-is at c.in-Ok-Whole.ensures.taken) bytes told) made)
    (rw c.as_slice.ensures.value at c.file_of.ensures.made)

pub returns-in-Ok-Whole-clause-fault : goal.returns-in-Ok-Whole-clause-fault
returns-in-Ok-Whole-clause-fault g c =
    err-as c.file_of.result _ _ (λ fault refused. λ bytes told.
    source-refused (part_of Asm c.args.count bytes) (lines_begun c.args.lines.now) c.args.count (lines_begun c.read_part.new.lines) c.read_part.new.bytes.items (g.S.Source.left c.read_part.new.from) fault ((rw c.in-Ok-Whole.field-0-is at c.in-Ok-Whole.ensures.taken) bytes told) refused)
    (rw (c.as_slice.ensures.value, c.line-number.ensures) at c.file_of.ensures.refused)

pub returns-in-Ok-Broken-clause-fault : goal.returns-in-Ok-Broken-clause-fault
returns-in-Ok-Broken-clause-fault g c = λ bytes told.
    source-broken (part_of Asm c.args.count bytes) (lines_begun c.args.lines.now) c.args.count c.in-Ok-Broken.line c.in-Ok-Broken.kind c.read_part.new.bytes.items c.front_fault.result ((rw c.in-Ok-Broken.field-0-is at c.in-Ok-Broken.ensures.taken) bytes told)
    (rw (c.as_slice-in-Ok-Broken.ensures.value, c.line-number.ensures) at c.front_fault.ensures.refused)
