use Rattle.std.proofs.Common.{◌∙◌, arith}
use Rattle.flat_memory.specs.StringsView.{strings_of}
use Rattle.flat_memory.proofs.ImageLaws.{image-by}
use Rattle.flat_memory.proofs.StackLaws.{strings-few}
use Rattle.flat_memory.proofs.loading.load_program.Goals as goal

pub returns-in-Ok-None-clause-full : goal.returns-in-Ok-None-clause-full
returns-in-Ok-None-clause-full c =
    rw (image-by c.args.file.now c.args.loads.now (strings_of c.args.strings.now) c.in-Ok.stack.pointer c.in-Ok.stack.bytes.items c.in-Ok.ensures.pointer c.in-Ok.ensures.bytes) at (rw c.in-Ok-None.field-0-is at c.in-Ok-None.ensures.full)

pub overflow_cast-registers : goal.overflow_cast-registers
overflow_cast-registers c = omega (arith, strings-few c.args.strings.now, c.requires.strings)

pub returns-clause-memory : goal.returns-clause-memory
returns-clause-memory c =
    (rw c.in-Ok-Some.field-0-is at c.in-Ok-Some.ensures.whole)
    ∙ image-by c.args.file.now c.args.loads.now (strings_of c.args.strings.now) c.in-Ok.stack.pointer c.in-Ok.stack.bytes.items c.in-Ok.ensures.pointer c.in-Ok.ensures.bytes
