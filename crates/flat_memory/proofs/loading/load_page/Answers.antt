use Rattle.std.proofs.Common.{◌≡◌, arith, ap, sym, ◌∙◌, Some, None}
use Rattle.unix_model.specs.Memory.{Memory}
use Rattle.unix_model.specs.Tables.{at}
use Rattle.flat_memory.specs.MemoryView.{memory_of}
use Rattle.flat_memory.specs.PageView.{page_of}
use Rattle.flat_memory.specs.Stacked.{stacked_image}
use Rattle.flat_memory.proofs.ImageLaws.{keeps-same, keeps-more, none-of, part-less, part-more, whole-at}
use Rattle.flat_memory.proofs.loading.load_page.Goals as goal

pub returns-then-has-clause-keeps : goal.returns-then-has-clause-keeps
returns-then-has-clause-keeps c = keeps-same (memory_of c.args.memory.now)

pub returns-then-mapped-limit-clause-keeps : goal.returns-then-mapped-limit-clause-keeps
returns-then-mapped-limit-clause-keeps c = keeps-same (memory_of c.args.memory.now)

pub returns-then-mapped-limit-clause-full : goal.returns-then-mapped-limit-clause-full
returns-then-mapped-limit-clause-full c = λ _.
    let memory : Memory = memory_of c.args.memory.now in
    let whole : Memory = stacked_image c.args.file.now c.args.loads.now c.args.stack.now.pointer c.args.stack.now.bytes.items in
    let free : at memory c.args.page ≡ None = none-of (at memory c.args.page) (sym c.has.ensures ∙ c.if-has.false) in
    omega (arith, c.mapped.ensures.mapped, c.if-mapped-limit.true, part-less memory whole c.args.page _ c.requires.part c.requires.page.0 (whole-at c.args.file.now c.args.loads.now c.args.stack.now.pointer c.args.stack.now.bytes.items c.args.page c.requires.page.1) free)

pub returns-in-Ok-map-clause-part : goal.returns-in-Ok-map-clause-part
returns-in-Ok-map-clause-part c =
    let whole : Memory = stacked_image c.args.file.now c.args.loads.now c.args.stack.now.pointer c.args.stack.now.bytes.items in
    rw c.in-Ok-map.ensures (part-more (memory_of c.args.memory.now) whole c.args.page (Some (page_of c.in-Ok.made)) c.requires.part
    (whole-at c.args.file.now c.args.loads.now c.args.stack.now.pointer c.args.stack.now.bytes.items c.args.page c.requires.page.1 ∙ ap (λ page. Some page) (sym c.in-Ok.ensures)))

pub returns-in-Ok-map-clause-keeps : goal.returns-in-Ok-map-clause-keeps
returns-in-Ok-map-clause-keeps c = rw c.in-Ok-map.ensures (keeps-more (memory_of c.args.memory.now) c.args.page (page_of c.in-Ok.made))
