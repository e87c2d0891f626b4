use Rattle.unix_model.specs.Memory.{Memory}
use Rattle.flat_memory.specs.MemoryView.{memory_of}
use Rattle.flat_memory.specs.Stacked.{stacked_image}
use Rattle.flat_memory.proofs.ImageLaws.{loaded-kept, part-nothing, stack-pages, whole-is}
use Rattle.flat_memory.proofs.loading.image.Goals as goal

pub load_loads-requires-clause-part : goal.load_loads-requires-clause-part
load_loads-requires-clause-part c =
    let whole : Memory = stacked_image c.args.file.now c.args.loads.now c.args.stack.now.pointer c.args.stack.now.bytes.items in
    rw c.in-Ok.ensures (part-nothing whole)

pub load_pages-requires-clause-pages : goal.load_pages-requires-clause-pages
load_pages-requires-clause-pages c = stack-pages c.args.loads.now

pub returns-in-Ok-true-load_pages-clause-whole : goal.returns-in-Ok-true-load_pages-clause-whole
returns-in-Ok-true-load_pages-clause-whole c =
    whole-is (memory_of c.load_pages.new.memory) c.args.file.now c.args.loads.now c.args.stack.now.pointer c.args.stack.now.bytes.items c.in-Ok-true-load_pages.ensures.part
    (loaded-kept (memory_of c.load_loads.new.memory) (memory_of c.load_pages.new.memory) c.args.loads.now (c.load_loads.ensures.mapped (cc)) c.in-Ok-true-load_pages.ensures.keeps)
    (c.load_pages.ensures.mapped (cc))
