use Rattle.std.proofs.Common.{◌≡◌, arith, ◌+◌, ◌/◌}
use Rattle.flat_memory.specs.MemoryView.{memory_of}
use Rattle.flat_memory.proofs.ImageLaws.{range-loaded, range-pages}
use Rattle.flat_memory.proofs.loading.load_load.Goals as goal

pub load_pages-requires-clause-pages : goal.load_pages-requires-clause-pages
load_pages-requires-clause-pages c =
    let to : c.div_ceil-to.result ≡ (c.args.load.now.at + c.args.load.now.memory_bytes + 4095) / 4096 = omega (arith, c.div_ceil-to.ensures) in
    rw to (range-pages c.args.loads.now c.args.load.now c.requires.load.not_empty c.requires.pages)

pub returns-clause-mapped : goal.returns-clause-mapped
returns-clause-mapped c = λ done.
    let to : c.div_ceil-to.result ≡ (c.args.load.now.at + c.args.load.now.memory_bytes + 4095) / 4096 = omega (arith, c.div_ceil-to.ensures) in
    range-loaded (memory_of c.load_pages.new.memory) c.args.load.now (rw to at (c.load_pages.ensures.mapped done))
