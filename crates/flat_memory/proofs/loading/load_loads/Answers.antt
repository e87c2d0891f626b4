use Rattle.std.proofs.Common.{arith}
use Rattle.flat_memory.specs.MemoryView.{memory_of}
use Rattle.flat_memory.proofs.ImageLaws.{loaded-next, loaded-none, pages-of-load}
use Rattle.flat_memory.proofs.loading.load_loads.Goals as goal

pub loop-load-init : goal.loop-load-init
loop-load-init c = record { part = c.requires.part; loaded = loaded-none (memory_of c.args.memory.now) }

pub load_load-requires-clause-pages : goal.load_load-requires-clause-pages
load_load-requires-clause-pages c = pages-of-load c.args.loads.now c.loop-load.load-index _ (omega arith)

pub loop-load-preserved : goal.loop-load-preserved
loop-load-preserved c = record {
  part = c.in-Ok-true.ensures.part;
  loaded =
      loaded-next (memory_of c.loop-load.memory) (memory_of c.load_load.new.memory) c.args.loads.now c.loop-load.load-index _ (omega arith) c.loop-load.invariant.loaded
      c.in-Ok-true.ensures.keeps (c.load_load.ensures.mapped (cc));
}
