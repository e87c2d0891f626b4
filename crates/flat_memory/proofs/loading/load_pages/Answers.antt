use Rattle.std.proofs.Common.{arith}
use Rattle.flat_memory.specs.MemoryView.{memory_of}
use Rattle.flat_memory.proofs.ImageLaws.{keeps-same, keeps-then, mapped-all, mapped-next, mapped-none, pages-at}
use Rattle.flat_memory.proofs.loading.load_pages.Goals as goal

pub loop-page-init : goal.loop-page-init
loop-page-init c = record {
  part = c.requires.part;
  mapped = mapped-none (memory_of c.args.memory.now) c.args.from;
  keeps = keeps-same (memory_of c.args.memory.now);
}

pub load_page-requires-clause-page : goal.load_page-requires-clause-page
load_page-requires-clause-page c = (omega arith, pages-at c.args.loads.now c.args.from c.args.to c.loop-page.page c.requires.pages (omega arith) (omega arith))

pub returns-in-Ok-false-clause-keeps : goal.returns-in-Ok-false-clause-keeps
returns-in-Ok-false-clause-keeps c =
    keeps-then (memory_of c.args.memory.now) (memory_of c.loop-page.memory) (memory_of c.load_page.new.memory) c.loop-page.invariant.keeps c.in-Ok-false.ensures.keeps

pub loop-page-preserved : goal.loop-page-preserved
loop-page-preserved c = record {
  part = c.in-Ok-true.ensures.part;
  mapped = mapped-next (memory_of c.loop-page.memory) (memory_of c.load_page.new.memory) c.args.from c.loop-page.page c.loop-page.invariant.mapped c.in-Ok-true.ensures.keeps (c.load_page.ensures.there (cc));
  keeps = keeps-then (memory_of c.args.memory.now) (memory_of c.loop-page.memory) (memory_of c.load_page.new.memory) c.loop-page.invariant.keeps c.in-Ok-true.ensures.keeps;
}

pub returns-clause-mapped : goal.returns-clause-mapped
returns-clause-mapped c = λ _. mapped-all (memory_of c.loop-page.memory) c.args.from c.loop-page.page c.args.to c.loop-page.invariant.mapped (omega arith)
