use Rattle.flat_memory.specs.MemoryView.{memory_of}
use Rattle.flat_memory.specs.Stacked.{stacked_image, AreMapped, IsPart, Keeps}
use Rattle.flat_memory.proofs.loading.load_pages.Given as goal

abbrev pub invariant-loop-page : goal.invariant-loop-page
invariant-loop-page l = record {
  part : IsPart (memory_of l.memory) (stacked_image l.file l.loads l.stack.pointer l.stack.bytes.items);
  mapped : AreMapped (memory_of l.memory) l.from l.page;
  keeps : Keeps (memory_of l.initial.memory) (memory_of l.memory);
}
