use Rattle.std.proofs.Common.{take}
use Rattle.flat_memory.specs.MemoryView.{memory_of}
use Rattle.flat_memory.specs.Stacked.{stacked_image, AreLoaded, IsPart}
use Rattle.flat_memory.proofs.loading.load_loads.Given as goal

abbrev pub invariant-loop-load : goal.invariant-loop-load
invariant-loop-load l = record {
  part : IsPart (memory_of l.memory) (stacked_image l.file l.loads l.stack.pointer l.stack.bytes.items);
  loaded : AreLoaded (memory_of l.memory) (take l.load-index l.loads);
}
