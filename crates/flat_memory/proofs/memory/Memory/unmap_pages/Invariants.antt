use Rattle.std.proofs.Common.{◌≡◌}
use Rattle.unix_model.specs.Memory.{without_pages}
use Rattle.flat_memory.specs.MemoryView.{memory_of}
use Rattle.flat_memory.proofs.memory.Memory.unmap_pages.Given as goal

abbrev pub invariant-loop-number : goal.invariant-loop-number
invariant-loop-number l = memory_of l.self ≡ without_pages (memory_of l.initial.self) l.from l.number
