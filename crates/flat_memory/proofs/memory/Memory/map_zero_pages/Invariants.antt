use Rattle.std.proofs.Common.{◌≡◌}
use Rattle.unix_model.specs.Memory.{with_zero_pages}
use Rattle.flat_memory.specs.MemoryView.{memory_of}
use Rattle.flat_memory.proofs.memory.Memory.map_zero_pages.Given as goal

abbrev pub invariant-loop-number : goal.invariant-loop-number
invariant-loop-number l = memory_of l.self ≡ with_zero_pages (memory_of l.initial.self) l.from l.number
