use Rattle.std.proofs.Common.{◌≡◌}
use Rattle.unix_model.specs.Memory.{mapped_pages, with_zero_pages, without_pages}
use Rattle.flat_memory.specs.MemoryView.{memory_of}
use Rattle.flat_memory.proofs.memory.Memory.mapped_without.Given as goal

abbrev pub invariant-loop-number : goal.invariant-loop-number
invariant-loop-number l = l.left ≡ mapped_pages (without_pages (with_zero_pages (memory_of l.self) l.start l.from) l.from l.number)
