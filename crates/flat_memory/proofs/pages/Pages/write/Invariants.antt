use Rattle.std.proofs.Common.{◌≡◌, ◌+◌, drop}
use Rattle.unix_model.specs.Memory.{with_bytes}
use Rattle.flat_memory.specs.PagesView.{table_of}
use Rattle.flat_memory.proofs.pages.Pages.write.Given as goal

-- so far, and the rest
abbrev pub invariant-loop-i : goal.invariant-loop-i
invariant-loop-i l = with_bytes (table_of l.self) (l.address + l.i) (drop l.i l.bytes) ≡ with_bytes (table_of l.fn.self) l.address l.bytes
