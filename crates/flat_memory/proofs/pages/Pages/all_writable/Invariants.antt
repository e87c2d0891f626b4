use Rattle.std.proofs.Common.{◌≡◌, true}
use Rattle.unix_model.specs.Memory.{all_writable}
use Rattle.flat_memory.specs.PagesView.{table_of}
use Rattle.flat_memory.proofs.pages.Pages.all_writable.Given as goal

abbrev pub invariant-loop-i : goal.invariant-loop-i
invariant-loop-i l = all_writable (table_of l.self) l.address l.i ≡ true
