use Rattle.std.proofs.Common.{◌≡◌, Some, vec_len}
use Rattle.unix_model.specs.Memory.{bytes_at}
use Rattle.flat_memory.specs.PagesView.{table_of}
use Rattle.flat_memory.proofs.pages.Pages.bytes.Given as goal

abbrev pub invariant-loop-i : goal.invariant-loop-i
invariant-loop-i l = record {
  found : Some l.bytes.items ≡ bytes_at (table_of l.self) l.address l.i;
  len : vec_len l.bytes ≡ l.i;
}
