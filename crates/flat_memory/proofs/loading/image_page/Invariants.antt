use Rattle.std.proofs.Common.{◌≡◌, ◌+◌, ◌*◌, vec_len}
use Rattle.unix_model.specs.Tables.{tabulate}
use Rattle.flat_memory.specs.Stacked.{stacked_byte}
use Rattle.flat_memory.proofs.loading.image_page.Given as goal

abbrev pub invariant-loop-place : goal.invariant-loop-place
invariant-loop-place l = record {
  bytes : l.bytes.items ≡ tabulate (λ place. stacked_byte l.file l.loads l.stack.pointer l.stack.bytes.items (4096 * l.page + place)) l.place;
  len : vec_len l.bytes ≡ l.place;
}
