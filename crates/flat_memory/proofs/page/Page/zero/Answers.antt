use Rattle.std.proofs.Common.{ap, true, List, ℕ}
use Rattle.unix_model.specs.Memory.{Page, zero_page}
use Rattle.flat_memory.proofs.page.Page.zero.Goals as goal

pub returns : goal.returns
unfolding zero_page
returns c = ap (λ (bytes : List ℕ). let page : Page = record { writable = true; bytes = bytes } in page) c.in_ok-from_slice.ensures.items
