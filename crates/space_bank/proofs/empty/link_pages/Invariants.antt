use Rattle.std.proofs.Common.{◌≡◌}
use Rattle.kn_base.specs.Rows.{overwritten}
use Rattle.kernel_tables.specs.Kernel.{kernel_of, first_page}
use Rattle.space_bank.specs.Setup.{free_entries}
use Rattle.space_bank.proofs.empty.link_pages.Given as goal

-- so many pages are linked so far
abbrev pub invariant-loop-n : goal.invariant-loop-n
invariant-loop-n g l = record {
  linked :
      kernel_of (g.T.Store.memory l.store)
      ≡ record (kernel_of (g.T.Store.memory l.fn.store)) { page_entries = overwritten (kernel_of (g.T.Store.memory l.fn.store)).page_entries 0 (free_entries (first_page l.pages) l.pages 0 l.n) };
  kept : g.T.Store.keeps l.fn.store l.store;
}
