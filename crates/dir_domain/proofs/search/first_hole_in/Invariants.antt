use Rattle.std.proofs.Common.{◌≡◌, None}
use Rattle.kernel_tables.specs.Kernel.{kernel_of, memory_page}
use Rattle.unix_model.specs.Tables.{least_below}
use Rattle.dir_domain.specs.Places.{is_hole}
use Rattle.dir_domain.proofs.search.first_hole_in.Given as goal

-- no place so far is a hole
abbrev pub invariant-loop-number : goal.invariant-loop-number
invariant-loop-number g l = least_below (is_hole (memory_page (kernel_of (g.T.Store.memory l.store)) l.page.0)) l.number ≡ None
