use Rattle.std.proofs.Common.{◌≡◌, ◌*◌, None}
use Rattle.std.specs.Prelude.{min}
use Rattle.kernel_tables.specs.Kernel.{kernel_of}
use Rattle.unix_model.specs.Tables.{least_below}
use Rattle.dir_domain.specs.Places.{has_name}
use Rattle.dir_domain.specs.Rows.{bytes_stored}
use Rattle.dir_domain.proofs.search.first_named.Given as goal

-- no place of the pages so far has the name
abbrev pub invariant-loop-page : goal.invariant-loop-page
invariant-loop-page g l = least_below (has_name l.name (bytes_stored (kernel_of (g.T.Store.memory l.store)) l.row)) (min (128 * l.page) l.count) ≡ None
