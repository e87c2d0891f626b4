use Rattle.std.proofs.Common.{sym, ◌∙◌}
use Rattle.kernel_tables.specs.Kernel.{kernel_of, memory_page}
use Rattle.file_tables.proofs.LeastLaws.{least_found}
use Rattle.dir_domain.specs.Places.{has_name}
use Rattle.dir_domain.proofs.search.first_named_in.Goals as goal

pub returns-then-is_named : goal.returns-then-is_named
returns-then-is_named g c =
    sym (least_found (has_name c.args.name.now (memory_page (kernel_of (g.T.Store.memory c.args.store.now)) c.args.page.0)) c.loop-number.number c.args.count c.loop-number.invariant
    (sym c.is_named.ensures ∙ c.if-is_named.true) c.loop-number-test.true)
