use Rattle.std.proofs.Common.{sym, ◌∙◌}
use Rattle.kernel_tables.specs.Kernel.{kernel_of, memory_page}
use Rattle.file_tables.proofs.LeastLaws.{least_found}
use Rattle.dir_domain.specs.Places.{is_hole}
use Rattle.dir_domain.proofs.search.first_hole_in.Goals as goal

pub returns-then-is_hole : goal.returns-then-is_hole
returns-then-is_hole g c =
    sym (least_found (is_hole (memory_page (kernel_of (g.T.Store.memory c.args.store.now)) c.args.page.0)) c.loop-number.number c.args.count c.loop-number.invariant
    (sym c.is_hole.ensures ∙ c.if-is_hole.true) c.loop-number-test.true)
