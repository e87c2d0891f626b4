use Rattle.std.proofs.Common.{◌+◌, ◌/◌, ◌==◌, ap, arith, sym, ◌∙◌}
use Rattle.std.specs.Prelude.{slice_index}
use Rattle.kernel_tables.specs.Kernel.{kernel_of, description_at}
use Rattle.file_tables.proofs.FreeRowLaws.{free_description_read, free_row, table_page}
use Rattle.file_tables.proofs.free_numbers.is_free_description.Goals as goal

pub read_page-requires-clause-page : goal.read_page-requires-clause-page
read_page-requires-clause-page g c =
    let below = c.requires.number in
    table_page (g.T.Store.memory c.args.store.now) (10 + c.args.number / 256) c.requires.sized (omega arith)

pub returns-clause-answer : goal.returns-clause-answer
returns-clause-answer g c =
    ap (λ bytes. slice_index bytes 0 == 0) c.read_page.ensures
    ∙ free_description_read (g.T.Store.memory c.args.store.now) c.args.number c.requires.sized c.requires.good c.requires.number

pub returns-clause-free : goal.returns-clause-free
returns-clause-free g c =
    λ e. free_row (description_at (kernel_of (g.T.Store.memory c.args.store.now)) c.args.number) (sym (returns-clause-answer g c) ∙ e)
