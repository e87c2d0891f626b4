use Rattle.std.proofs.Common.{arith, sym, Some, None, ap, ◌∙◌, ◌%◌}
use Rattle.unix_model.specs.Tables.{with_at}
use Rattle.flat_memory.specs.PagesView.{table_of, pages_in}
use Rattle.flat_memory.proofs.PageLaws.{region-changed, region-kept}
use Rattle.flat_memory.proofs.pages.Pages.unmap.Goals as goal

pub returns-in-Some : goal.returns-in-Some
unfolding table_of
returns-in-Some c =
    region-changed c.args.self.now.regions.items c.args.number c.index_mut.result.now (Some c.unmap.new.self) None (omega (arith, c.args.self.now.full))
    c.index_mut.ensures.value
    (c.unmap.ensures ∙ ap (λ region. with_at (pages_in region) (c.args.number % 1024) None) (sym c.in-Some.is))

pub returns-in-None : goal.returns-in-None
unfolding table_of
returns-in-None c =
    region-changed c.args.self.now.regions.items c.args.number c.index_mut.result.now c.index_mut.result.now None (omega (arith, c.args.self.now.full))
    c.index_mut.ensures.value (region-kept c.index_mut.result.now (c.args.number % 1024) c.in-None.is)
