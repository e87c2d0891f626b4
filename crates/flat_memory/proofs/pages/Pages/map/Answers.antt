use Rattle.std.proofs.Common.{arith, sym, Some, None, ap, ◌∙◌, ◌/◌, ◌%◌}
use Rattle.flat_memory.specs.PagesView.{table_of}
use Rattle.flat_memory.specs.PageView.{page_of}
use Rattle.unix_model.specs.Tables.{with_at}
use Rattle.flat_memory.specs.RegionView.{region_of}
use Rattle.flat_memory.proofs.PageLaws.{region-mapped, pages-read}
use Rattle.flat_memory.proofs.pages.Pages.map.Goals as goal
use Rattle.flat_memory.proofs.pages.Pages.map.Goals.{in-Some, in-None+in_ok-region-in-None}

pub returns-clause-ok : goal.returns-clause-ok
unfolding table_of
returns-clause-ok c =
    region-mapped c.args.self.now.regions.items c.args.number c.take.new.self (Some c.map.new.self) (Some (page_of c.args.page)) (omega (arith, c.args.self.now.full))
    (c.map.ensures ∙ ap (λ pages. with_at pages (c.args.number % 1024) (Some (page_of c.args.page)))
    (elim c.match-take.branch [
      | in-Some w ↦ ap region_of w.region-is ∙ pages-read c.args.self.now.regions.items (c.args.number / 1024) c.index_mut.result.now (Some w.in-Some.region) (omega (arith, c.args.self.now.full)) c.index_mut.ensures.value (sym c.take.ensures.value ∙ w.in-Some.is)
      | in-None+in_ok-region-in-None w ↦ ap region_of w.region-is ∙ (w.in_ok-region-in-None.ensures ∙ pages-read c.args.self.now.regions.items (c.args.number / 1024) c.index_mut.result.now None (omega (arith, c.args.self.now.full)) c.index_mut.ensures.value (sym c.take.ensures.value ∙ w.in-None.is))
    ]))
