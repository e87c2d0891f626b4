use Rattle.flat_memory.specs.PagesView.{table_of}
use Rattle.flat_memory.proofs.PageLaws.{regions-copied}
use Rattle.flat_memory.proofs.pages.Pages.copy.Goals as goal

pub returns : goal.returns
unfolding table_of
returns c = regions-copied _ c.args.self.now.regions.items c.in_ok-regions.regions.items (λ x y e. e) (λ x e. e) (λ y e. e) c.in_ok-regions.ensures.cases.0
