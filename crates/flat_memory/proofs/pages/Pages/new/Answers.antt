use Rattle.flat_memory.specs.PagesView.{table_of}
use Rattle.flat_memory.proofs.PageLaws.{table-none}
use Rattle.flat_memory.proofs.pages.Pages.new.Goals as goal

pub returns : goal.returns
unfolding table_of
returns c = table-none _ c.in_ok-free_places.ensures.free
