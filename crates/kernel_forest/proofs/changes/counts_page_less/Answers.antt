use Rattle.kernel_forest.proofs.Moves.{lowers_page_key}
use Rattle.kernel_forest.proofs.changes.counts_page_less.Goals as goal

pub returns : goal.returns
returns c = lowers_page_key
