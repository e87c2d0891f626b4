use Rattle.forest.proofs.DescentLaws.{changes_one_page}
use Rattle.forest.proofs.own.changes_one_page.Goals as goal

pub returns : goal.returns
returns c = changes_one_page
