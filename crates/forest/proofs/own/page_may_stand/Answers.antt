use Rattle.forest.proofs.DescentLaws.{page_may_stand}
use Rattle.forest.proofs.own.page_may_stand.Goals as goal

pub returns : goal.returns
returns c = page_may_stand
