use Rattle.forest.proofs.AloneLaws.{own_has_own_way}
use Rattle.forest.proofs.calls.own_has_own_way.Goals as goal

pub returns : goal.returns
returns c = own_has_own_way
